use Rattle.std.proofs.Common.{◌&&◌, refl, ap, ap₂, sym, ◌∙◌}
use Rattle.std.specs.Cmp.Lexicographic.{pointwise}
use Rattle.lay_layouts.specs.SameLayout.{id_eq}
use Rattle.txn_commands.specs.Compared.{entry_eq, same_in}
use Rattle.txn_marks.proofs.CompareLemmas.{call_eq, item_tested, same_calls, same_content, same_layer, shape_eq}
use Rattle.txn_marks.proofs.EqLemmas.{eq_from_lists}
use Rattle.txn_marks.proofs.same.same_in.Goals as goal

pub returns-in-Layer : goal.returns-in-Layer
returns-in-Layer c =
    eq_from_lists {view = λ lent. (lent.0, lent.1.now)} shape_eq c.eq.result c.eq.ensures.ran (λ x y. refl)
    ∙ ap₂ (pointwise shape_eq) c.shapes.ensures c.shapes-in-Layer.ensures
    ∙ same_layer c.in-Layer.cell c.in-Layer.layer c.args.l.now c.args.m.now
    ∙ ap (same_in c.args.l.now c.args.m.now) (sym c.in-Layer.is)

pub returns-in-Calls : goal.returns-in-Calls
returns-in-Calls c =
    eq_from_lists {view = λ lent. lent} call_eq c.eq-in-Calls.result c.eq-in-Calls.ensures.ran (λ x y. refl)
    ∙ ap₂ (pointwise call_eq) c.calls.ensures c.calls-in-Calls.ensures
    ∙ same_calls c.in-Calls.cell c.args.l.now c.args.m.now
    ∙ ap (same_in c.args.l.now c.args.m.now) (sym c.in-Calls.is)

pub returns-in-Content : goal.returns-in-Content
returns-in-Content c =
    eq_from_lists {view = λ lent. (lent.0, lent.1.now)} entry_eq c.eq-in-Content.result c.eq-in-Content.ensures.ran
    (λ x y. ap (λ b. id_eq x.0 y.0 && b) (item_tested x.1.now y.1.now))
    ∙ ap₂ (pointwise entry_eq) c.items.ensures c.items-in-Content.ensures
    ∙ same_content c.in-Content.number c.args.l.now c.args.m.now
    ∙ ap (same_in c.args.l.now c.args.m.now) (sym c.in-Content.is)
