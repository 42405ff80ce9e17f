use Rattle.std.proofs.Common.{◌≡◌, ◌++◌, ◌∷◌, [], ◌+◌, ap, drop, rules, sym, take, ◌∙◌}
use Rattle.std.proofs.lemmas.List.{at_drop_more, take_more}
use Rattle.std.specs.FinSet.{insert}
use Rattle.txn_commands.specs.declared.element.Element.{Element}
use Rattle.txn_commands.specs.Elements.{with_elements}
use Rattle.txn_work.specs.Marking.{without_elements}
use Rattle.txn_work.proofs.Marks.{undone, with_more}
use Rattle.txn_work.proofs.marking.add_all.Goals as goal

pub returns-then-is_err-clause-err : goal.returns-then-is_err-clause-err
returns-then-is_err-clause-err c =
    let same : c.insert.new.self ≡ with_elements c.args.footprint.now (take c.loop-element.element-index c.args.fresh.now) = search rules in
    let gone : c.remove_all.new.footprint ≡ without_elements c.insert.new.self c.args.fresh.now = search rules in
    gone ∙ ap (λ t. without_elements t c.args.fresh.now) same ∙ undone c.args.footprint.now c.loop-element.element-index
    c.args.fresh.now c.requires

pub loop-element-preserved : goal.loop-element-preserved
loop-element-preserved c =
    let old = c.args.footprint.now in
    let fresh = c.args.fresh.now in
    let i = c.loop-element.element-index in
    let e = c.element-item.result in
    let more : take (i + 1) fresh ≡ take i fresh ++ e ∷ [] =
    take_more fresh i e c.loop-element-test.true ∙ ap (λ (x : Element). take i fresh ++ x ∷ []) (sym c.element-item.is) in
    let added : c.insert.new.self ≡ insert c.loop-element.footprint e = search rules in
    record {
      before = added ∙ ap (λ t. insert t e) c.loop-element.invariant.before
          ∙ sym (with_more old (take i fresh) e) ∙ ap (with_elements old) (sym more);
      after = ap (λ t. with_elements t (drop (i + 1) fresh)) added
          ∙ ap (λ (x : Element). with_elements c.loop-element.footprint (x ∷ drop (i + 1) fresh)) c.element-item.is
          ∙ sym (at_drop_more (with_elements c.loop-element.footprint) fresh i e c.loop-element-test.true)
          ∙ c.loop-element.invariant.after;
    }
