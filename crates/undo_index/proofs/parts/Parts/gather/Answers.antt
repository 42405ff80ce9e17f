use Rattle.std.proofs.Common.{◌≡◌, ◌∙◌, ◌||◌, None, Some, ap, rules, sym}
use Rattle.std.specs.Prelude.{nat_lt}
use Rattle.std.specs.BTreeMap.{get}
use Rattle.std.proofs.lemmas.Result.{on_ok_weaker}
use Rattle.txn_commands.specs.Elements.{element_cmp}
use Rattle.undo_index.specs.First.{has_place}
use Rattle.lay_point.proofs.BoolLaws.{and-false, or-false}
use Rattle.undo_index.proofs.PartsLemmas.{gathered_found}
use Rattle.undo_index.proofs.parts.Parts.gather.Goals as goal

pub returns-in-Some : goal.returns-in-Some
returns-in-Some c =
    on_ok_weaker c.gather.result
    (gathered_found c.self.inside.places c.args.self.now c.self.view_is c.args.element (Some c.in-Some.kept.now) c.in-Some.ensures.value
    c.args.below c.args.found.now.items c.gather.new.found.items)
    c.gather.ensures

pub returns-in-None : goal.returns-in-None
returns-in-None c =
    let old = c.args.found.now.items in
    let none : None ≡ get element_cmp c.self.inside.places c.args.element = search rules in
    gathered_found c.self.inside.places c.args.self.now c.self.view_is c.args.element None none c.args.below old old
    (λ p. sym (ap (λ b. has_place old p || b) (and-false (nat_lt p c.args.below)) ∙ or-false (has_place old p)))
