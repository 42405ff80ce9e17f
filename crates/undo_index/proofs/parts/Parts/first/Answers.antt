use Rattle.std.proofs.Common.{◌≡◌, ℕ, None, Option, Some, refl, rules, subst}
use Rattle.std.specs.BTreeMap.{get}
use Rattle.txn_commands.specs.Elements.{element_cmp}
use Rattle.undo_index.specs.First.{IsFirst}
use Rattle.undo_index.specs.Listed.{is_listed}
use Rattle.undo_index.proofs.PartsLemmas.{first_found}
use Rattle.undo_index.proofs.parts.Parts.first.Goals as goal

pub returns-in_err-get : goal.returns-in_err-get
returns-in_err-get c =
    let none : None ≡ get element_cmp c.self.inside.places c.args.element = search rules in
    let is : None ≡ c.from_residual.result = search rules in
    subst (λ (o : Option ℕ). IsFirst (is_listed c.args.self.now c.args.element) c.args.from o) is
    (first_found c.self.inside.places c.args.self.now c.self.view_is c.args.element None none c.args.from None (λ p low. refl))

pub returns : goal.returns
returns c =
    first_found c.self.inside.places c.args.self.now c.self.view_is c.args.element (Some c.in_ok-get.field-0.now)
    c.in_ok-get.ensures.value c.args.from c.first.result c.first.ensures
