use Rattle.std.proofs.Common.{◌≡◌, ◌∙◌, ◌+◌, [], ◌∷◌, List, ap, drop, rules, subst, sym}
use Rattle.std.specs.FinSet.{insert}
use Rattle.std.proofs.lemmas.List.{drop_all, drop_more}
use Rattle.txn_commands.specs.declared.element.Element.{Element}
use Rattle.undo_index.specs.Listed.{Listed}
use Rattle.undo_index.proofs.ListedLemmas.{Adds, adds_begin, adds_one, adds_own, all_added, taken_back}
use Rattle.undo_index.proofs.listing.Listing.add.Goals as goal
use Rattle.undo_index.proofs.listing.Listing.add.Goals.{else-not-is_made_by-via-else-not-is_made_by}
use Rattle.undo_index.proofs.listing.Listing.add.Goals.{else-not-is_made_by-via-then-not-is_made_by+else-is_err}

pub loop-element-init : goal.loop-element-init
loop-element-init c =
    adds_begin c.args.self.now c.args.txn c.args.elements.now c.args.place c.as_slice-element-items.result.now
    c.as_slice-element-items.ensures

pub loop-element-preserved : goal.loop-element-preserved
loop-element-preserved c =
    let old = c.args.self.now in
    let list = c.as_slice-element-items.result.now in
    let i = c.loop-element.element-index in
    let x = c.element-item.result in
    let rest : drop i list ≡ x ∷ drop (i + 1) list =
    drop_more list i x c.loop-element-test.true ∙ ap (λ (y : Element). y ∷ drop (i + 1) list) (sym c.element-item.is) in
    let left = drop (i + 1) list in
    let before = subst (λ (xs : List Element). Adds old c.args.txn c.args.elements.now c.args.place c.loop-element.self xs) rest
    c.loop-element.invariant in
    let after : Listed → Type 0 = λ s. Adds old c.args.txn c.args.elements.now c.args.place s left in
    elim c.else-not-is_made_by.branch [
      | else-not-is_made_by-via-then-not-is_made_by+else-is_err w ↦
          let new : w.insert.new.self ≡ insert c.loop-element.self (x, c.args.place) = search rules in
          subst after (sym (w.self-is ∙ new))
          (adds_one old c.args.txn c.args.elements.now c.args.place c.loop-element.self x left
          (sym c.is_made_by.ensures ∙ w.if-not-is_made_by.true) before)
      | else-not-is_made_by-via-else-not-is_made_by w ↦
          subst after (sym w.self-is)
          (adds_own old c.args.txn c.args.elements.now c.args.place c.loop-element.self x left
          (sym c.is_made_by.ensures ∙ w.if-not-is_made_by.false) before)
    ]

pub returns-then-is_err-clause-err : goal.returns-then-is_err-clause-err
returns-then-is_err-clause-err c fresh =
    let old = c.args.self.now in
    let left = drop c.loop-element.element-index c.as_slice-element-items.result.now in
    let same : c.insert.new.self ≡ c.loop-element.self = search rules in
    taken_back old c.args.txn c.args.elements.now c.args.place c.insert.new.self c.remove.new.self left
    (subst (λ (s : Listed). Adds old c.args.txn c.args.elements.now c.args.place s left) (sym same) c.loop-element.invariant)
    c.remove.ensures fresh

pub returns-clause-ok : goal.returns-clause-ok
returns-clause-ok c =
    let old = c.args.self.now in
    let list = c.as_slice-element-items.result.now in
    let none : drop c.loop-element.element-index list ≡ [] = drop_all c.loop-element.element-index list c.loop-element-test.false in
    all_added old c.args.txn c.args.elements.now c.args.place c.loop-element.self
    (subst (λ (xs : List Element). Adds old c.args.txn c.args.elements.now c.args.place c.loop-element.self xs) none
    c.loop-element.invariant)
