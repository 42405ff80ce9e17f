use Rattle.std.proofs.Common.{◌≡◌, ◌∙◌, ◌+◌, [], ◌∷◌, List, ap, drop, subst, sym}
use Rattle.std.proofs.lemmas.List.{drop_all, drop_more}
use Rattle.txn_commands.specs.declared.element.Element.{Element}
use Rattle.undo_index.specs.Listed.{Listed}
use Rattle.undo_index.proofs.ListedLemmas.{Removes, all_removed, removes_begin, removes_one, removes_own}
use Rattle.undo_index.proofs.listing.Listing.remove.Goals as goal
use Rattle.undo_index.proofs.listing.Listing.remove.Goals.{then-not-is_made_by, else-not-is_made_by}

pub loop-element-init : goal.loop-element-init
loop-element-init c =
    removes_begin c.args.self.now c.args.txn c.args.elements.now c.args.place c.as_slice-element-items.result.now
    c.as_slice-element-items.ensures

pub loop-element-preserved : goal.loop-element-preserved
loop-element-preserved c =
    let old = c.args.self.now in
    let list = c.as_slice-element-items.result.now in
    let i = c.loop-element.element-index in
    let x = c.element-item.result in
    let rest : drop i list ≡ x ∷ drop (i + 1) list =
    drop_more list i x c.loop-element-test.true ∙ ap (λ (y : Element). y ∷ drop (i + 1) list) (sym c.element-item.is) in
    let left = drop (i + 1) list in
    let before = subst (λ (xs : List Element). Removes old c.args.txn c.args.elements.now c.args.place c.loop-element.self xs) rest
    c.loop-element.invariant in
    let after : Listed → Type 0 = λ s. Removes old c.args.txn c.args.elements.now c.args.place s left in
    elim c.if-not-is_made_by.branch [
      | then-not-is_made_by w ↦
          subst after (sym (w.self-is ∙ w.remove_one.ensures))
          (removes_one old c.args.txn c.args.elements.now c.args.place c.loop-element.self x left
          (sym c.is_made_by.ensures ∙ w.if-not-is_made_by.true) before)
      | else-not-is_made_by w ↦
          subst after (sym w.self-is)
          (removes_own old c.args.txn c.args.elements.now c.args.place c.loop-element.self x left
          (sym c.is_made_by.ensures ∙ w.if-not-is_made_by.false) before)
    ]

pub returns : goal.returns
returns c =
    let old = c.args.self.now in
    let list = c.as_slice-element-items.result.now in
    let none : drop c.loop-element.element-index list ≡ [] = drop_all c.loop-element.element-index list c.loop-element-test.false in
    all_removed old c.args.txn c.args.elements.now c.args.place c.loop-element.self
    (subst (λ (xs : List Element). Removes old c.args.txn c.args.elements.now c.args.place c.loop-element.self xs) none
    c.loop-element.invariant)
