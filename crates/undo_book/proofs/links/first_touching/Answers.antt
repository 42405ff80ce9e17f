use Rattle.std.proofs.Common.{◌≡◌, ◌∙◌, ◌+◌, ℕ, Bool, Option, [], ◌∷◌, List, ap, drop, slice_get, subst, sym}
use Rattle.std.proofs.lemmas.List.{drop_all, drop_more}
use Rattle.std.specs.FinSet.{items}
use Rattle.std.specs.List.{list_any}
use Rattle.txn_commands.specs.declared.element.Element.{Element}
use Rattle.txn_commands.specs.Lies.{passes}
use Rattle.undo_rules.specs.Links.{Entry}
use Rattle.undo_index.proofs.FirstLemmas.{Leaves, first_alike, leaves_less, leaves_none}
use Rattle.undo_index.proofs.FootprintLemmas.{any_so}
use Rattle.undo_book.specs.Indexed.{touched}
use Rattle.undo_book.proofs.links.first_touching.Goals as goal

-- the transaction at the place touched the element
abbrev there : List Entry → Element → ℕ → Bool
there es e p = passes (touched e) (slice_get es p)

pub loop-element-init : goal.loop-element-init
loop-element-init c b first =
    let es = c.args.entries.now in
    let list = c.as_slice-element-items.result.now in
    first_alike (λ p. list_any (λ e. there es e p) list) (λ p. list_any (λ e. there es e p) (items c.args.met.now)) c.args.from b
    (λ p. any_so (λ e. there es e p) list c.args.met.now c.as_slice-element-items.ensures) first

pub loop-element-preserved : goal.loop-element-preserved
loop-element-preserved c =
    let at = there c.args.entries.now in
    let all = items c.args.met.now in
    let list = c.as_slice-element-items.result.now in
    let i = c.loop-element.element-index in
    let x = c.element-item.result in
    let rest : drop i list ≡ x ∷ drop (i + 1) list =
    drop_more list i x c.loop-element-test.true ∙ ap (λ (y : Element). y ∷ drop (i + 1) list) (sym c.element-item.is) in
    subst (λ (o : Option ℕ). Leaves at c.args.from all (drop (i + 1) list) o) (sym c.lesser-first.ensures)
    (leaves_less at c.args.from all x (drop (i + 1) list) c.loop-element.first c.first_reader_of.result
    (subst (λ (xs : List Element). Leaves at c.args.from all xs c.loop-element.first) rest c.loop-element.invariant)
    c.first_reader_of.ensures)

pub returns : goal.returns
returns c =
    let at = there c.args.entries.now in
    let all = items c.args.met.now in
    let list = c.as_slice-element-items.result.now in
    let none : drop c.loop-element.element-index list ≡ [] = drop_all c.loop-element.element-index list c.loop-element-test.false in
    leaves_none at c.args.from all c.loop-element.first
    (subst (λ (xs : List Element). Leaves at c.args.from all xs c.loop-element.first) none c.loop-element.invariant)
