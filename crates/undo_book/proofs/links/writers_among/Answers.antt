use Rattle.std.proofs.Common.{◌≡◌, ◌∙◌, ◌||◌, ◌&&◌, [], ap, rules, slice_get}
use Rattle.std.specs.Prelude.{nat_lt}
use Rattle.std.specs.List.{list_any}
use Rattle.txn_commands.specs.Lies.{passes}
use Rattle.undo_index.specs.First.{has_place}
use Rattle.undo_index.proofs.FootprintLemmas.{any_so}
use Rattle.undo_book.specs.Indexed.{wrote}
use Rattle.undo_book.proofs.links.writers_among.Goals as goal

pub loop-element-init : goal.loop-element-init
loop-element-init c p =
    let es = c.args.entries.now in
    let list = c.as_slice-element-items.result.now in
    let none : c.new-found.result.items ≡ [] = search rules in
    ap (λ xs. has_place xs p || (nat_lt p c.args.below && list_any (λ e. passes (wrote e) (slice_get es p)) list)) none
    ∙ ap (λ b. nat_lt p c.args.below && b)
    (any_so (λ e. passes (wrote e) (slice_get es p)) list c.args.elements.now c.as_slice-element-items.ensures)
