use Rattle.std.proofs.Common.{◌≡◌, true, pos, ◌+ℤ◌, w32, to_z, of_z, get_or, rules, sym, ap, ◌∙◌}
use Rattle.lay_oriented.specs.Slants.{counts, ending_above, is_sound_band}
use Rattle.lay_oriented.proofs.SweepLemmas.{swept_all, swept_first, swept_more}
use Rattle.lay_oriented.proofs.sweep.are_once.Goals as goal

pub loop-height-init : goal.loop-height-init
loop-height-init c =
    swept_first c.args.slants.now (to_z w32 (of_z w32 c.lowest-row.result)) c.new-active.result.items
    (sym c.are_begun_from.ensures ∙ c.if-not-are_begun_from.false) c.new-active.ensures.items

pub loop-height-preserved : goal.loop-height-preserved
loop-height-preserved c =
    let slants = c.args.slants.now in
    let old = c.loop-height.active.items in
    let left = c.loop-height.left.now in
    let height = to_z w32 (of_z w32 (get_or c.as_slice-height-items.result.now c.loop-height.height-index (pos 0))) in
    let row = to_z w32 c.loop-height.row-bits in
    let kept : c.in_ok-active.active.items ≡ ending_above height old =
    c.in_ok-active.ensures ∙ ap (ending_above height) c.as_slice-in-loop-height-2.ensures.value in
    let sound : is_sound_band old left row height ≡ true =
    ap (λ a. is_sound_band a left row height) (sym c.as_slice-in-loop-height.ensures.value) ∙ sym c.is_sound_band.ensures
    ∙ c.if-not-is_sound_band.false in
    swept_more slants row old left height c.add_begun.new.active.items c.in_ok-left.left.now c.loop-height.invariant sound
    (λ k x y. c.in_ok-left.ensures.sums k x y ∙ ap (λ a. counts k x y a +ℤ counts k x y left) kept)
    (c.in_ok-left.ensures.order c.loop-height.invariant.order)

pub returns : goal.returns
returns c = λ over. swept_all c.args.slants.now _ c.loop-height.active.items c.loop-height.left.now c.loop-height.invariant
    (search rules) (search rules)
