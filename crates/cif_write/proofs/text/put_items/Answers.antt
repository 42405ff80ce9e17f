use Rattle.std.proofs.Common.{◌≡◌, ◌∷◌, true, rules}
use Rattle.std.specs.Prelude.{is_none}
use Rattle.byte_io.proofs.BufferedLemmas.{Buffered-is}
use Rattle.cif_write.specs.Boxes.{line_text_as}
use Rattle.cif_write.proofs.BegunLemmas.{Begun-failed, Begun-nothing, Begun-then}
use Rattle.cif_write.proofs.LineLemmas.{items_text-step}
use Rattle.cif_write.proofs.text.put_items.Goals as goal

-- nothing has been put
pub loop-item-init : goal.loop-item-init
loop-item-init g c = Begun-nothing c.args.out.now c.args.buffer.now _

-- the device has failed
pub returns-then-has_failed : goal.returns-then-has_failed
returns-then-has_failed g c =
    let failed : is_none c.loop-item.buffer ≡ true = search rules in
    Buffered-is (Begun-failed c.loop-item.invariant failed) (search rules)

-- the next item is put
pub loop-item-preserved : goal.loop-item-preserved
loop-item-preserved g c =
    let first : c.loop-item.item-iterator ≡ (c.in-Some.field-0-0, c.in-Some.item.now) ∷ c.next.new.self = search rules in
    Begun-then _ c.loop-item.invariant c.put_item-set.ensures.lines
    (items_text-step (line_text_as c.args.rectangles) c.loop-item.set c.put_item-set.result c.in-Some.field-0-0 c.in-Some.item.now
    c.loop-item.item-iterator c.next.new.self first c.put_item-set.ensures.set)
