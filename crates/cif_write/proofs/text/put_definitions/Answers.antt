use Rattle.std.proofs.Common.{◌≡◌, ◌<◌, ◌+◌, ℕ, List, Some, ap, arith, drop, length, map, rules, slice_get}
use Rattle.std.proofs.lemmas.Option.{get_or_from_slice_get}
use Rattle.lay_layouts.specs.declared.id.ItemId.{ItemId}
use Rattle.lay_layouts.specs.declared.item.Item.{Item}
use Rattle.byte_io.proofs.BufferedLemmas.{Buffered-is}
use Rattle.cif_write.specs.Boxes.{line_text_as, lines_text_as}
use Rattle.cif_write.specs.Text.{definition_lines, definitions_lines}
use Rattle.cif_write.specs.Wrap.{entry_item, written_definition}
use Rattle.cif_write.proofs.BegunLemmas.{Begun-then}
use Rattle.cif_write.proofs.LineLemmas.{definitions_text-step}
use Rattle.cif_write.proofs.text.put_definitions.Goals as goal

-- the symbol at this position is put
pub loop-position-preserved : goal.loop-position-preserved
loop-position-preserved g c =
    let snapshot = c.args.snapshot.now in
    let cells = c.cells-cells.result.now in
    let i = c.loop-position.position in
    let number = c.unwrap-number.result in
    let within : i < length cells = omega (arith, c.loop-position-test.true, c.len-position-end.ensures.value) in
    let at : slice_get cells i ≡ Some number = search rules in
    let of_items : List (ItemId × Item) → List ℕ =
    λ es. lines_text_as c.args.rectangles (definition_lines (record { number = number; items = map entry_item es })) in
    let left = λ (k : ℕ). lines_text_as c.args.rectangles (definitions_lines (map (written_definition snapshot) (drop k cells))) in
    Begun-then {rest = left i} (left (i + 1)) c.loop-position.invariant
    (Buffered-is c.put_definition.ensures (ap of_items c.items-items.ensures))
    (definitions_text-step (line_text_as c.args.rectangles) (written_definition snapshot) cells i number within
    (get_or_from_slice_get cells i number number at))
