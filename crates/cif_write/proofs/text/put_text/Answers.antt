-- The symbols, the symbol that wraps the top cell's items, the top cell's call and the end.
use Rattle.byte_io.proofs.BufferedLemmas.{Buffered-is, Buffered-then}
use Rattle.lay_cells.specs.declared.cell_id.CellId.TheVariants.{Top}
use Rattle.lay_layouts.specs.SlotOrder.{in_slot_order}
use Rattle.cif_write.specs.Boxes.{line_text_as, text_as}
use Rattle.cif_write.specs.Wrap.{held_in, least_unused, own_definitions, written}
use Rattle.cif_write.proofs.LineLemmas.{whole_text}
use Rattle.cif_write.proofs.text.put_text.Goals as goal

pub returns : goal.returns
unfolding text_as written
returns g c =
    let layout = c.args.snapshot.now in
    Buffered-is
    (Buffered-then (Buffered-then (Buffered-then c.put_definitions.ensures c.put_wrapping-called.ensures.lines) c.put_call.ensures)
    c.put.ensures)
    (whole_text (line_text_as c.args.rectangles) (own_definitions layout) (held_in layout Top)
    (least_unused (in_slot_order layout.symbols)) c.put_wrapping-called.result c.unturned.result c.put_wrapping-called.ensures.called
    c.unturned.ensures)
