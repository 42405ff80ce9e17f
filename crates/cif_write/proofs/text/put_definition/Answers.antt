use Rattle.std.proofs.Common.{None, map}
use Rattle.byte_io.proofs.BufferedLemmas.{Buffered-is, Buffered-then}
use Rattle.cif_write.specs.Boxes.{line_text_as}
use Rattle.cif_write.specs.Text.{items_lines}
use Rattle.cif_write.specs.Wrap.{entry_item}
use Rattle.cif_write.proofs.LineLemmas.{definition_text}
use Rattle.cif_write.proofs.text.put_definition.Goals as goal

pub returns : goal.returns
returns g c =
    Buffered-is (Buffered-then (Buffered-then c.put_start.ensures c.put_items.ensures) c.put.ensures)
    (definition_text (line_text_as c.args.rectangles) c.args.number (items_lines None (map entry_item c.args.items)))
