-- All was put but the lines of the items that are left.
use Rattle.std.proofs.Common.{None, map}
use Rattle.cif_write.specs.Boxes.{lines_text_as}
use Rattle.cif_write.specs.Text.{items_lines}
use Rattle.cif_write.specs.Wrap.{entry_item}
use Rattle.cif_write.proofs.BegunLemmas.{Begun}
use Rattle.cif_write.proofs.text.put_items.Given as goal

abbrev pub invariant-loop-item : goal.invariant-loop-item
invariant-loop-item g l =
    Begun g.O.Out.written g.O.Out.failures l.initial.out l.initial.buffer l.out l.buffer
    (lines_text_as l.rectangles (items_lines l.set (map entry_item l.item-iterator)))
    (lines_text_as l.rectangles (items_lines None (map entry_item l.initial.item-iterator)))
