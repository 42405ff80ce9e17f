-- All was put but the lines of the symbols that are left.
use Rattle.std.proofs.Common.{drop, map}
use Rattle.cif_write.specs.Boxes.{lines_text_as}
use Rattle.cif_write.specs.Text.{definitions_lines}
use Rattle.cif_write.specs.Wrap.{own_definitions, written_definition}
use Rattle.cif_write.proofs.BegunLemmas.{Begun}
use Rattle.cif_write.proofs.text.put_definitions.Given as goal

abbrev pub invariant-loop-position : goal.invariant-loop-position
invariant-loop-position g l =
    Begun g.O.Out.written g.O.Out.failures l.fn.out l.fn.buffer l.out l.buffer
    (lines_text_as l.rectangles (definitions_lines (map (written_definition l.snapshot) (drop l.position l.cells))))
    (lines_text_as l.rectangles (definitions_lines (own_definitions l.snapshot)))
