use Rattle.std.proofs.Common.{◌≡◌, Some, true, false, not, rules}
use Rattle.std.specs.Option.{option_eq}
use Rattle.lay_point.specs.Bridges.{bridged}
use Rattle.lay_point.specs.Same.{names_eq}
use Rattle.byte_io.proofs.BufferedLemmas.{Buffered-is, Buffered-then}
use Rattle.cif_write.specs.Boxes.{line_text_as}
use Rattle.cif_write.proofs.LineLemmas.{path_text-set, path_text-unset}
use Rattle.cif_write.proofs.text.put_shape.Goals.{then-ne, else-ne}
use Rattle.cif_write.proofs.text.put_shape.Goals as goal

pub returns : goal.returns
returns g c = elim c.if-ne.branch [
  | then-ne w ↦
      let unset : not (option_eq names_eq c.args.set (Some c.args.layer)) ≡ true = search rules in
      Buffered-is (Buffered-then w.put_layer.ensures (rw (w.out-is, w.buffer-is) at c.put_figure.ensures))
      (path_text-unset (line_text_as c.args.rectangles) c.args.set c.args.layer (bridged c.args.rings.now) unset)
  | else-ne w ↦
      let set : not (option_eq names_eq c.args.set (Some c.args.layer)) ≡ false = search rules in
      Buffered-is (rw (w.out-is, w.buffer-is) at c.put_figure.ensures)
      (path_text-set (line_text_as c.args.rectangles) c.args.set c.args.layer (bridged c.args.rings.now) set)
]
