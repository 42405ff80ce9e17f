-- All was put but the ways to the rings that are left.
use Rattle.std.proofs.Common.{◌≡◌, drop}
use Rattle.cif_write.specs.Lines.{path_text}
use Rattle.cif_write.specs.Ways.{last_point, kept_of, ways}
use Rattle.cif_write.proofs.BegunLemmas.{Begun}
use Rattle.cif_write.proofs.points.put_ways.Given as goal

abbrev pub invariant-loop-ring : goal.invariant-loop-ring
invariant-loop-ring g l = record {
  put : Begun g.O.Out.written g.O.Out.failures l.fn.out l.fn.buffer l.out l.buffer
      (path_text (kept_of l.last (ways l.start (drop l.ring-index l.rings)))) (path_text (kept_of l.fn.held (ways l.start l.rings)));
  last : last_point l.last (ways l.start (drop l.ring-index l.rings)) ≡ last_point l.fn.held (ways l.start l.rings);
}
