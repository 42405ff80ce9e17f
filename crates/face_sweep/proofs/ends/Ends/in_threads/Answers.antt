use Rattle.std.proofs.Common.{rules}
use Rattle.face_sweep.proofs.EndLemmas.{rows_after}
use Rattle.face_sweep.proofs.ends.Ends.in_threads.Goals as goal

pub returns-clause-ends : goal.returns-clause-ends
returns-clause-ends g c = record {
  rising = rows_after c.args.order.now.0 c.requires.by_row;
  begins = search rules;
  tops = search rules;
}
