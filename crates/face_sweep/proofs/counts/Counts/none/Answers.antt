use Rattle.std.proofs.Common.{sym}
use Rattle.face_sweep.specs.Counts.{all_shapes}
use Rattle.face_sweep.proofs.CountLemmas.{none_counted}
use Rattle.face_sweep.proofs.counts.Counts.none.Goals as goal

pub returns : goal.returns
returns c = record { first = sym (none_counted all_shapes); second = sym (none_counted all_shapes); bounded = λ o h. absurd cc }
