use Rattle.std.proofs.Common.{rules}
use Rattle.lay_point.proofs.RingLemmas.{opened-apart}
use Rattle.lay_point.specs.Rings.{ring_of, without_repeats}
use Rattle.lay_point.proofs.ring.Ring.new.Goals as goal

pub checked-requires : goal.checked-requires
checked-requires c = let f = opened-apart c.args.points.now in search rules

pub returns : goal.returns
unfolding ring_of without_repeats
returns c = search rules
