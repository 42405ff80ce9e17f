use Rattle.std.proofs.Common.{arith}
use Rattle.std.proofs.lemmas.Int.{ints}
use Rattle.snap_pixels.proofs.SideLemmas.{upper_is}
use Rattle.snap_pixels.proofs.side.Side.upper.Goals as goal

pub returns : goal.returns
returns c = λ k t. upper_is c.args.a c.args.b c.args.centre _ _ k t (omega (arith, ints)) (omega (arith, ints))
