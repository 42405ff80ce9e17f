use Rattle.std.proofs.Common.{rules}
use Rattle.snap_pixels.proofs.BoundLemmas.{IsUpTo-times}
use Rattle.snap_pixels.proofs.measure.times.Goals as goal

pub returns-clause-low : goal.returns-clause-low
returns-clause-low c =
    (IsUpTo-times c.args.a c.args.b c.from.result c.from-2.result (search rules) (search rules) (search rules) (search rules)).low

pub returns-clause-high : goal.returns-clause-high
returns-clause-high c =
    (IsUpTo-times c.args.a c.args.b c.from.result c.from-2.result (search rules) (search rules) (search rules) (search rules)).high
