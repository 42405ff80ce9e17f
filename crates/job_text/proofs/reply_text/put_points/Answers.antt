use Rattle.std.proofs.Common.{◌≡◌, [], drop, ap}
use Rattle.std.proofs.Math.ListN.{drop_of_length-le}
use Rattle.std.proofs.lemmas.List.{at_drop_more}
use Rattle.job_text.specs.Replies.{points_text}
use Rattle.cif_write.proofs.BegunLemmas.{Begun-all, Begun-nothing, Begun-then}
use Rattle.job_text.proofs.reply_text.put_points.Goals as goal

pub loop-point-init : goal.loop-point-init
loop-point-init g c = Begun-nothing _ _ _

pub loop-point-preserved : goal.loop-point-preserved
loop-point-preserved g c =
    Begun-then _ c.loop-point.invariant c.put_point.ensures
    (at_drop_more points_text c.args.points.now c.loop-point.point-index _ c.loop-point-test.true)

pub returns : goal.returns
returns g c =
    let none : drop c.loop-point.point-index c.args.points.now ≡ [] = drop_of_length-le c.args.points.now c.loop-point-test.false in
    Begun-all c.loop-point.invariant (ap points_text none)
