use Rattle.std.proofs.Common.{rules, ◌≡◌, Ok}
use Rattle.lay_point.specs.Rings.{ring_of}
use Rattle.lay_point.proofs.BridgeLemmas.{ring_of_ring}
use Rattle.txn_plans.proofs.changes.same_ring.Goals as goal

pub returns-in-Ok : goal.returns-in-Ok
returns-in-Ok c =
    let is : ring_of c.args.points.now ≡ Ok c.args.points.now = ring_of_ring c.args.points.now c.requires in
    search rules

pub returns-in-Err : goal.returns-in-Err
returns-in-Err c =
    let is : ring_of c.args.points.now ≡ Ok c.args.points.now = ring_of_ring c.args.points.now c.requires in
    search rules
