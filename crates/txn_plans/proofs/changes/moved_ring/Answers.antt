use Rattle.std.proofs.Common.{rules, ◌≡◌, true, map}
use Rattle.lay_point.specs.Rings.{IsRing}
use Rattle.lay_point.specs.Turns.{shifted}
use Rattle.txn_plans.specs.Moving.{ring_fits}
use Rattle.txn_plans.proofs.Shifting.{moved-ring}
use Rattle.txn_plans.proofs.changes.moved_ring.Goals as goal

pub same_ring-requires : goal.same_ring-requires
same_ring-requires c =
    let ring : IsRing c.args.ring.now = search rules in
    let fits : ring_fits c.args.by c.args.ring.now ≡ true = search rules in
    let points : c.deref.result.now ≡ map (shifted c.args.by) c.args.ring.now = search rules in
    rw points (moved-ring c.args.by c.args.ring.now ring fits)
