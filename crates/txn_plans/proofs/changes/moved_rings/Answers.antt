use Rattle.std.proofs.Common.{◌≡◌, ◌∷◌, ◌++◌, [], Some, ap, get_or, rules, sym, ◌∙◌}
use Rattle.txn_plans.specs.Moving.{ring_moved}
use Rattle.txn_plans.proofs.Moving.{fits-more, moved-more}
use Rattle.txn_plans.proofs.changes.moved_rings.Goals as goal

pub loop-ring-preserved : goal.loop-ring-preserved
loop-ring-preserved c =
    let rings = c.args.rings.now in
    let i = c.loop-ring.ring-index in
    let ring = c.in-Some.ring in
    let item = c.ring-item.result in
    let is : Some ring ≡ ring_moved c.args.by (get_or rings i item) =
    sym c.in-Some.is ∙ c.in_ok-ring.ensures ∙ ap (ring_moved c.args.by) c.ring-item.is in
    let pushed : c.push.new.self.items ≡ c.loop-ring.moved.items ++ ring ∷ [] = search rules in
    record {
      moved =
          rw pushed (moved-more c.args.by rings i item ring c.loop-ring-test.true is c.loop-ring.moved.items c.loop-ring.invariant.moved);
      fits = fits-more c.args.by rings i item ring c.loop-ring-test.true is c.loop-ring.invariant.fits;
    }
