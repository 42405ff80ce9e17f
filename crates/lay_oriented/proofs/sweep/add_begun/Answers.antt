use Rattle.std.proofs.Common.{◌≡◌, ◌∷◌, rules}
use Rattle.lay_oriented.proofs.SweepLemmas.{one_added, order_behind}
use Rattle.lay_oriented.proofs.sweep.add_begun.Goals as goal

pub loop-slant-preserved : goal.loop-slant-preserved
loop-slant-preserved c =
    let slant = c.in-Some.slant.now in
    let behind = c.in-Some.behind.now in
    let left_is : c.loop-slant.left.now ≡ slant ∷ behind = search rules in
    record {
      sums = λ k x y. one_added k x y slant c.loop-slant.active.items c.add_slant.new.active.items c.loop-slant.left.now behind
          c.args.active.now.items c.args.slants.now (c.in_ok-add_slant.ensures k x y) left_is (c.loop-slant.invariant.sums k x y);
      order = λ h. order_behind slant c.loop-slant.left.now behind left_is (c.loop-slant.invariant.order h);
    }
