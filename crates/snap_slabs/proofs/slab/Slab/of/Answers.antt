use Rattle.std.proofs.Common.{arith, List, sym, subst, Contains}
use Rattle.std.proofs.lemmas.Int.{ints}
use Rattle.lay_point.specs.declared.point.Point.{Point}
use Rattle.snap_pixels.proofs.OrderLemmas.{turned_once}
use Rattle.snap_slabs.proofs.slab.Slab.of.Goals as goal

pub invariant_of-result : goal.invariant_of-result
invariant_of-result c = (
  (turned_once c.args.part.now c.in_ok-centres.centres.items c.sort_unstable.new.self.items c.dedup.new.self.items c.in_ok-centres.ensures
      c.sort_unstable.ensures.permutation c.sort_unstable.ensures.sorted c.dedup.ensures.filtered).0,
  λ p m.
      let h = c.span-low.ensures p (subst (λ (l : List Point). Contains l p) (sym c.as_slice.ensures.value) m) in
      (omega (arith, ints, h.0), omega (arith, ints, h.1)),
)

pub returns : goal.returns
returns c =
    (turned_once c.args.part.now c.in_ok-centres.centres.items c.sort_unstable.new.self.items c.dedup.new.self.items c.in_ok-centres.ensures
    c.sort_unstable.ensures.permutation c.sort_unstable.ensures.sorted c.dedup.ensures.filtered).1
