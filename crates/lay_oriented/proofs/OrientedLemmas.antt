-- Rings that go round each place at most once go round those that are inside by parity.
use Rattle.std.proofs.Common.{◌≡◌, inl, inr, Bool, true, false, List, ℤ, pos, ◌+ℤ◌, ◌≤ℤ◌, ◌*ℤ◌, ◌∙◌, arith}
use Rattle.std.specs.List.{AllByRecursion}
use Rattle.lay_point.proofs.Signs.{linear}
use Rattle.lay_point.specs.declared.point.Point.{Point}
use Rattle.lay_point.specs.Bridges.{bridged}
use Rattle.lay_point.specs.Parity.{odd}
use Rattle.lay_point.specs.RingEdges.{edges_of, edges_of_ring}
use Rattle.lay_point.specs.Rings.{IsRing}
use Rattle.lay_oriented.specs.Once.{IsZeroOrOne, WindOnce}
use Rattle.lay_oriented.specs.Net.{AreJoinedRings, GoAlike, PassAlike}
use Rattle.lay_oriented.specs.Oriented.{AreOriented, KeepParity}
use Rattle.lay_oriented.specs.Winding.{one_if, winding}
use Rattle.lay_oriented.proofs.AlikeLemmas.{keep_alike, parity_alike, winding_alike}
use Rattle.lay_oriented.proofs.BridgeWinding.{bridged-alike, winding-bridged}
use Rattle.lay_oriented.proofs.NetLemmas.{edges_alike, odd_alike}
use Rattle.lay_oriented.proofs.WindingLemmas.{winding_parity}

by_parity : (w n : ℤ) (b : Bool) → IsZeroOrOne w → w ≡ pos 2 *ℤ n +ℤ one_if b → w ≡ one_if b
by_parity w n true (inl z) e = absurd (omega (arith, linear))
by_parity w n false (inl z) e = z
by_parity w n true (inr o) e = o
by_parity w n false (inr o) e = absurd (omega (arith, linear))

pub oriented_by_once : (old new : List (List Point)) → AllByRecursion IsRing new → WindOnce new → PassAlike (edges_of new) (edges_of old)
    → AreOriented old new
oriented_by_once old new rings once alike = record {
  rings = round;
  path = λ k x y scale. winding-bridged new k x y rings ∙ round k x y scale;
  rings_parity = keep;
  path_parity = λ k x y. parity_alike (edges_of_ring (bridged new)) (edges_of new) path k x y ∙ keep k x y;
  rings_edges = edges_alike (edges_of new) (edges_of old) alike;
  path_edges = λ p q apart.
      keep_alike (edges_of_ring (bridged new)) (edges_of new) path p q apart
      ∙ edges_alike (edges_of new) (edges_of old) alike p q apart;
}
  where
    path : GoAlike (edges_of_ring (bridged new)) (edges_of new)
    path f laws = bridged-alike new f laws rings

    keep : KeepParity (edges_of new) (edges_of old)
    keep = odd_alike (edges_of new) (edges_of old) alike

    round : (k x y : ℤ) → pos 1 ≤ℤ k → winding (edges_of new) k x y ≡ one_if (odd (edges_of old) k x y)
    round k x y scale =
        let all = winding_parity (edges_of new) k x y in
        by_parity (winding (edges_of new) k x y) all.0 (odd (edges_of new) k x y) (once k x y scale) all.1 ∙ (λ i. one_if (keep k x y i))

-- what is so of rings is so of those that are joined of them
pub oriented_joined : (old new one : List (List Point)) → AreOriented old new → AreJoinedRings one new → AreOriented old one
oriented_joined old new one is joined = record {
  rings = λ k x y scale. winding_alike (edges_of one) (edges_of new) joined.0 k x y ∙ is.rings k x y scale;
  path = λ k x y scale.
      winding-bridged one k x y joined.1 ∙ winding_alike (edges_of one) (edges_of new) joined.0 k x y ∙ is.rings k x y scale;
  rings_parity = λ k x y. parity_alike (edges_of one) (edges_of new) joined.0 k x y ∙ is.rings_parity k x y;
  path_parity = λ k x y. parity_alike (edges_of_ring (bridged one)) (edges_of new) path k x y ∙ is.rings_parity k x y;
  rings_edges = λ p q apart. keep_alike (edges_of one) (edges_of new) joined.0 p q apart ∙ is.rings_edges p q apart;
  path_edges = λ p q apart. keep_alike (edges_of_ring (bridged one)) (edges_of new) path p q apart ∙ is.rings_edges p q apart;
}
  where
    path : GoAlike (edges_of_ring (bridged one)) (edges_of new)
    path f laws = bridged-alike one f laws joined.1 ∙ joined.0 f laws
