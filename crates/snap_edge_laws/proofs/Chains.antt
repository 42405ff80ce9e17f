-- A chain is determined by its segment and the hot centres; its neighbours are the segment's edges; and it goes from the segment's one
-- end to the other, since an end is the centre of its own pixel, and is met first or last.
use Rattle.std.proofs.Common.{◌≡◌, inl, inr, List, [], ◌∷◌, ℤ, pos, ◌*ℤ◌, ◌≤ℤ◌, refl, sym, subst, arith}
use Rattle.lay_point.specs.declared.point.Point.{Point}
use Rattle.snap_pixels.specs.declared.segment.Segment.{Segment}
use Rattle.snap_pixels.specs.Pixels.{HoldsPlace, IsRoundedTo}
use Rattle.snap_pixels.specs.Segments.{Meets, along}
use Rattle.snap_pixels.specs.Hot.{IsHot}
use Rattle.snap_pixels.proofs.StraightLemmas.{rounded_centre}
use Rattle.snap_edge_laws.specs.Edges.{IsBelow, IsEdgeOf}
use Rattle.lay_point.proofs.Polynomials.{#, lit, ◌⊕◌, ◌⊖◌, ◌⊗◌, identity}
use Rattle.lay_point.proofs.Signs.{linear}
use Rattle.snap_edge_laws.proofs.Order.{IsSpot}
use Rattle.snap_edge_laws.proofs.Spans.{spot_of}
use Rattle.snap_edge_laws.proofs.Theorem.{meet_only_at_ends}
use Rattle.lay_point.specs.Rising.{pairs, IsFromTo}
use Rattle.snap_edge_laws.specs.Chains.{IsChain, ChainsAreUnique, NeighboursAreEdges, ChainsJoinEnds, RoundedEdgesAreClean}
use Rattle.lay_point.proofs.Members.{Has, has, contains}
use Rattle.lay_point.proofs.Rising.{same_members, pair_first, pair_second, pair_before, none_between_pair, pair_of_members}
use Rattle.lay_point.proofs.Rising.{from_least_to_greatest}
use Rattle.snap_edge_laws.proofs.ChainOrder.{below_is_strict, below_by_spots}

pub one_chain : (Hot : Point → Type 0) (s : Segment) (chain chain' : List Point) → IsChain Hot s chain → IsChain Hot s chain'
    → chain ≡ chain'
one_chain Hot s chain chain' h g = same_members (IsBelow s) (below_is_strict s) chain chain' h.rising g.rising
    (λ c m. has chain' c ((g.exact c).1 ((h.exact c).0 (contains chain c m))))
    (λ c m. has chain c ((h.exact c).1 ((g.exact c).0 (contains chain' c m))))

pub edge_of_neighbours : (Hot : Point → Type 0) (s : Segment) (chain : List Point) (c d : Point) → IsChain Hot s chain
    → Has (pairs chain) (c, d) → IsEdgeOf Hot s c d
edge_of_neighbours Hot s chain c d h g =
    let first = (h.exact c).0 (contains chain c (pair_first chain c d g)) in
    let second = (h.exact d).0 (contains chain d (pair_second chain c d g)) in
    record {
      first_hot = first.0;
      last_hot = second.0;
      first_met = first.1;
      last_met = second.1;
      below = pair_before (IsBelow s) chain c d h.rising g;
      none_between = λ v hot met after before.
          none_between_pair (IsBelow s) (below_is_strict s) chain c d v h.rising g (has chain v ((h.exact v).1 (hot, met))) after before;
    }

pub neighbours_of_edge : (Hot : Point → Type 0) (s : Segment) (chain : List Point) (c d : Point) → IsChain Hot s chain
    → IsEdgeOf Hot s c d → Has (pairs chain) (c, d)
neighbours_of_edge Hot s chain c d h e =
    pair_of_members (IsBelow s) (below_is_strict s) chain c d h.rising
    (has chain c ((h.exact c).1 (e.first_hot, e.first_met))) (has chain d ((h.exact d).1 (e.last_hot, e.last_met))) e.below
    (λ v m after before. let is = (h.exact v).0 (contains chain v m) in e.none_between v is.0 is.1 after before)

-- ---- ends
along_none : (k a b : ℤ) → along k (pos 0) a b ≡ a *ℤ k
along_none k a b = identity (k ∷ a ∷ b ∷ []) (# 1 ⊗ (# 0 ⊖ lit (pos 0)) ⊕ # 2 ⊗ lit (pos 0)) (# 1 ⊗ # 0) refl

along_all : (k a b : ℤ) → along k k a b ≡ b *ℤ k
along_all k a b = identity (k ∷ a ∷ b ∷ []) (# 1 ⊗ (# 0 ⊖ # 0) ⊕ # 2 ⊗ # 0) (# 2 ⊗ # 0) refl

first_spot : (s : Segment) (k : ℤ) → pos 1 ≤ℤ k → IsSpot s s.a k (pos 0)
first_spot s k scale = record {
  scale = scale;
  low = omega (arith, linear);
  high = omega (arith, linear);
  holds = record {
    column = subst (IsRoundedTo s.a.x k) (sym (along_none k s.a.x s.b.x)) (rounded_centre s.a.x k scale);
    row = subst (IsRoundedTo s.a.y k) (sym (along_none k s.a.y s.b.y)) (rounded_centre s.a.y k scale);
  };
}

last_spot : (s : Segment) (k : ℤ) → pos 1 ≤ℤ k → IsSpot s s.b k k
last_spot s k scale = record {
  scale = scale;
  low = omega (arith, linear);
  high = omega (arith, linear);
  holds = record {
    column = subst (IsRoundedTo s.b.x k) (sym (along_all k s.a.x s.b.x)) (rounded_centre s.b.x k scale);
    row = subst (IsRoundedTo s.b.y k) (sym (along_all k s.a.y s.b.y)) (rounded_centre s.b.y k scale);
  };
}

meets_at : (s : Segment) (c : Point) (k t : ℤ) → IsSpot s c k t → Meets s.a s.b c
meets_at s c k t h = (k, t, record { scale = h.scale; low = h.low; high = h.high }, h.holds)

one : pos 1 ≤ℤ pos 1
one = omega (arith, linear)

pub own_pixel : (c : Point) → HoldsPlace c (pos 1) c.x c.y
own_pixel c =
    let times_one = λ (a : ℤ). identity (a ∷ []) (# 0 ⊗ lit (pos 1)) (# 0) refl in
    record {
      column = subst (IsRoundedTo c.x (pos 1)) (times_one c.x) (rounded_centre c.x (pos 1) one);
      row = subst (IsRoundedTo c.y (pos 1)) (times_one c.y) (rounded_centre c.y (pos 1) one);
    }

-- a hot pixel at each end
pub from_end_to_end : (Hot : Point → Type 0) (s : Segment) (chain : List Point) → Hot s.a → Hot s.b → IsChain Hot s chain
    → IsFromTo s.a s.b chain
from_end_to_end Hot s chain hot_a hot_b h =
    from_least_to_greatest (IsBelow s) (below_is_strict s) chain s.a s.b h.rising
    (has chain s.a ((h.exact s.a).1 (hot_a, meets_at s s.a (pos 1) (pos 0) (first_spot s (pos 1) one))))
    (has chain s.b ((h.exact s.b).1 (hot_b, meets_at s s.b (pos 1) (pos 1) (last_spot s (pos 1) one))))
    (λ c m. let met = ((h.exact c).0 (contains chain c m)).1 in
    below_by_spots s s.a c met.0 (pos 0) met.1 (first_spot s met.0 met.2.scale) (spot_of s c met) met.2.low)
    (λ c m. let met = ((h.exact c).0 (contains chain c m)).1 in
    below_by_spots s c s.b met.0 met.1 met.0 (spot_of s c met) (last_spot s met.0 met.2.scale) met.2.high)

-- ---- for the hot centres of the segments
pub chains_are_unique : (segments : List Segment) → ChainsAreUnique segments
chains_are_unique segments s chain chain' h g = one_chain (IsHot segments) s chain chain' h g

pub neighbours_are_edges : (segments : List Segment) → NeighboursAreEdges segments
neighbours_are_edges segments s chain h c d = (
  λ g. edge_of_neighbours (IsHot segments) s chain c d h (has (pairs chain) (c, d) g),
  λ e. contains (pairs chain) (c, d) (neighbours_of_edge (IsHot segments) s chain c d h e),
)

pub chains_join_ends : (segments : List Segment) → ChainsJoinEnds segments
chains_join_ends segments s chain given h = from_end_to_end (IsHot segments) s chain
    (inl (s, given, inl (own_pixel s.a))) (inl (s, given, inr (own_pixel s.b))) h

pub rounded_edges_are_clean : (segments : List Segment) → RoundedEdgesAreClean segments
rounded_edges_are_clean segments c d c' d' e e' other k x y scale on on' =
    meet_only_at_ends segments e.s e'.s e.given e'.given c d c' d'
    (edge_of_neighbours (IsHot segments) e.s e.chain c d e.is_chain (has (pairs e.chain) (c, d) e.neighbours))
    (edge_of_neighbours (IsHot segments) e'.s e'.chain c' d' e'.is_chain (has (pairs e'.chain) (c', d') e'.neighbours))
    other k x y scale on on'
