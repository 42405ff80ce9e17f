-- What a sort by the key, and then by the point, makes of the centres that a segment meets.
use Rattle.std.proofs.Common.{◌≡◌, ◌↔◌, ◌⊎◌, ⊎_elim, inl, inr, List, [], true, refl, ap, ◌∙◌, subst, arith, Contains}
use Rattle.std.specs.declared.cmp.Ordering.{Ordering}
use Rattle.std.specs.declared.cmp.Ordering.TheVariants.{Less, Equal, Greater}
use Rattle.std.specs.Ordering.{int_cmp, on, then_cmp, ordering_then, eq_by_cmp, is_eq}
use Rattle.std.specs.Cmp.{IsTotalOrder, both_ways}
use Rattle.std.specs.List.Retain.{IsFiltered, DiffersFromLast}
use Rattle.std.specs.List.Sorted.{IsPermutation, IsSorted}
use Rattle.std.proofs.lemmas.Cmp.{int_ranked, int_cmp_total, on_total, then_total, tied_itself}
use Rattle.lay_point.specs.declared.point.Point.{Point}
use Rattle.lay_point.specs.contracts.point.PointOrd.TheImpl.Laws.{matches_eq-law}
use Rattle.lay_point.specs.Points.{point_eq}
use Rattle.lay_point.specs.Same.{point_eq-Decides}
use Rattle.snap_pixels.specs.declared.segment.Segment.{Segment}
use Rattle.snap_pixels.specs.Segments.{Meets}
use Rattle.snap_pixels.proofs.OrderLemmas.{point_cmp, point_cmp_total, IsBefore-from_Less}
use Rattle.snap_edge_laws.specs.Edges.{key, IsBelow}
use Rattle.snap_edge_laws.specs.Chains.{IsChain}
use Rattle.snap_slabs.proofs.Sorted.{IsOrder, sorted_once}

-- the order along the segment, as `cmp` of the key and the point computes it
abbrev pub along_cmp : Segment → Point → Point → Ordering
along_cmp s = then_cmp (on (key s) int_cmp) point_cmp

along_cmp_total : (s : Segment) → IsTotalOrder (along_cmp s)
along_cmp_total s = then_total (on_total (key s) int_cmp_total) point_cmp_total

below_by_key : (s : Segment) (p q : Point) (o : Ordering) → o ≡ int_cmp (key s p) (key s q) → ordering_then o (point_cmp p q) ≡ Less →
    IsBelow s p q
below_by_key s p q Less e h = inl (int_ranked (key s p) (key s q) Less e)
below_by_key s p q Equal e h = inr (int_ranked (key s p) (key s q) Equal e, IsBefore-from_Less p q h)
below_by_key s p q Greater e h = cc

same_by_key : (p q : Point) (o : Ordering) → is_eq (ordering_then o (point_cmp p q)) ≡ true → point_eq p q ≡ true
same_by_key p q Less h = cc
same_by_key p q Equal h = matches_eq-law p q ∙ h
same_by_key p q Greater h = cc

ties : (s : Segment) (p q : Point) → point_eq p q ≡ eq_by_cmp (along_cmp s) p q
ties s p q = both_ways (point_eq p q) (eq_by_cmp (along_cmp s) p q)
    (λ e. subst (λ v. is_eq (along_cmp s p v) ≡ true) ((point_eq-Decides p q).0 e) (ap is_eq (tied_itself (along_cmp_total s) p)))
    (λ e. same_by_key p q (int_cmp (key s p) (key s q)) e)

along_order : (s : Segment) → IsOrder (along_cmp s) point_eq (IsBelow s)
along_order s = record {
  total = along_cmp_total s;
  decides = point_eq-Decides;
  ties = ties s;
  less = λ p q h. below_by_key s p q (int_cmp (key s p) (key s q)) refl h;
}

-- what is met where nothing was before
pub met_alone : (s : Segment) (hot begun points : List Point) → begun ≡ []
    → ((c : Point) → Contains points c ↔ (Contains begun c ⊎ (Contains hot c × Meets s.a s.b c)))
    → (c : Point) → Contains points c ↔ (Contains hot c × Meets s.a s.b c)
met_alone s hot begun points none met c = (
  (λ m. ⊎_elim
      (λ was. let old : Contains [] c = subst (λ l. Contains l c) none was in absurd (omega (arith, old.1)))
      (λ (h : Contains hot c × Meets s.a s.b c). h)
      ((met c).0 m)),
  (λ h. (met c).1 (inr h)),
)

-- the hot centres that are met, sorted, each once
pub chain_of : (s : Segment) (hot points moved chain : List Point)
    → ((c : Point) → Contains points c ↔ (Contains hot c × Meets s.a s.b c))
    → IsPermutation points moved → IsSorted (along_cmp s) moved → IsFiltered (DiffersFromLast point_eq) [] moved chain
    → IsChain (Contains hot) s chain
chain_of s hot points moved chain met move sorted filtered =
    let once = sorted_once (IsBelow s) (along_order s) points moved chain move sorted filtered in
    record {
      rising = once.rising;
      exact = λ c. (
        (λ w. (met c).0 ((once.members c).0 w)),
        (λ h. (once.members c).1 ((met c).1 h)),
      );
    }
