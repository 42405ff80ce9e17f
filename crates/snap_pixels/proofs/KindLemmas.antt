-- Segments along the same axis are parallel.
use Rattle.std.proofs.Common.{◌≡◌, ◌≢◌, inl, inr, ℕ, ◌+◌, ◌≤◌, suc, List, [], ◌∷◌, length, take, Contains, refl, sym, ◌∙◌, subst, ap, arith}
use Rattle.std.proofs.Common.{pos, ◌-ℤ◌, ◌*ℤ◌}
use Rattle.std.specs.Prelude.{All}
use Rattle.std.proofs.lemmas.List.{take_all}
use Rattle.std.proofs.lemmas.List.Elements.{All-cons, All-contains}
use Rattle.lay_point.proofs.Polynomials.{#, lit, ◌⊖◌, ◌⊗◌, identity}
use Rattle.lay_point.specs.declared.point.Point.{Point}
use Rattle.lay_point.proofs.Members.{has}
use Rattle.snap_pixels.specs.declared.kind.Kind.{Kind}
use Rattle.snap_pixels.specs.declared.kind.Kind.TheVariants.{Level, Slanted, Upright}
use Rattle.snap_pixels.specs.declared.segment.Segment.{Segment}
use Rattle.snap_pixels.specs.Kinds.{AreParallelAll, IsOfKind}
use Rattle.snap_pixels.specs.Segments.{AreParallel}
use Rattle.snap_pixels.proofs.CrossingLemmas.{cross-itself}

levels_parallel : (a b c d : Point) → a.y ≡ b.y → c.y ≡ d.y → AreParallel a b c d
levels_parallel a b c d e f =
    (λ i. (b.x -ℤ a.x) *ℤ (sym f i -ℤ c.y) -ℤ (sym e i -ℤ a.y) *ℤ (d.x -ℤ c.x))
    ∙ identity (a.x ∷ a.y ∷ b.x ∷ c.x ∷ c.y ∷ d.x ∷ []) ((# 2 ⊖ # 0) ⊗ (# 4 ⊖ # 4) ⊖ (# 1 ⊖ # 1) ⊗ (# 5 ⊖ # 3)) (lit (pos 0)) refl

uprights_parallel : (a b c d : Point) → a.x ≡ b.x → c.x ≡ d.x → AreParallel a b c d
uprights_parallel a b c d e f =
    (λ i. (sym e i -ℤ a.x) *ℤ (d.y -ℤ c.y) -ℤ (b.y -ℤ a.y) *ℤ (sym f i -ℤ c.x))
    ∙ identity (a.x ∷ a.y ∷ b.y ∷ c.x ∷ c.y ∷ d.y ∷ []) ((# 0 ⊖ # 0) ⊗ (# 5 ⊖ # 4) ⊖ (# 2 ⊖ # 1) ⊗ (# 3 ⊖ # 3)) (lit (pos 0)) refl

-- two segments along the same axis
same_axis : (k : Kind) → k ≢ Slanted → (s t : Segment) → IsOfKind k s → IsOfKind k t → AreParallel s.a s.b t.a t.b
same_axis Level axis s t h g = levels_parallel s.a s.b t.a t.b h g
same_axis Upright axis s t h g = uprights_parallel s.a s.b t.a t.b h g
same_axis Slanted axis s t h g = absurd (axis refl)

axis_run : (k : Kind) → k ≢ Slanted → (run : List Segment) → All (IsOfKind k) run → AreParallelAll run
axis_run k axis run all s t m n =
    same_axis k axis s t (All-contains (IsOfKind k) run s all m) (All-contains (IsOfKind k) run t all n)

-- those along the first one's axis, and the first itself
pub AreParallelAll-axis : (k : Kind) → k ≢ Slanted → (s : Segment) (later segments : List Segment) (n : ℕ) → segments ≡ s ∷ later
    → IsOfKind k s → All (IsOfKind k) (take n later) → AreParallelAll (take (n + 1) segments)
AreParallelAll-axis k axis s later segments n whole first all =
    let one_more : n + 1 ≡ suc n = omega arith in
    let e : take (n + 1) segments ≡ s ∷ take n later = (λ i. take (one_more i) (whole i)) in
    subst AreParallelAll (sym e) (axis_run k axis (s ∷ take n later) (All-cons (IsOfKind k) s (take n later) first all))

-- each of them, where the loop got to the end
pub AreParallelAll-whole : (k : Kind) → k ≢ Slanted → (s : Segment) (later segments : List Segment) (n m : ℕ) → segments ≡ s ∷ later
    → IsOfKind k s → All (IsOfKind k) (take n later) → length later ≤ n → m ≡ length segments → AreParallelAll (take m segments)
AreParallelAll-whole k axis s later segments n m whole first all over is =
    let every = subst (All (IsOfKind k)) (take_all n later over) all in
    let e : take m segments ≡ s ∷ later = take_all m segments (omega (arith, is)) ∙ whole in
    subst AreParallelAll (sym e) (axis_run k axis (s ∷ later) (All-cons (IsOfKind k) s later first every))

-- one alone
pub AreParallelAll-one : (s : Segment) (later segments : List Segment) → segments ≡ s ∷ later → AreParallelAll (take 1 segments)
AreParallelAll-one s later segments whole =
    subst AreParallelAll (sym (ap (take 1) whole)) (λ t u m n. λ i. both t u m n i)
  where
    is_first : (t : Segment) → Contains (s ∷ []) t → s ≡ t
    is_first t m = elim (has (s ∷ []) t m) [ inl same ↦ same | inr none ↦ absurd none ]

    both : (t u : Segment) → Contains (s ∷ []) t → Contains (s ∷ []) u → AreParallel t.a t.b u.a u.b
    both t u m n = subst (λ (v : Segment). AreParallel v.a v.b u.a u.b) (is_first t m)
        (subst (λ (v : Segment). AreParallel s.a s.b v.a v.b) (is_first u n) (cross-itself s.a s.b))
