-- The length of the path round several rings: the rings have no repeats, so only points at the start can be dropped.
use Rattle.std.proofs.Common.{◌≡◌, ℕ, suc, ◌+◌, ◌≤◌, List, [], ◌∷◌, ◌++◌, length, get_or, Bool, true, false, cond}
use Rattle.std.proofs.Common.{refl, ap, sym, ◌∙◌, subst, arith, append_assoc}
use Rattle.std.specs.Prelude.{min, nat_le, sum_by}
use Rattle.std.proofs.lemmas.Bool.Decides.{nat_tests}
use Rattle.std.specs.List.{AllByRecursion}
use Rattle.std.proofs.lemmas.Bool.{false≢true}
use Rattle.std.proofs.lemmas.List.Sums.{sum_by-cons}
use Rattle.lay_point.specs.declared.point.Point.{Point}
use Rattle.lay_point.specs.declared.ring.TheConstants.{MAX_RING_POINTS}
use Rattle.lay_point.specs.Bridges.{bridged, further}
use Rattle.lay_point.specs.Points.{point_eq}
use Rattle.lay_point.specs.Rings.{IsRing, NeighboursDiffer, closed, kept_behind, opened_behind, without_repeats}
use Rattle.lay_point.proofs.BridgeLemmas.{bridged_one, kept_apart}
use Rattle.lay_point.proofs.EdgeOrder.{points_decide}
use Rattle.lay_point.proofs.RingLemmas.{point_eq-true}
use Rattle.face_rings.specs.Paths.{added_len}

-- ---- points that are kept
-- behind a closed ring
kept_closed : (p : Point) (ps rest : List Point) → NeighboursDiffer (p ∷ ps ++ p ∷ [])
    → kept_behind p ((ps ++ p ∷ []) ++ rest) ≡ ps ++ p ∷ kept_behind p rest
kept_closed p ps rest d = ap (kept_behind p) (append_assoc ps (p ∷ []) rest) ∙ kept_apart p p ps rest d

-- ---- the end of the path
opened_over : (first : Point) (xs : List Point) (y : Point) (ys : List Point)
    → length (opened_behind first (xs ++ y ∷ ys)) ≡ length xs + length (opened_behind first (y ∷ ys))
opened_over first [] y ys = omega arith
opened_over first (x ∷ []) y ys = omega arith
opened_over first (x ∷ z ∷ xs) y ys = let e = opened_over first (z ∷ xs) y ys in omega (arith, e)

opened_more : (first y : Point) (ys : List Point) → 1 ≤ length ys
    → length (opened_behind first (y ∷ ys)) ≡ 1 + length (opened_behind first ys)
opened_more first y [] h = absurd (omega arith)
opened_more first y (z ∷ zs) h = omega arith

some_kept : (first : Point) (ys : List Point) → 1 ≤ length (opened_behind first ys) → 1 ≤ length ys
some_kept first [] h = absurd (omega arith)
some_kept first (y ∷ ys) h = omega arith

-- ---- a further ring
abbrev left_len : Point → List Point → ℕ
left_len start ps = length (opened_behind start (kept_behind start ps))

last_same : (p : Point) (ps : List Point) → NeighboursDiffer (p ∷ ps ++ p ∷ []) → left_len p (p ∷ ps ++ p ∷ []) ≡ length ps
last_same p ps d =
    let itself = points_decide.itself p in
    let kept : kept_behind p (p ∷ ps ++ p ∷ []) ≡ ps ++ p ∷ [] = rw itself (kept_apart p p ps [] d) in
    let over : length (opened_behind p (ps ++ p ∷ [])) ≡ length ps + length (opened_behind p (p ∷ [])) = opened_over p ps p [] in
    let none : length (opened_behind p (p ∷ [])) ≡ 0 = rw itself refl in
    ap (λ xs. length (opened_behind p xs)) kept ∙ omega (arith, over, none)

last_other : (s p : Point) (ps : List Point) → point_eq s p ≡ false → NeighboursDiffer (p ∷ ps ++ p ∷ [])
    → left_len s (p ∷ ps ++ p ∷ []) ≡ length ps + 2
last_other s p ps apart d =
    let kept : kept_behind s (p ∷ ps ++ p ∷ []) ≡ (p ∷ ps) ++ p ∷ [] = rw apart (ap (λ xs. p ∷ xs) (kept_apart p p ps [] d)) in
    let over : length (opened_behind s ((p ∷ ps) ++ p ∷ [])) ≡ length (p ∷ ps) + length (opened_behind s (p ∷ [])) =
    opened_over s (p ∷ ps) p [] in
    let one : length (opened_behind s (p ∷ [])) ≡ 1 = rw apart refl in
    ap (λ xs. length (opened_behind s xs)) kept ∙ omega (arith, over, one)

next_same : (p : Point) (ps rest : List Point) → NeighboursDiffer (p ∷ ps ++ p ∷ []) → 1 ≤ left_len p rest
    → left_len p (closed (p ∷ ps) ++ p ∷ rest) ≡ suc (length ps) + left_len p rest
next_same p ps rest d some =
    let itself = points_decide.itself p in
    let kept : kept_behind p (closed (p ∷ ps) ++ p ∷ rest) ≡ ps ++ p ∷ kept_behind p rest =
    rw itself (kept_closed p ps (p ∷ rest) d ∙ ap (λ b. ps ++ p ∷ cond b (kept_behind p rest) (p ∷ kept_behind p rest)) itself) in
    let over = opened_over p ps p (kept_behind p rest) in
    let more = opened_more p p (kept_behind p rest) (some_kept p (kept_behind p rest) some) in
    ap (λ xs. length (opened_behind p xs)) kept ∙ omega (arith, over, more)

next_other : (s p : Point) (ps rest : List Point) → point_eq s p ≡ false → point_eq p s ≡ false → NeighboursDiffer (p ∷ ps ++ p ∷ [])
    → 1 ≤ left_len s rest → left_len s (closed (p ∷ ps) ++ s ∷ rest) ≡ suc (length ps) + 2 + left_len s rest
next_other s p ps rest apart back d some =
    let kept : kept_behind s (closed (p ∷ ps) ++ s ∷ rest) ≡ (p ∷ ps) ++ p ∷ s ∷ kept_behind s rest =
    rw apart (ap (λ xs. p ∷ xs) (kept_closed p ps (s ∷ rest) d
    ∙ ap (λ b. ps ++ p ∷ cond b (kept_behind p rest) (s ∷ kept_behind s rest)) back)) in
    let over = opened_over s (p ∷ ps) p (s ∷ kept_behind s rest) in
    let more = opened_more s s (kept_behind s rest) (some_kept s (kept_behind s rest) some) in
    ap (λ xs. length (opened_behind s xs)) kept ∙ omega (arith, over, more)

-- ---- all further rings
abbrev added_where : Bool → List Point → ℕ
added_where b ps = suc (length ps) + cond b 0 2

added_same : (p : Point) (ps : List Point) → added_len p (p ∷ ps) ≡ suc (length ps)
added_same p ps = ap (λ b. added_where b ps) (points_decide.itself p) ∙ omega arith

added_other : (s p : Point) (ps : List Point) → point_eq p s ≡ false → added_len s (p ∷ ps) ≡ suc (length ps) + 2
added_other s p ps apart = ap (λ b. added_where b ps) apart ∙ omega arith

long_ring : (s : Point) (r : List Point) → IsRing r → 3 ≤ added_len s r
long_ring s [] h = absurd (omega (arith, h.enough))
long_ring s (q ∷ qs) h = let n = h.enough in omega (arith, n)

way_long : (s : Point) (r : List Point) (rs : List (List Point)) → AllByRecursion IsRing (r ∷ rs)
    → left_len s (further s (r ∷ rs)) + 1 ≡ sum_by (added_len s) (r ∷ rs) → 1 ≤ left_len s (further s (r ∷ rs))
way_long s r rs h later =
    let sum = sum_by-cons (added_len s) r rs in
    let n = long_ring s r h.0 in omega (arith, later, sum, n)

further_more : (s p : Point) (ps r : List Point) (rs : List (List Point)) → AllByRecursion IsRing ((p ∷ ps) ∷ r ∷ rs)
    → left_len s (further s (r ∷ rs)) + 1 ≡ sum_by (added_len s) (r ∷ rs)
    → left_len s (further s ((p ∷ ps) ∷ r ∷ rs)) + 1 ≡ sum_by (added_len s) ((p ∷ ps) ∷ r ∷ rs)
further_more s p ps r rs h later = by_test (point_eq p s) refl
  where
    some : 1 ≤ left_len s (further s (r ∷ rs))
    some = way_long s r rs h.1 later

    by_test : (b : Bool) → point_eq p s ≡ b
        → left_len s (further s ((p ∷ ps) ∷ r ∷ rs)) + 1 ≡ sum_by (added_len s) ((p ∷ ps) ∷ r ∷ rs)
    by_test true e =
        let same = point_eq-true p s e in
        let next = subst (λ z. left_len z (closed (p ∷ ps) ++ z ∷ further z (r ∷ rs)) ≡ suc (length ps) + left_len z (further z (r ∷ rs)))
        same (next_same p ps (further p (r ∷ rs)) h.0.apart (subst (λ z. 1 ≤ left_len z (further z (r ∷ rs))) (sym same) some)) in
        let sum = sum_by-cons (added_len s) (p ∷ ps) (r ∷ rs) in
        let added = subst (λ z. added_len z (p ∷ ps) ≡ suc (length ps)) same (added_same p ps) in omega (arith, next, sum, added, later)
    by_test false e =
        let apart : point_eq s p ≡ false = points_decide.apart s p
        (λ same. false≢true (sym e ∙ ap (point_eq p) same ∙ points_decide.itself p)) in
        let next = next_other s p ps (further s (r ∷ rs)) apart e h.0.apart some in
        let sum = sum_by-cons (added_len s) (p ∷ ps) (r ∷ rs) in
        let added = added_other s p ps e in omega (arith, next, sum, added, later)

further_len : (s : Point) (r : List Point) (rs : List (List Point)) → AllByRecursion IsRing (r ∷ rs)
    → left_len s (further s (r ∷ rs)) + 1 ≡ sum_by (added_len s) (r ∷ rs)
further_len s [] rs h = absurd (omega (arith, h.0.enough))
further_len s (p ∷ ps) [] h = by_test (point_eq p s) refl
  where
    by_test : (b : Bool) → point_eq p s ≡ b → left_len s (p ∷ ps ++ p ∷ []) + 1 ≡ sum_by (added_len s) ((p ∷ ps) ∷ [])
    by_test true e = subst (λ z. left_len z (p ∷ ps ++ p ∷ []) + 1 ≡ sum_by (added_len z) ((p ∷ ps) ∷ [])) (point_eq-true p s e)
        (let last = last_same p ps h.0.apart in
        let sum = sum_by-cons (added_len p) (p ∷ ps) [] in
        let added = added_same p ps in omega (arith, last, sum, added))
    by_test false e =
        let apart : point_eq s p ≡ false = points_decide.apart s p
        (λ same. false≢true (sym e ∙ ap (point_eq p) same ∙ points_decide.itself p)) in
        let last = last_other s p ps apart h.0.apart in
        let sum = sum_by-cons (added_len s) (p ∷ ps) [] in
        let added = added_other s p ps e in omega (arith, last, sum, added)
further_len s (p ∷ ps) (r ∷ rs) h = further_more s p ps r rs h (further_len s r rs h.1)

-- ---- the path
pub bridged_len : (s : Point) (ps : List Point) (rings : List (List Point)) → IsRing (s ∷ ps) → AllByRecursion IsRing rings
    → length (bridged ((s ∷ ps) ∷ rings)) ≡ length (s ∷ ps) + sum_by (added_len s) rings
unfolding bridged without_repeats
bridged_len s ps [] ring h = ap length (bridged_one (s ∷ ps) ring) ∙ omega arith
bridged_len s ps (r ∷ rs) ring h =
    let rest = further s (r ∷ rs) in
    let kept = kept_closed s ps rest ring.apart in
    let later = further_len s r rs h in
    let over = opened_over s ps s (kept_behind s rest) in
    let more = opened_more s s (kept_behind s rest) (some_kept s (kept_behind s rest) (way_long s r rs h later)) in
    ap (λ xs. suc (length (opened_behind s xs))) kept ∙ omega (arith, over, more, later)

pub path_is_short : (first : List Point) (start : Point) (others : List (List Point)) (len : ℕ) → IsRing first
    → start ≡ get_or first 0 start → AllByRecursion IsRing others
    → len ≡ min (length first + sum_by (added_len start) others) (MAX_RING_POINTS + 1)
    → nat_le len MAX_RING_POINTS ≡ nat_le (length (bridged (first ∷ others))) MAX_RING_POINTS
path_is_short [] start others len ring at h e = absurd (omega (arith, ring.enough))
path_is_short (s ∷ ps) start others len ring at h e =
    let whole : length (bridged ((s ∷ ps) ∷ others)) ≡ length (s ∷ ps) + sum_by (added_len start) others =
    subst (λ z. length (bridged ((s ∷ ps) ∷ others)) ≡ length (s ∷ ps) + sum_by (added_len z) others) (sym at)
    (bridged_len s ps others ring h) in
    capped len (length (bridged ((s ∷ ps) ∷ others))) MAX_RING_POINTS (e ∙ ap (λ n. min n (MAX_RING_POINTS + 1)) (sym whole))
  where
    capped : (a b m : ℕ) → a ≡ min b (m + 1) → nat_le a m ≡ nat_le b m
    capped a b m e = grind (arith, nat_tests)
