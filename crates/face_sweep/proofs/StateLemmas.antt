-- What the edges of a row tell about a gap in it, and what is kept beside them.
use Rattle.std.proofs.Common.{◌≡◌, ℕ, zero, suc, ◌+◌, ◌-◌, ◌<◌, ◌≤◌, Bool, List, [], ◌∷◌, ◌++◌}
use Rattle.std.proofs.Common.{length, get_or, take, drop, add-one, refl, sym, ap, subst, ◌∙◌, arith}
use Rattle.std.specs.Prelude.{slice_range}
use Rattle.std.proofs.Math.Seq.{drop-cons}
use Rattle.lay_point.specs.Parity.{xor}
use Rattle.snap_chains.specs.declared.owner.Owner.{Owner}
use Rattle.snap_chains.specs.Rounded.{Owned, is_owner_listed}
use Rattle.face_sweep.specs.declared.counts.Counts.{Counts}
use Rattle.face_sweep.specs.declared.counts.LeftCounts.{LeftCounts}
use Rattle.face_sweep.specs.declared.sides.Sides.{Sides}
use Rattle.face_sweep.specs.Counts.{AreCounts, kept_counts}
use Rattle.face_rows.specs.Lines.{owners_at}
use Rattle.face_sweep.specs.Sides.{AreBehind, AreLeftOf, AreLefts, AreSidesOf, IsKeptLeft, holds_beside, is_odd_in}

pub counts_agree : (c : Counts) (f g : Owner → Bool) → ((o : Owner) → f o ≡ g o) → AreCounts c f → AreCounts c g
counts_agree c f g same h = coe 0 1 (i. AreCounts c (λ o. same o i)) h

pub sides_agree : (owners : List Owner) (f g : Owner → Bool) (sides : Sides) → ((o : Owner) → f o ≡ g o) → AreSidesOf owners f sides
    → AreSidesOf owners g sides
sides_agree owners f g sides same h = coe 0 1 (i. AreSidesOf owners (λ o. same o i) sides) h

-- ---- behind an edge
pub split_at : (numbers : List ℕ) (gap : ℕ) → gap < length numbers → drop gap numbers ≡ get_or numbers gap 0 ∷ drop (gap + 1) numbers
split_at numbers gap less = drop-cons numbers gap 0 less ∙ ap (λ m. get_or numbers gap 0 ∷ drop m numbers) (sym (add-one gap))

-- one edge more
odd_split : (r : Owned) (numbers : List ℕ) (gap : ℕ) (o : Owner) → gap < length numbers
    → is_odd_in r (drop gap numbers) o
    ≡ xor (is_owner_listed o (owners_at r (get_or numbers gap 0))) (is_odd_in r (drop (gap + 1) numbers) o)
odd_split r numbers gap o less = ap (λ l. is_odd_in r l o) (split_at numbers gap less)

-- so many shapes hold before an edge as hold left of it
pub odd_before : (r : Owned) (numbers : List ℕ) (gap : ℕ) (counts : Counts) → gap < length numbers
    → ((o : Owner) → is_odd_in r (drop (gap + 1) numbers) o ≡ holds_beside r (get_or numbers gap 0) o)
    → AreLeftOf r (get_or numbers gap 0) counts → AreCounts counts (is_odd_in r (drop gap numbers))
odd_before r numbers gap counts less beside h =
    counts_agree counts
    (λ o. xor (is_owner_listed o (owners_at r (get_or numbers gap 0))) (holds_beside r (get_or numbers gap 0) o))
    (is_odd_in r (drop gap numbers))
    (λ o. sym (odd_split r numbers gap o less ∙ ap (xor (is_owner_listed o (owners_at r (get_or numbers gap 0)))) (beside o))) h

-- the first of the counts that are kept tells what holds before all
pub first_left : (r : Owned) (numbers : List ℕ) (lefts : List LeftCounts) (d : LeftCounts) → AreBehind r numbers
    → AreLefts r numbers lefts → 0 < length lefts → AreCounts (kept_counts (get_or lefts 0 d)) (is_odd_in r numbers)
first_left r [] [] d behind h some = absurd (omega arith)
first_left r [] (left ∷ lefts) d behind h some = absurd h
first_left r (n ∷ numbers) [] d behind h some = absurd h
first_left r (n ∷ numbers) (left ∷ lefts) d behind h some =
    odd_before r (n ∷ numbers) 0 (kept_counts left) (omega arith) (behind 0 (omega arith)) h.0

-- where none are kept there are no edges
pub none_left : (r : Owned) (numbers : List ℕ) → AreLefts r numbers [] → numbers ≡ []
none_left r [] h = refl
none_left r (n ∷ numbers) h = absurd h

-- what is kept of one edge more
pub lefts_before : (r : Owned) (numbers : List ℕ) (lefts : List LeftCounts) (i : ℕ) (left : LeftCounts) → 0 < i → i ≤ length numbers
    → IsKeptLeft r (get_or numbers (i - 1) 0) left → AreLefts r (drop i numbers) lefts
    → AreLefts r (drop (i - 1) numbers) (left ∷ lefts)
lefts_before r numbers lefts i left more bound first rest =
    let back : (i - 1) + 1 ≡ i = omega arith in
    subst (λ l. AreLefts r l (left ∷ lefts))
    (sym (split_at numbers (i - 1) (omega arith) ∙ ap (λ k. get_or numbers (i - 1) 0 ∷ drop k numbers) back)) (first, rest)

slice_before : (xs : List ℕ) (i to : ℕ) → 0 < i → i ≤ to → to ≤ length xs
    → slice_range xs (i - 1) to ≡ get_or xs (i - 1) 0 ∷ slice_range xs i to
slice_before xs i to more le bound =
    let back : (i - 1) + 1 ≡ i = omega arith in
    let longer : to - (i - 1) ≡ suc (to - i) = omega arith in
    ap (λ k. take k (drop (i - 1) xs)) longer ∙ ap (take (suc (to - i))) (split_at xs (i - 1) (omega arith))
    ∙ ap (λ k. get_or xs (i - 1) 0 ∷ take (to - i) (drop k xs)) back

-- the same of the edges up to one
pub lefts_between : (r : Owned) (numbers : List ℕ) (lefts : List LeftCounts) (i to : ℕ) (left : LeftCounts) → 0 < i → i ≤ to
    → to ≤ length numbers → IsKeptLeft r (get_or numbers (i - 1) 0) left → AreLefts r (slice_range numbers i to) lefts
    → AreLefts r (slice_range numbers (i - 1) to) (left ∷ lefts)
lefts_between r numbers lefts i to left more le bound first rest =
    subst (λ l. AreLefts r l (left ∷ lefts)) (sym (slice_before numbers i to more le bound)) (first, rest)

-- ---- parts of a row
pub lefts_joined : (r : Owned) (numbers others : List ℕ) (lefts more : List LeftCounts) → AreLefts r numbers lefts
    → AreLefts r others more → AreLefts r (numbers ++ others) (lefts ++ more)
lefts_joined r [] others [] more h k = k
lefts_joined r [] others (left ∷ lefts) more h k = absurd h
lefts_joined r (n ∷ numbers) others [] more h k = absurd h
lefts_joined r (n ∷ numbers) others (left ∷ lefts) more h k = (h.0, lefts_joined r numbers others lefts more h.1 k)

pub lefts_take : (r : Owned) (count : ℕ) (numbers : List ℕ) (lefts : List LeftCounts) → AreLefts r numbers lefts
    → AreLefts r (take count numbers) (take count lefts)
lefts_take r zero numbers lefts h = tt
lefts_take r (suc count) [] [] h = tt
lefts_take r (suc count) [] (left ∷ lefts) h = absurd h
lefts_take r (suc count) (n ∷ numbers) [] h = absurd h
lefts_take r (suc count) (n ∷ numbers) (left ∷ lefts) h = (h.0, lefts_take r count numbers lefts h.1)

pub lefts_drop : (r : Owned) (count : ℕ) (numbers : List ℕ) (lefts : List LeftCounts) → AreLefts r numbers lefts
    → AreLefts r (drop count numbers) (drop count lefts)
lefts_drop r zero numbers lefts h = h
lefts_drop r (suc count) [] [] h = tt
lefts_drop r (suc count) [] (left ∷ lefts) h = absurd h
lefts_drop r (suc count) (n ∷ numbers) [] h = absurd h
lefts_drop r (suc count) (n ∷ numbers) (left ∷ lefts) h = lefts_drop r count numbers lefts h.1

-- beside each edge something is kept
pub lefts_long : (r : Owned) (numbers : List ℕ) (lefts : List LeftCounts) → AreLefts r numbers lefts → length lefts ≡ length numbers
lefts_long r [] [] h = refl
lefts_long r [] (left ∷ lefts) h = absurd h
lefts_long r (n ∷ numbers) [] h = absurd h
lefts_long r (n ∷ numbers) (left ∷ lefts) h = ap suc (lefts_long r numbers lefts h.1)
