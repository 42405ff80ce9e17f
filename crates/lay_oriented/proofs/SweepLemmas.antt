-- The sweep: below its height the slants count 0 or 1, and above it those that are begun and those that are left count all.
use Rattle.std.proofs.Common.{◌≡◌, inl, ℕ, true, ◌&&◌, List, [], ◌∷◌}
use Rattle.std.proofs.Common.{ℤ, pos, ◌+ℤ◌, ◌*ℤ◌, ◌≤ℤ◌, ◌<ℤ◌, sym, ap, ◌∙◌, subst, arith, ⊎_elim}
use Rattle.std.specs.Prelude.{int_le}
use Rattle.std.specs.List.{insert}
use Rattle.std.proofs.lemmas.Bool.{and_parts}
use Rattle.std.proofs.lemmas.List.Sorted.{IsPermutation-insert}
use Rattle.lay_point.proofs.Signs.{below_or_not, linear, times_le}
use Rattle.lay_point.proofs.Tests.{le_true}
use Rattle.lay_oriented.specs.declared.slant.Slant.{Slant}
use Rattle.lay_oriented.specs.Once.{AreOnce, IsZeroOrOne}
use Rattle.lay_oriented.specs.Slants.{are_begun_from, are_by_height, begin_from, counts, ending_above, is_sound_band, slant_count}
use Rattle.lay_oriented.specs.Slants.{take_turns}
use Rattle.lay_oriented.proofs.RowLemmas.{once_in_band}
use Rattle.lay_oriented.proofs.SlantLemmas.{counts_above, counts_below}
use Rattle.lay_oriented.proofs.WindingLemmas.{sum_of-permutation}

pub counts-insert : (k x y : ℤ) (slants : List Slant) (place : ℕ) (s : Slant)
    → counts k x y (insert slants place s) ≡ slant_count k x y s +ℤ counts k x y slants
counts-insert k x y slants place s =
    sum_of-permutation (slant_count k x y) (s ∷ slants) (insert slants place s) (IsPermutation-insert slants place s)

pub record IsSwept (slants : List Slant) (row : ℤ) (active left : List Slant) : Type 0 where
  pub below : (k x y : ℤ) → pos 1 ≤ℤ k → y <ℤ (k *ℤ row) → IsZeroOrOne (counts k x y slants)
  pub above : (k x y : ℤ) → pos 1 ≤ℤ k → (k *ℤ row) ≤ℤ y
      → counts k x y active +ℤ counts k x y left ≡ counts k x y slants
  pub order : are_by_height left ≡ true

pub swept_first : (slants : List Slant) (row : ℤ) (active : List Slant) → are_begun_from row slants ≡ true → active ≡ []
    → IsSwept slants row active slants
swept_first slants row active begun none =
    let parts = and_parts (are_by_height slants) (begin_from row slants) begun in
    record {
      below = λ k x y scale h. inl (counts_below k x y row slants scale h parts.0 parts.1);
      above = λ k x y scale h. let zero : counts k x y active ≡ pos 0 = ap (counts k x y) none in omega (arith, linear);
      order = parts.0;
    }

-- one band more
pub swept_more : (slants : List Slant) (row : ℤ) (active left : List Slant) (height : ℤ) (new rest : List Slant)
    → IsSwept slants row active left → is_sound_band active left row height ≡ true
    → ((k x y : ℤ) → counts k x y new +ℤ counts k x y rest ≡ counts k x y (ending_above height active) +ℤ counts k x y left)
    → are_by_height rest ≡ true → IsSwept slants height new rest
swept_more slants row active left height new rest swept sound sums order =
    let b = and_parts (int_le row height && take_turns row height true active) (begin_from height left) sound in
    let a = and_parts (int_le row height) (take_turns row height true active) b.0 in
    let later : row ≤ℤ height = le_true row height a.0 in
    record {
      below = λ k x y scale h. ⊎_elim (λ (less : y <ℤ (k *ℤ row)). swept.below k x y scale less)
          (λ (from : (k *ℤ row) ≤ℤ y).
          let none = counts_below k x y height left scale h swept.order b.1 in
          let all = swept.above k x y scale from in
          subst IsZeroOrOne (the_same (counts k x y active) (counts k x y left) (counts k x y slants) all none)
          (once_in_band row height k x y scale from h active a.1))
          (below_or_not y (k *ℤ row));
      above = λ k x y scale h.
          let under = times_le k row height (omega (arith, linear)) later in
          let kept = counts_above k x y height active scale h in
          let more = sums k x y in
          let all = swept.above k x y scale (omega (arith, linear)) in
          omega (arith, linear);
      order = order;
    }
  where
    the_same : (a b c : ℤ) → a +ℤ b ≡ c → b ≡ pos 0 → a ≡ c
    the_same a b c e z = omega (arith, linear)

pub swept_all : (slants : List Slant) (row : ℤ) (active left : List Slant) → IsSwept slants row active left → active ≡ [] → left ≡ []
    → AreOnce slants
swept_all slants row active left swept none over = λ k x y scale. ⊎_elim (λ (less : y <ℤ (k *ℤ row)). swept.below k x y scale less)
    (λ (from : (k *ℤ row) ≤ℤ y). inl (sym (swept.above k x y scale from) ∙ (λ i. counts k x y (none i) +ℤ counts k x y (over i))))
    (below_or_not y (k *ℤ row))

-- one slant less to add
pub one_added : (k x y : ℤ) (s : Slant) (old new left behind first all : List Slant)
    → counts k x y new ≡ slant_count k x y s +ℤ counts k x y old → left ≡ s ∷ behind
    → counts k x y old +ℤ counts k x y left ≡ counts k x y first +ℤ counts k x y all
    → counts k x y new +ℤ counts k x y behind ≡ counts k x y first +ℤ counts k x y all
one_added k x y s old new left behind first all more left_is so_far =
    let split : counts k x y left ≡ slant_count k x y s +ℤ counts k x y behind = ap (counts k x y) left_is in omega (arith, linear)

pub order_behind : (s : Slant) (left behind : List Slant) → left ≡ s ∷ behind → are_by_height left ≡ true → are_by_height behind ≡ true
order_behind s left behind left_is order =
    (and_parts (begin_from s.low.y behind) (are_by_height behind) (subst (λ l. are_by_height l ≡ true) left_is order)).1
