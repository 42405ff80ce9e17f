-- A list of symbols, and the same with one more behind it, where that is new.
use Rattle.std.proofs.Common.{◌≡◌, ◌∙◌, ◌≤◌, ◌<◌, ◌++◌, ◌||◌, ℕ, zero, suc, Bool, true, false, List, [], ◌∷◌, cond, length, nat_eq}
use Rattle.std.proofs.Common.{refl, ap, arith, length-append}
use Rattle.std.specs.Prelude.{slice_get}
use Rattle.std.specs.Cmp.{nat_eq_equiv}
use Rattle.std.specs.List.{IsDistinct}
use Rattle.std.proofs.lemmas.Bool.{or_right}
use Rattle.std.proofs.lemmas.Bool.Decides.{nat_tests}
use Rattle.std.proofs.lemmas.Map.Keys.{IsDistinct-push}
use Rattle.lay_cells.specs.Symbols.{has_symbol, with_symbol}
use Rattle.lay_cells.proofs.GraphLemmas.{has_more}

pub same_itself : (a : ℕ) → nat_eq a a ≡ true
same_itself a = grind (arith, nat_tests)

-- symbols that stand before some others
pub record IsBefore (old new : List ℕ) : Type 0 where
  pub longer : length old ≤ length new
  pub front : (i : ℕ) → i < length old → slice_get new i ≡ slice_get old i
  pub kept : (n : ℕ) → has_symbol old n ≡ true → has_symbol new n ≡ true
  pub distinct : IsDistinct nat_eq old → IsDistinct nat_eq new

front_more : (s : List ℕ) (m i : ℕ) → i < length s → slice_get (s ++ m ∷ []) i ≡ slice_get s i
front_more [] m i le = absurd (omega (arith, le))
front_more (n ∷ s) m zero le = refl
front_more (n ∷ s) m (suc i) le = front_more s m i (omega (arith, le))

pub before_one : (s : List ℕ) (m : ℕ) → IsBefore s (with_symbol s m)
before_one s m = by_test (has_symbol s m) refl where
  by_test : (b : Bool) → has_symbol s m ≡ b → IsBefore s (cond b s (s ++ m ∷ []))
  by_test true is = record { longer = omega arith; front = λ i le. refl; kept = λ n h. h; distinct = λ d. d }
  by_test false is = record {
    longer = omega (arith, length-append s (m ∷ []));
    front = front_more s m;
    kept = λ n h. has_more s m n ∙ or_right (nat_eq n m) (has_symbol s n) h;
    distinct = λ d. IsDistinct-push nat_eq_equiv s m d is;
  }

pub there_one : (s : List ℕ) (m : ℕ) → has_symbol (with_symbol s m) m ≡ true
there_one s m = by_test (has_symbol s m) refl where
  by_test : (b : Bool) → has_symbol s m ≡ b → has_symbol (cond b s (s ++ m ∷ [])) m ≡ true
  by_test true is = is
  by_test false is = has_more s m m ∙ ap (λ b. b || has_symbol s m) (same_itself m)
