-- Which symbols are called in the symbols up to one, and in one more.
use Rattle.std.proofs.Common.{◌≡◌, ◌∙◌, ◌+◌, ◌++◌, ◌||◌, ℕ, Bool, true, false, List, [], ◌∷◌}
use Rattle.std.proofs.Common.{Some, cond, nat_eq, refl, ap, sym, subst, take}
use Rattle.std.specs.Prelude.{slice_get}
use Rattle.std.specs.List.{list_any}
use Rattle.std.proofs.lemmas.List.Folds.{list_any_more}
use Rattle.std.proofs.lemmas.Option.{get_or_from_slice_get, slice_get_within}
use Rattle.lay_cells.specs.declared.cell_id.CellId.TheVariants.{Symbol}
use Rattle.lay_cells.specs.Symbols.{has_symbol, with_symbol}
use Rattle.lay_cells.proofs.GraphLemmas.{has_more, same_number}
use Rattle.lay_items.specs.Graphs.{with_called}
use Rattle.lay_layouts.specs.Layout.{Layout}
use Rattle.lay_layouts.specs.Lent.{LentCall, calls_in}
use Rattle.job_advice.specs.Uncalled.{is_called_by}

-- with a symbol more
has_one : (s : List ℕ) (m n : ℕ) → has_symbol (with_symbol s m) n ≡ (has_symbol s n || nat_eq n m)
has_one s m n = by_test (has_symbol s m) refl where
  kept : (a b : Bool) → (b ≡ true → a ≡ true) → a ≡ (a || b)
  kept true b h = refl
  kept false true h = h refl
  kept false false h = refl

  swapped : (a b : Bool) → (a || b) ≡ (b || a)
  swapped true true = refl
  swapped true false = refl
  swapped false true = refl
  swapped false false = refl

  by_test : (b : Bool) → has_symbol s m ≡ b → has_symbol (cond b s (s ++ m ∷ [])) n ≡ (has_symbol s n || nat_eq n m)
  by_test true there =
      kept (has_symbol s n) (nat_eq n m) (λ e. subst (λ (k : ℕ). has_symbol s k ≡ true) (same_number n m e) there)
  by_test false there = has_more s m n ∙ swapped (nat_eq n m) (has_symbol s n)

-- with those that these calls call
has_called : (s : List ℕ) (calls : List LentCall) (n : ℕ)
    → has_symbol (with_called s calls) n ≡ (has_symbol s n || list_any (λ call. nat_eq n call.1) calls)
has_called s [] n = alone (has_symbol s n) where
  alone : (a : Bool) → a ≡ (a || false)
  alone true = refl
  alone false = refl
has_called s (call ∷ calls) n =
    let others = list_any (λ (other : LentCall). nat_eq n other.1) calls in
    has_called (with_symbol s call.1) calls n ∙ ap (λ b. b || others) (has_one s call.1 n)
    ∙ grouped (has_symbol s n) (nat_eq n call.1) others where
      grouped : (a b e : Bool) → ((a || b) || e) ≡ (a || (b || e))
      grouped true b e = refl
      grouped false b e = refl

-- and with the calls in one symbol more
pub called_more : (layout : Layout) (symbols : List ℕ) (index caller : ℕ) → slice_get symbols index ≡ Some caller → (s : List ℕ) (n : ℕ)
    → has_symbol s n ≡ list_any (is_called_by layout n) (take index symbols)
    → has_symbol (with_called s (calls_in layout (Symbol caller))) n ≡ list_any (is_called_by layout n) (take (index + 1) symbols)
called_more layout symbols index caller at s n so =
    let test = is_called_by layout n in
    has_called s (calls_in layout (Symbol caller)) n ∙ ap (λ b. b || test caller) so
    ∙ ap (λ k. list_any test (take index symbols) || test k) (sym (get_or_from_slice_get symbols index caller 0 at))
    ∙ sym (list_any_more test symbols index 0 (slice_get_within symbols index caller at))
