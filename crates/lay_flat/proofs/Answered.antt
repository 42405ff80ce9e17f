-- What walks and a flattening answer, from their tests.
use Rattle.std.proofs.Common.{◌≡◌, ◌∙◌, ◌≤◌, ◌<◌, ◌||◌, ℕ, inl, inr, Bool, true, false, not}
use Rattle.std.proofs.Common.{Result, Ok, Err, List, cond, length, ap, is_none, subst, sym}
use Rattle.lay_point.specs.Memory.{IsAnswer}
use Rattle.std.specs.List.{list_all, list_any}
use Rattle.lay_cells.specs.declared.cell_id.CellId.{CellId}
use Rattle.lay_layouts.specs.Layout.{Layout, is_cell}
use Rattle.lay_flat.specs.declared.ends.End.{End}
use Rattle.lay_flat.specs.declared.fault.FlatFault.{FlatFault}
use Rattle.lay_flat.specs.declared.fault.FlatFault.TheVariants.{NoCell, NoMemory, OutOfRange, TooMany}
use Rattle.lay_flat.specs.declared.flat.TheConstants.{MAX_RINGS}
use Rattle.lay_flat.specs.Flat.{FlatRing, is_within}
use Rattle.lay_flat.specs.Flattening.{ends_of, flat_at, flat_of, on_success, rings_at, tested}
use Rattle.lay_flat.specs.Lending.{IsTooMany}
use Rattle.lay_flat.specs.Walked.{Start, walked}
use Rattle.lay_flat.proofs.Tested.{is_above, is_not_above}

module _ (layout : Layout) (cell : CellId) (layer : List ℕ) where
  pub reached : is_cell layout cell ≡ true → tested layout cell ≡ Ok (tt {0})
      → flat_of layout cell layer ≡ flat_at (ends_of layout cell) (rings_at layout layer (ends_of layout cell))
  unfolding flat_of
  reached is test =
      ap (λ b. cond b (on_success (tested layout cell) (λ _. flat_at (ends_of layout cell)
      (rings_at layout layer (ends_of layout cell)))) (Err NoCell)) is
      ∙ ap (λ r. on_success r (λ _. flat_at (ends_of layout cell) (rings_at layout layer (ends_of layout cell)))) test

abbrev pub outside : List End → List FlatRing → Bool
outside ends rings = list_any (λ (end : End). is_none end.turn) ends || not (list_all is_within rings)

module _ (ends : List End) (rings : List FlatRing) where
  pub many : MAX_RINGS < length rings → flat_at ends rings ≡ Err TooMany
  unfolding flat_at
  many above = ap (λ b. cond b (Err TooMany) (cond (outside ends rings) (Err OutOfRange) (Ok rings)))
      (is_above MAX_RINGS (length rings) above)

  pub out_of_range : length rings ≤ MAX_RINGS → outside ends rings ≡ true → flat_at ends rings ≡ Err OutOfRange
  unfolding flat_at
  out_of_range few is =
      ap (λ b. cond b (Err TooMany) (cond (outside ends rings) (Err OutOfRange) (Ok rings))) (is_not_above MAX_RINGS (length rings) few)
      ∙ ap (λ b. cond b (Err OutOfRange) (Ok rings)) is

  pub all_within : length rings ≤ MAX_RINGS → outside ends rings ≡ false → flat_at ends rings ≡ Ok rings
  unfolding flat_at
  all_within few is =
      ap (λ b. cond b (Err TooMany) (cond (outside ends rings) (Err OutOfRange) (Ok rings))) (is_not_above MAX_RINGS (length rings) few)
      ∙ ap (λ b. cond b (Err OutOfRange) (Ok rings)) is

-- a test that was passed, and one that wasn't
pub passed_from : (done : Unit {0}) (test : Result (Unit {0}) FlatFault) → IsAnswer NoMemory (Ok done) test → test ≡ Ok (tt {0})
passed_from done test (inl e) = absurd cc
passed_from done test (inr e) = sym e

-- walks that are refused, and those that pass
module _ (layout : Layout) (cell : CellId) where
  abbrev start : Start
  start = record { layout = layout; cell = cell }

  pub not_walked : is_cell layout cell ≡ false → walked layout cell ≡ Err NoCell
  unfolding walked
  not_walked is = ap (λ b. cond b (on_success (tested layout cell) (λ _. Ok start)) (Err NoCell)) is

  pub walks_pass : is_cell layout cell ≡ true → tested layout cell ≡ Ok (tt {0}) → walked layout cell ≡ Ok start
  unfolding walked
  walks_pass is test =
      ap (λ b. cond b (on_success (tested layout cell) (λ _. Ok start)) (Err NoCell)) is ∙ ap (λ r. on_success r (λ _. Ok start)) test

  pub walks_refused : (fault : FlatFault) → is_cell layout cell ≡ true → IsAnswer {T = Unit {0}} NoMemory (Err fault) (tested layout cell)
      → IsAnswer {T = Start} NoMemory (Err fault) (walked layout cell)
  unfolding walked
  walks_refused fault is (inl e) = let same : fault ≡ NoMemory = cc in inl (ap Err same)
  walks_refused fault is (inr e) =
      inr (sym (ap (λ b. cond b (on_success (tested layout cell) (λ _. Ok start)) (Err NoCell)) is
      ∙ ap (λ r. on_success r (λ _. Ok start)) (sym e)))

  walks_start : (from : Start) → IsAnswer NoMemory (Ok from) (walked layout cell) → from ≡ start
  unfolding walked
  walks_start from (inl e) = absurd cc
  walks_start from (inr e) = by_tests (is_cell layout cell) (tested layout cell) e where
    by_tests : (b : Bool) (test : Result (Unit {0}) FlatFault) → Ok from ≡ cond b (on_success test (λ _. Ok start)) (Err NoCell)
        → from ≡ start
    by_tests true (Ok done) h = cc
    by_tests true (Err fault) h = absurd cc
    by_tests false test h = absurd cc

  -- what is flattened from walks is flattened from their cell
  pub flattened_from : (from : Start) (layer : List ℕ) (answer : Result (List FlatRing) FlatFault)
      → IsAnswer NoMemory (Ok from) (walked layout cell) → IsAnswer NoMemory answer (flat_of from.layout from.cell layer)
      → IsAnswer NoMemory answer (flat_of layout cell layer)
  flattened_from from layer answer passed is =
      subst (λ (s : Start). IsAnswer NoMemory answer (flat_of s.layout s.cell layer)) (walks_start from passed) is

  -- walks that are refused are the flattening's refusal
  pub refused_from : (layer : List ℕ) (fault : FlatFault) → IsAnswer {T = Start} NoMemory (Err fault) (walked layout cell)
      → IsAnswer {T = List FlatRing} NoMemory (Err fault) (flat_of layout cell layer)
  unfolding walked flat_of
  refused_from layer fault (inl e) = let same : fault ≡ NoMemory = cc in inl (ap Err same)
  refused_from layer fault (inr e) = inr (by_tests (is_cell layout cell) (tested layout cell) e) where
    by_tests : (b : Bool) (test : Result (Unit {0}) FlatFault) → Err fault ≡ cond b (on_success test (λ _. Ok start)) (Err NoCell)
        → Err fault ≡ cond b (on_success test (λ _. flat_at (ends_of layout cell)
        (rings_at layout layer (ends_of layout cell)))) (Err NoCell)
    by_tests true (Ok done) h = absurd cc
    by_tests true (Err other) h = let same : fault ≡ other = cc in ap Err same
    by_tests false test h = let same : fault ≡ NoCell = cc in ap Err same

-- rings that are too many, at the ends of all walks
pub many_from : (layout : Layout) (cell : CellId) (layer : List ℕ) (ends : List End) (fault : FlatFault) → is_cell layout cell ≡ true
    → tested layout cell ≡ Ok (tt {0}) → ends ≡ ends_of layout cell → IsTooMany (rings_at layout layer ends) fault
    → IsAnswer {T = List FlatRing} NoMemory (Err fault) (flat_of layout cell layer)
many_from layout cell layer ends fault is passed same (inl e) = inl (ap Err e)
many_from layout cell layer ends fault is passed same (inr both) = inr (ap Err both.0 ∙ sym (reached layout cell layer is passed
    ∙ many (ends_of layout cell) (rings_at layout layer (ends_of layout cell))
    (subst (λ (es : List End). MAX_RINGS < length (rings_at layout layer es)) same both.1)))

module _ (layout : Layout) (cell : CellId) (layer : List ℕ) (ends : List End) (rings : List FlatRing) (is : is_cell layout cell ≡ true)
    (passed : tested layout cell ≡ Ok (tt {0})) (same : ends ≡ ends_of layout cell) (lent : rings ≡ rings_at layout layer ends)
    (few : length rings ≤ MAX_RINGS) where
  reached_with : flat_of layout cell layer ≡ flat_at ends rings
  reached_with = reached layout cell layer is passed ∙ ap (λ (es : List End). flat_at es (rings_at layout layer es)) (sym same)
      ∙ ap (flat_at ends) (sym lent)

  pub outside_from : outside ends rings ≡ true → IsAnswer NoMemory (Err OutOfRange) (flat_of layout cell layer)
  outside_from out = inr (sym (reached_with ∙ out_of_range ends rings few out))

  pub within_from : outside ends rings ≡ false → IsAnswer NoMemory (Ok rings) (flat_of layout cell layer)
  within_from not_out = inr (sym (reached_with ∙ all_within ends rings few not_out))
