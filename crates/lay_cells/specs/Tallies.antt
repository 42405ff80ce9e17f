-- How deep walks go and how many there are, by position.
-- Source: Caltech Intermediate Form 2.0, symbol definitions and calls; the count's limit is this
-- project's own.
-- Checked on: of 16 symbols of which each but the last calls the next twice the first has 65,535
-- walks, and with one symbol more 65,537; a chain of 65 calls has depth 65.
use Rattle.std.specs.Prelude.{◌≡◌, ℕ, zero, suc, ◌+◌, ◌^◌, ◌<◌, ◌≤◌, List, [], ◌∷◌, Option, None}
use Rattle.std.specs.Prelude.{Some, Contains, IsSome, length, max, min, slice_index_or, sum_by}
use Rattle.lay_cells.specs.declared.tally.TheConstants.{MAX_COUNTED_WALKS}
use Rattle.lay_cells.specs.declared.tally.Tally.{Tally}
use Rattle.lay_cells.specs.Graph.{row}

-- the greatest of what a function gives for these, or 0
abbrev pub greatest : {A : Type 0} → (A → ℕ) → List A → ℕ
greatest f [] = 0
greatest f (x ∷ xs) = max (f x) (greatest f xs)

-- the calls of the longest walk of at most so many, from the cell at this position
abbrev pub height_within : List (List ℕ) → ℕ → ℕ → ℕ
height_within rows zero p = 0
height_within rows (suc n) p = greatest (λ q. 1 + height_within rows n q) (row rows p)

-- no walk has as many calls as a `usize` counts
abbrev pub AreShallow : List (List ℕ) → Type 0
AreShallow rows = (n p : ℕ) → height_within rows n p + 1 < 2 ^ 64

-- how many walks have at most so many calls
abbrev pub count_within : List (List ℕ) → ℕ → ℕ → ℕ
count_within rows zero p = 1
count_within rows (suc n) p = 1 + sum_by (count_within rows n) (row rows p)

-- a number of walks, as far as it is counted
abbrev pub counted : ℕ → ℕ
counted walks = min walks MAX_COUNTED_WALKS

-- the tally is that of the cell at this position: its walks have so many calls at most, and are so many
pub record IsTally (rows : List (List ℕ)) (p : ℕ) (tally : Tally) : Type 0 where
  pub depth : (n : ℕ) → tally.depth ≤ n → height_within rows n p ≡ tally.depth
  pub walks : (n : ℕ) → tally.depth ≤ n → counted (count_within rows n p) ≡ tally.walks

-- it is that of a cell which calls the cells at these positions
pub record IsSum (rows : List (List ℕ)) (targets : List ℕ) (tally : Tally) : Type 0 where
  pub depth : (n : ℕ) → tally.depth ≤ suc n → greatest (λ q. 1 + height_within rows n q) targets ≡ tally.depth
  pub walks : (n : ℕ) → tally.depth ≤ suc n → counted (1 + sum_by (count_within rows n) targets) ≡ tally.walks

-- the tally at this position, where it is known
abbrev pub tally_at : List (Option Tally) → ℕ → Option Tally
tally_at tallies p = slice_index_or tallies p None

abbrev pub IsTallied : List (Option Tally) → ℕ → Type 0
IsTallied tallies p = IsSome (tally_at tallies p)

-- each that is known is right
abbrev pub AreTallies : List (List ℕ) → List (Option Tally) → Type 0
AreTallies rows tallies = (p : ℕ) (tally : Tally) → tally_at tallies p ≡ Some tally → IsTally rows p tally

-- what the cell at this position calls is known
abbrev pub AreTargetsKnown : List (List ℕ) → List (Option Tally) → ℕ → Type 0
AreTargetsKnown rows tallies p = (q : ℕ) → Contains (row rows p) q → IsTallied tallies q

-- those that can be known from what was known are known after it
pub record AreTallied (rows : List (List ℕ)) (old : List (Option Tally)) (positions : List ℕ) (new : List (Option Tally)) : Type 0 where
  pub whole : length new ≡ length old
  pub sound : AreTallies rows new
  pub kept : (p : ℕ) → IsTallied old p → IsTallied new p
  pub more : (p : ℕ) → Contains positions p → AreTargetsKnown rows old p → IsTallied new p

-- no walk from the cell at this position has so many calls
abbrev pub IsLow : List (List ℕ) → ℕ → ℕ → Type 0
IsLow rows zero p = ⊥
IsLow rows (suc n) p = (q : ℕ) → Contains (row rows p) q → IsLow rows n q
