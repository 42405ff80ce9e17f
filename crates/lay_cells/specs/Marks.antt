-- What a search of a call graph marks, by position.
use Rattle.std.specs.Prelude.{◌≡◌, ℕ, ◌+◌, ◌⊎◌, Bool, true, false, List, Contains, length, slice_index_or, sum_by, if◌then◌else◌}
use Rattle.lay_cells.specs.Graph.{row}

-- the cell at this position is marked
abbrev pub IsMarked : List Bool → ℕ → Type 0
IsMarked marks q = slice_index_or marks q false ≡ true

abbrev pub one_unmarked : Bool → ℕ
one_unmarked mark = if mark then 0 else 1

-- how many cells are not marked
abbrev pub unmarked : List Bool → ℕ
unmarked marks = sum_by one_unmarked marks

-- a walk by positions
pub data Path (rows : List (List ℕ)) : ℕ → ℕ → Type 0 where
  here : {p : ℕ} → Path rows p p
  along : {p q t : ℕ} → Contains (row rows p) t → Path rows t q → Path rows p q

-- the targets are marked, and those that were not are pending
pub record MarksAll (targets : List ℕ) (marks : List Bool) (pending : List ℕ) (marks' : List Bool) (pending' : List ℕ) : Type 0 where
  pub whole : length marks' ≡ length marks
  pub kept : (q : ℕ) → IsMarked marks q → IsMarked marks' q
  pub new : (q : ℕ) → IsMarked marks' q → IsMarked marks q ⊎ (Contains targets q × Contains pending' q)
  pub all : (q : ℕ) → Contains targets q → IsMarked marks' q
  pub still : (q : ℕ) → Contains pending q → Contains pending' q
  pub only : (q : ℕ) → Contains pending' q → Contains pending q ⊎ IsMarked marks' q
  pub count : unmarked marks' + length pending' ≡ unmarked marks + length pending

-- in a search from a start: what is marked is on a path, and what it calls is marked or still pending
pub record IsSearch (rows : List (List ℕ)) (start : ℕ) (marks : List Bool) (waiting : List ℕ) : Type 0 where
  pub whole : length marks ≡ length rows
  pub begun : IsMarked marks start
  pub pending : (q : ℕ) → Contains waiting q → IsMarked marks q
  pub sound : (q : ℕ) → IsMarked marks q → Path rows start q
  pub closed : (q : ℕ) → IsMarked marks q → Contains waiting q ⊎ ((t : ℕ) → Contains (row rows q) t → IsMarked marks t)

-- the marks of the cells to which a path leads
pub record AreReached (rows : List (List ℕ)) (start : ℕ) (marks : List Bool) : Type 0 where
  pub whole : length marks ≡ length rows
  pub sound : (q : ℕ) → IsMarked marks q → Path rows start q
  pub complete : (q : ℕ) → Path rows start q → IsMarked marks q
