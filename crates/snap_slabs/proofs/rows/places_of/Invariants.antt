use Rattle.std.proofs.Common.{◌≡◌, ℕ, Contains, Some, length, take}
use Rattle.std.specs.Prelude.{slice_get, slice_index_or}
use Rattle.snap_slabs.proofs.rows.places_of.Given as goal

-- the places so far
abbrev pub invariant-loop-place : goal.invariant-loop-place
invariant-loop-place l = record {
  as_many : length l.places.items ≡ l.count;
  placed : (i : ℕ) → Contains (take l.place l.rows) i → slice_get l.rows (slice_index_or l.places.items i 0) ≡ Some i;
}
