use Rattle.std.proofs.Common.{◌≡◌, ℕ, ◌<◌, ◌+ℤ◌, pos, map}
use Rattle.std.specs.List.{range_with_len}
use Rattle.snap_pixels.specs.Coordinates.{from_least}
use Rattle.snap_slabs.specs.Runs.{centre_at, row_key}
use Rattle.snap_slabs.proofs.rows.row_keys.Given as goal

-- the keys so far
abbrev pub invariant-loop-number : goal.invariant-loop-number
invariant-loop-number l = record {
  keys : l.keys.items ≡ map (row_key l.centres) (range_with_len 0 l.number);
  rows : (i : ℕ) → i < l.number → pos (from_least (centre_at l.centres i).y) ≡ (centre_at l.centres i).y +ℤ pos 2147483648;
}
