use Rattle.std.proofs.Common.{◌≡◌, ℕ, ◌+◌, length, map}
use Rattle.snap_pixels.specs.Strips.{strip_list}
use Rattle.snap_pixels.proofs.strips.empty_lists.Given as goal

-- so many lists, all without segments
abbrev pub invariant-loop-number : goal.invariant-loop-number
invariant-loop-number l = record {
  len : length l.lists.items ≡ l.number + 1;
  none : (k : ℕ) → length (strip_list (map (λ list. list.items) l.lists.items) k) ≡ 0;
}
