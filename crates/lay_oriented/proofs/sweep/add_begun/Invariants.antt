use Rattle.std.proofs.Common.{◌≡◌, true, ℤ, ◌+ℤ◌, length}
use Rattle.lay_oriented.specs.Slants.{are_by_height, counts}
use Rattle.lay_oriented.proofs.sweep.add_begun.Given as goal

-- those that are left count what is missing
abbrev pub invariant-loop-slant : goal.invariant-loop-slant
invariant-loop-slant l = record {
  sums : (k x y : ℤ) → counts k x y l.active.items +ℤ counts k x y l.left ≡ counts k x y l.initial.active.items +ℤ counts k x y l.slants;
  order : are_by_height l.slants ≡ true → are_by_height l.left ≡ true;
}

abbrev pub decreases-loop-slant : goal.decreases-loop-slant
decreases-loop-slant l = length l.left
