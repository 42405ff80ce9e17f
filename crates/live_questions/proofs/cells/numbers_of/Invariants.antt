use Rattle.std.proofs.Common.{◌≡◌, ℕ, ◌||◌, drop, nat_eq}
use Rattle.std.specs.BTreeMap.{is_at}
use Rattle.std.specs.List.{list_any}
use Rattle.std.specs.List.Sorted.{IsStrictlySortedBy}
use Rattle.std.specs.Ordering.{nat_cmp}
use Rattle.live_questions.proofs.cells.numbers_of.Given as goal

-- the numbers that are left and those that were taken are all, and these are in order
abbrev pub invariant-loop-position : goal.invariant-loop-position
invariant-loop-position l = record {
  sorted : IsStrictlySortedBy nat_cmp l.numbers.keys;
  all : (q : ℕ) → (list_any (nat_eq q) (drop l.position l.cells) || list_any (is_at (nat_cmp q)) l.numbers.keys)
      ≡ list_any (nat_eq q) l.cells;
}
