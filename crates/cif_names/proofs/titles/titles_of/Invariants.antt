use Rattle.std.proofs.Common.{◌≡◌, ℕ, [], length}
use Rattle.cif_names.specs.Maps.{bytes_at}
use Rattle.cif_names.specs.Titles.{first_name}
use Rattle.cif_names.proofs.titles.titles_of.Given as goal

-- the names so far come behind those of the entries that are left
abbrev pub invariant-loop-entry : goal.invariant-loop-entry
invariant-loop-entry l = (n : ℕ) → first_name (bytes_at l.names.entries n) n l.left ≡ first_name [] n l.entries

abbrev pub decreases-loop-entry : goal.decreases-loop-entry
decreases-loop-entry l = length l.left
