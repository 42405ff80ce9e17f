use Rattle.std.proofs.Common.{◌≡◌, ◌++◌, filter, length}
use Rattle.cif_names.specs.Names.{is_of_symbols}
use Rattle.cif_names.proofs.names.entries_within.Given as goal

-- those so far, and those of the entries that are left
abbrev pub invariant-loop-entry : goal.invariant-loop-entry
invariant-loop-entry l =
    l.kept.items ++ filter (is_of_symbols l.symbols) l.left ≡ filter (is_of_symbols l.symbols) l.entries

abbrev pub decreases-loop-entry : goal.decreases-loop-entry
decreases-loop-entry l = length l.left
