use Rattle.std.proofs.Common.{◌≡◌, ◌++◌, ℕ, drop}
use Rattle.cif_names.specs.Maps.{bytes_at}
use Rattle.cif_names.specs.Woven.{lines_in}
use Rattle.cif_names.proofs.maps.add_entries.Given as goal

-- each symbol's lines so far, and those of the entries that are left
abbrev pub invariant-loop-entry : goal.invariant-loop-entry
invariant-loop-entry l =
    (n : ℕ) → bytes_at l.map.entries n ++ lines_in l.layered l.called n (drop l.entry-index l.entries)
    ≡ bytes_at l.initial.map.entries n ++ lines_in l.layered l.called n l.entries
