use Rattle.std.proofs.Common.{◌≡◌, ◌+◌, length}
use Rattle.cif_grammar.specs.Calls.{changes_from, changes_of}
use Rattle.cif_grammar.proofs.calls.read_changes.Given as goal

abbrev pub invariant-loop-rest : goal.invariant-loop-rest
invariant-loop-rest l = changes_from (length l.rest + 1) l.changes.items l.rest ≡ changes_of l.bytes

abbrev pub decreases-loop-rest : goal.decreases-loop-rest
decreases-loop-rest l = length l.rest
