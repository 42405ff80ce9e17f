use Rattle.std.proofs.Common.{◌≡◌, ◌+◌, ◌≤◌, length}
use Rattle.cif_grammar.specs.Cutting.{semicolon_from}
use Rattle.cif_grammar.proofs.cutting.comment_len.Given as goal

abbrev pub invariant-loop-byte : goal.invariant-loop-byte
invariant-loop-byte l = record {
  found : semicolon_from l.place l.depth l.rest ≡ semicolon_from 1 1 l.behind;
  shallow : l.depth ≤ l.place;
  parts : l.place + length l.rest ≡ length l.behind + 1;
}

abbrev pub decreases-loop-byte : goal.decreases-loop-byte
decreases-loop-byte l = length l.rest
