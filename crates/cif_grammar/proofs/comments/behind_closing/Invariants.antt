use Rattle.std.proofs.Common.{◌≡◌, ◌+◌, ◌≤◌, length}
use Rattle.cif_grammar.specs.Comments.{behind_closing}
use Rattle.cif_grammar.proofs.comments.behind_closing.Given as goal

abbrev pub invariant-loop-byte : goal.invariant-loop-byte
invariant-loop-byte l = record {
  found : behind_closing l.depth l.rest ≡ behind_closing 0 l.bytes;
  shallow : l.depth + length l.rest ≤ length l.bytes;
}

abbrev pub decreases-loop-byte : goal.decreases-loop-byte
decreases-loop-byte l = length l.rest
