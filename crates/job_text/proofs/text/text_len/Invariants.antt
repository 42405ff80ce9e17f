-- None of the lines so far is a section.
use Rattle.std.proofs.Common.{length}
use Rattle.job_text.proofs.TextLemmas.{IsPlainTo}
use Rattle.job_text.proofs.text.text_len.Given as goal

abbrev pub invariant-loop-sign : goal.invariant-loop-sign
invariant-loop-sign l = IsPlainTo l.bytes l.rest l.len

abbrev pub decreases-loop-sign : goal.decreases-loop-sign
decreases-loop-sign l = length l.rest
