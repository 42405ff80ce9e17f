-- The sessions so far, and those of the words that are left, are the sessions of all words.
use Rattle.std.proofs.Common.{◌≡◌, ◌++◌, length}
use Rattle.job_text.specs.Job.{named_by}
use Rattle.job_text.specs.Words.{words}
use Rattle.job_text.proofs.order_section.push_named.Given as goal

abbrev pub invariant-loop-word : goal.invariant-loop-word
invariant-loop-word l = l.order.items ++ named_by (words l.rest) ≡ l.initial.order.items ++ named_by (words l.initial.rest)

abbrev pub decreases-loop-word : goal.decreases-loop-word
decreases-loop-word l = length l.rest
