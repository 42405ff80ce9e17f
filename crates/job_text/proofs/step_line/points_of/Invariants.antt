-- The points so far, and those of the words that are left, are the points of all words.
use Rattle.std.proofs.Common.{◌≡◌, [], length}
use Rattle.job_text.specs.Steps.{parsed_points}
use Rattle.job_text.specs.Words.{words}
use Rattle.job_text.proofs.step_line.points_of.Given as goal

abbrev pub invariant-loop-x : goal.invariant-loop-x
invariant-loop-x l = parsed_points l.points.items (words l.rest) ≡ parsed_points [] (words l.initial.rest)

abbrev pub decreases-loop-x : goal.decreases-loop-x
decreases-loop-x l = length l.rest
