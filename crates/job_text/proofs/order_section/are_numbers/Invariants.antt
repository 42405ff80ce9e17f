-- Whether the words that are left are numbers decides of all words.
use Rattle.std.proofs.Common.{◌≡◌, length}
use Rattle.std.specs.List.{list_all}
use Rattle.byte_io.specs.Numbers.{is_number}
use Rattle.job_text.specs.Words.{words}
use Rattle.job_text.proofs.order_section.are_numbers.Given as goal

abbrev pub invariant-loop-word : goal.invariant-loop-word
invariant-loop-word l = list_all is_number (words l.rest) ≡ list_all is_number (words l.initial.rest)

abbrev pub decreases-loop-word : goal.decreases-loop-word
decreases-loop-word l = length l.rest
