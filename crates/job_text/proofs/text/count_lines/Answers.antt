use Rattle.std.proofs.Common.{◌≡◌, ◌+◌, arith, cond, length}
use Rattle.byte_io.specs.Lines.{lines}
use Rattle.job_text.proofs.TextLemmas.{length-lines, length-lines-le}
use Rattle.job_text.proofs.text.count_lines.Goals as goal
use Rattle.job_text.proofs.text.count_lines.Goals.{After-are_whole}

counted : (c : After-are_whole) → length (lines c.args.bytes.now) ≡ c.count_newlines-newlines.result + cond c.are_whole.result 0 1
counted c = rw (c.count_newlines-newlines.ensures, c.are_whole.ensures) (length-lines c.args.bytes.now)

pub returns-then-are_whole-clause-value : goal.returns-then-are_whole-clause-value
returns-then-are_whole-clause-value c =
    let all = rw (c.if-are_whole.true) at (counted (goal.at.returns-then-are_whole-clause-value c).After-are_whole) in
    omega arith

pub returns-else-are_whole-clause-value : goal.returns-else-are_whole-clause-value
returns-else-are_whole-clause-value c =
    let all = rw (c.if-are_whole.false) at (counted (goal.at.returns-else-are_whole-clause-value c).After-are_whole) in
    omega arith

pub returns-else-are_whole-clause-few : goal.returns-else-are_whole-clause-few
returns-else-are_whole-clause-few c =
    let all = rw (c.if-are_whole.false) at (counted (goal.at.returns-else-are_whole-clause-few c).After-are_whole) in
    let few = length-lines-le c.args.bytes.now in
    omega arith

pub overflow_add-result : goal.overflow_add-result
overflow_add-result c =
    let all = rw (c.if-are_whole.false) at (counted (goal.at.overflow_add-result c).After-are_whole) in
    let few = length-lines-le c.args.bytes.now in
    let short = c.requires in
    omega arith
