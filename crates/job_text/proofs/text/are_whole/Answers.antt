use Rattle.std.proofs.Common.{sym}
use Rattle.job_text.proofs.TextLemmas.{whole_by_last}
use Rattle.job_text.proofs.text.are_whole.Goals as goal

pub returns-in-Some : goal.returns-in-Some
returns-in-Some c = sym (whole_by_last c.args.bytes.now c.in-Some.last.now (sym c.in-Some.ensures.value))
