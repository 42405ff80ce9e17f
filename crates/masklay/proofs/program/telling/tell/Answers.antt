-- The text that was told is these lines.
use Rattle.std.proofs.Common.{rules, inr}
use Rattle.masklay.proofs.program.telling.tell.Goals as goal

pub returns-then-not-is_empty : goal.returns-then-not-is_empty
returns-then-not-is_empty g c = inr (search rules, (c.args.lines.now, c.put_words.ensures))
