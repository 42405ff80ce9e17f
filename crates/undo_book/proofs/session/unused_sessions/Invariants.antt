use Rattle.std.proofs.Common.{◌≡◌, replicate}
use Rattle.undo_rules.specs.Steps.{unused}
use Rattle.undo_book.proofs.session.unused_sessions.Given as goal

abbrev pub invariant-loop : goal.invariant-loop
invariant-loop l = l.sessions.items ≡ replicate l.counter unused
