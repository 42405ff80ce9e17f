-- The steps that are left complete what all of them lead to, with the replies so far, of which none is Foreign.
use Rattle.std.specs.List.{All}
use Rattle.undo_book.specs.declared.book.TheConstants.{MAX_CALLS}
use Rattle.session_core.specs.Machine.{IsNotForeign, start}
use Rattle.session_core.proofs.RunLemmas.{Completes}
use Rattle.session_core.proofs.machine.Machine.run.Given as goal

abbrev pub invariant-loop-session : goal.invariant-loop-session
invariant-loop-session g l = record {
  ran : Completes (start l.fn.base l.fn.sessions MAX_CALLS) l.fn.steps.items l.replies.items l.machine l.session-iterator;
  own : All IsNotForeign l.replies.items;
}
