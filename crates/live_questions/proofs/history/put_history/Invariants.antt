-- All was put but the lines of the transactions that are left.
use Rattle.std.proofs.Common.{drop}
use Rattle.std.specs.List.{flat_map}
use Rattle.cif_write.proofs.BegunLemmas.{Begun}
use Rattle.live_questions.specs.Answers.{entry_line}
use Rattle.live_questions.proofs.history.put_history.Given as goal

abbrev pub invariant-loop-entry : goal.invariant-loop-entry
invariant-loop-entry g l =
    Begun g.O.Out.written g.O.Out.failures l.fn.out l.fn.buffer l.out l.buffer
    (flat_map entry_line (drop l.entry-index l.entries)) (flat_map entry_line l.entries)
