-- All was put but the lines of the changes that are left.
use Rattle.std.proofs.Common.{drop, map}
use Rattle.std.specs.List.{flat_map}
use Rattle.cif_write.proofs.BegunLemmas.{Begun}
use Rattle.txn_commands.specs.Records.{cell_record_of}
use Rattle.live_questions.specs.Answers.{symbol_line}
use Rattle.live_questions.proofs.history.put_symbol_changes.Given as goal

abbrev pub invariant-loop-number : goal.invariant-loop-number
invariant-loop-number g l =
    Begun g.O.Out.written g.O.Out.failures l.fn.out l.fn.buffer l.out l.buffer
    (flat_map symbol_line (map cell_record_of (drop l.number-index l.changes))) (flat_map symbol_line (map cell_record_of l.changes))
