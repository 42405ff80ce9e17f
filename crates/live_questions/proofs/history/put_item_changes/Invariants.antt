-- All was put but the lines of the changes that are left.
use Rattle.std.proofs.Common.{drop, map}
use Rattle.std.specs.List.{flat_map}
use Rattle.cif_write.proofs.BegunLemmas.{Begun}
use Rattle.txn_commands.specs.Records.{record_of}
use Rattle.live_questions.specs.Answers.{record_line}
use Rattle.live_questions.proofs.history.put_item_changes.Given as goal

abbrev pub invariant-loop-id : goal.invariant-loop-id
invariant-loop-id g l =
    Begun g.O.Out.written g.O.Out.failures l.fn.out l.fn.buffer l.out l.buffer
    (flat_map record_line (map record_of (drop l.id-index l.changes))) (flat_map record_line (map record_of l.changes))
