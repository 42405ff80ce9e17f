use Rattle.std.proofs.Common.{◌≡◌, ◌+◌, [], drop, ap, map}
use Rattle.std.proofs.Math.ListN.{drop_of_length-le}
use Rattle.std.specs.List.{flat_map}
use Rattle.std.proofs.lemmas.List.{at_drop_more}
use Rattle.byte_io.proofs.BufferedLemmas.{Buffered-is}
use Rattle.cif_write.proofs.BegunLemmas.{Begun-all, Begun-nothing, Begun-then}
use Rattle.txn_commands.specs.Records.{cell_record_of}
use Rattle.live_questions.specs.Answers.{symbol_line}
use Rattle.live_questions.proofs.history.put_symbol_changes.Goals as goal

pub loop-number-init : goal.loop-number-init
loop-number-init g c = Begun-nothing _ _ _

pub loop-number-preserved : goal.loop-number-preserved
loop-number-preserved g c =
    let changes = c.args.changes.now in
    let i = c.loop-number.number-index in
    let change = c.loop-number-item.result in
    Begun-then (flat_map symbol_line (map cell_record_of (drop (i + 1) changes))) c.loop-number.invariant
    (Buffered-is c.put_symbol_change.ensures (ap (λ e. symbol_line (cell_record_of e)) c.loop-number-item.is))
    (at_drop_more (λ es. flat_map symbol_line (map cell_record_of es)) changes i change c.loop-number-test.true)

pub returns : goal.returns
returns g c =
    let none : drop c.loop-number.number-index c.args.changes.now ≡ [] =
    drop_of_length-le c.args.changes.now c.loop-number-test.false in
    Begun-all c.loop-number.invariant (ap (λ es. flat_map symbol_line (map cell_record_of es)) none)
