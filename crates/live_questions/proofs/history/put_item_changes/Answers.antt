use Rattle.std.proofs.Common.{◌≡◌, ◌+◌, [], drop, ap, map}
use Rattle.std.proofs.Math.ListN.{drop_of_length-le}
use Rattle.std.specs.List.{flat_map}
use Rattle.std.proofs.lemmas.List.{at_drop_more}
use Rattle.byte_io.proofs.BufferedLemmas.{Buffered-is}
use Rattle.cif_write.proofs.BegunLemmas.{Begun-all, Begun-nothing, Begun-then}
use Rattle.txn_commands.specs.Records.{record_of}
use Rattle.live_questions.specs.Answers.{record_line}
use Rattle.live_questions.proofs.history.put_item_changes.Goals as goal

pub loop-id-init : goal.loop-id-init
loop-id-init g c = Begun-nothing _ _ _

pub loop-id-preserved : goal.loop-id-preserved
loop-id-preserved g c =
    let changes = c.args.changes.now in
    let i = c.loop-id.id-index in
    let change = c.loop-id-item.result in
    Begun-then (flat_map record_line (map record_of (drop (i + 1) changes))) c.loop-id.invariant
    (Buffered-is c.put_item_change.ensures (ap (λ e. record_line (record_of e)) c.loop-id-item.is))
    (at_drop_more (λ es. flat_map record_line (map record_of es)) changes i change c.loop-id-test.true)

pub returns : goal.returns
returns g c =
    let none : drop c.loop-id.id-index c.args.changes.now ≡ [] =
    drop_of_length-le c.args.changes.now c.loop-id-test.false in
    Begun-all c.loop-id.invariant (ap (λ es. flat_map record_line (map record_of es)) none)
