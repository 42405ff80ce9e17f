use Rattle.std.proofs.Common.{◌≡◌, ◌+◌, [], drop, ap}
use Rattle.std.proofs.Math.ListN.{drop_of_length-le}
use Rattle.std.specs.List.{flat_map}
use Rattle.std.proofs.lemmas.List.{at_drop_more}
use Rattle.byte_io.proofs.BufferedLemmas.{Buffered-is}
use Rattle.cif_write.proofs.BegunLemmas.{Begun-all, Begun-nothing, Begun-then}
use Rattle.live_questions.specs.Answers.{entry_line, history_text}
use Rattle.live_questions.proofs.history.put_history.Goals as goal

pub loop-entry-init : goal.loop-entry-init
loop-entry-init g c = Begun-nothing _ _ _

pub loop-entry-preserved : goal.loop-entry-preserved
loop-entry-preserved g c =
    let entries = c.args.entries.now in
    let i = c.loop-entry.entry-index in
    let entry = c.entry-item.result in
    Begun-then (flat_map entry_line (drop (i + 1) entries)) c.loop-entry.invariant
    (Buffered-is c.put_entry.ensures (ap entry_line c.entry-item.is))
    (at_drop_more (flat_map entry_line) entries i entry c.loop-entry-test.true)

pub returns : goal.returns
unfolding history_text
returns g c =
    let none : drop c.loop-entry.entry-index c.args.entries.now ≡ [] =
    drop_of_length-le c.args.entries.now c.loop-entry-test.false in
    Begun-all c.loop-entry.invariant (ap (flat_map entry_line) none)
