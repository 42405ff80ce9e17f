-- All was put but the lines of the items that are left.
use Rattle.std.specs.List.{flat_map}
use Rattle.live_questions.specs.Answers.{item_line}
use Rattle.cif_write.proofs.BegunLemmas.{Begun}
use Rattle.live_questions.proofs.items.put_each.Given as goal

abbrev pub invariant-loop-id : goal.invariant-loop-id
invariant-loop-id g l =
    Begun g.O.Out.written g.O.Out.failures l.initial.out l.initial.buffer l.out l.buffer (flat_map item_line l.id-iterator)
    (flat_map item_line l.initial.id-iterator)
