use Rattle.std.proofs.Common.{◌≡◌, []}
use Rattle.std.specs.Vec.Iter.{into_iter_items}
use Rattle.lay_layouts.specs.Layout.{Layout}
use Rattle.txn_commands.specs.Records.{records_between}
use Rattle.txn_commands.specs.Writing.{rewritten}
use Rattle.txn_work.proofs.marking.write_items.Given as goal

-- what is left to write leads from the writes so far to those of all
abbrev pub invariant-loop-id : goal.invariant-loop-id
invariant-loop-id l = (m : Layout) → l.fn.writes ≡ records_between l.snapshot m →
    (n : Layout) × (l.writes ≡ records_between l.snapshot n)
    × (rewritten n (into_iter_items l.id-iterator) [] ≡ rewritten m l.fn.items.items [])
