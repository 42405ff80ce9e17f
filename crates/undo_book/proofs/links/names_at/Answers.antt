use Rattle.undo_book.specs.Indexed.{name_at}
use Rattle.undo_book.proofs.NameLemmas.{named_next}
use Rattle.undo_book.proofs.links.names_at.Goals as goal

pub loop-place-preserved : goal.loop-place-preserved
loop-place-preserved c =
    named_next (name_at c.args.entries.now) c.args.places.now c.loop-place.place-index 0 c.loop-place.names.items
    c.push_some.new.names.items c.named_at.result c.loop-place-test.true c.named_at.ensures c.in_ok-push_some.ensures c.loop-place.invariant
