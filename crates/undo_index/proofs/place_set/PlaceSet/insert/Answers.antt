use Rattle.std.proofs.Common.{◌==◌, ◌∙◌, ◌||◌, ap, sym}
use Rattle.undo_index.specs.First.{has_place}
use Rattle.undo_index.specs.PlaceSet.{places_of}
use Rattle.undo_index.proofs.TreeLemmas.{set_more}
use Rattle.undo_index.proofs.place_set.PlaceSet.insert.Goals as goal

pub returns-in-Many-clause-ok : goal.returns-in-Many-clause-ok
returns-in-Many-clause-ok c p =
    set_more c.in-Many.places c.insert.new.self c.args.place c.in_ok-insert-in-Many.ensures.updates.0 p
    ∙ ap (λ kept. (p == c.args.place) || has_place (places_of kept) p) (sym c.in-Many.is)
