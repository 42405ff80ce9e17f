use Rattle.std.proofs.Common.{◌≡◌, ◌==◌, ◌∙◌, Bool, true, false, not, ◌&&◌, [], ap, refl, sym}
use Rattle.std.proofs.lemmas.List.{nil_from_length}
use Rattle.undo_index.specs.First.{has_place}
use Rattle.undo_index.specs.PlaceSet.{places_of}
use Rattle.undo_index.proofs.TreeLemmas.{set_less}
use Rattle.undo_index.proofs.place_set.PlaceSet.remove.Goals as goal

is_so : (b : Bool) → not b ≡ false → b ≡ true
is_so true h = refl
is_so false h = absurd cc

pub returns-in-Many-clause-left : goal.returns-in-Many-clause-left
returns-in-Many-clause-left c left p =
    set_less c.in-Many.places c.remove.new.self c.args.place c.remove.ensures.updates.0 p
    ∙ ap (λ kept. not (p == c.args.place) && has_place (places_of kept) p) (sym c.in-Many.is)

pub returns-in-Many-clause-none : goal.returns-in-Many-clause-none
returns-in-Many-clause-none c gone p =
    let none : c.remove.new.self.keys ≡ [] = nil_from_length c.remove.new.self.keys (c.is_empty.ensures.0 (is_so c.is_empty.result gone)) in
    sym (set_less c.in-Many.places c.remove.new.self c.args.place c.remove.ensures.updates.0 p
    ∙ ap (λ kept. not (p == c.args.place) && has_place (places_of kept) p) (sym c.in-Many.is))
    ∙ ap (λ ps. has_place ps p) none
