use Rattle.std.proofs.Common.{◌≡◌, ℕ, [], ◌∷◌, None, Option, ap, rules, subst, sym}
use Rattle.undo_index.specs.declared.place_set.PlaceSet.{PlaceSet}
use Rattle.undo_index.specs.First.{IsFirst, first_of, has_place}
use Rattle.undo_index.specs.PlaceSet.{places_of}
use Rattle.undo_index.proofs.TreeLemmas.{first_in}
use Rattle.undo_index.proofs.place_set.PlaceSet.first.Goals as goal

pub returns-in_err-next-in-Many : goal.returns-in_err-next-in-Many
returns-in_err-next-in-Many c =
    let empty : c.range.result ≡ [] = search rules in
    let is : None ≡ c.from_residual.result = search rules in
    subst (λ (o : Option ℕ). IsFirst (has_place (places_of c.args.self.now)) c.args.from o) is
    (subst (λ (kept : PlaceSet). IsFirst (has_place (places_of kept)) c.args.from None) (sym c.in-Many.is)
    (subst (λ (o : Option ℕ). IsFirst (has_place c.in-Many.places.keys) c.args.from o) (ap first_of empty)
    (first_in c.in-Many.places c.args.from c.range.result (c.range.ensures.in_range tt))))

pub returns-in_ok-next-in-Many : goal.returns-in_ok-next-in-Many
returns-in_ok-next-in-Many c =
    let first = c.in_ok-next-in-Many.field-0.now in
    let at : c.range.result ≡ first ∷ c.next.new.self = search rules in
    subst (λ (kept : PlaceSet). IsFirst (has_place (places_of kept)) c.args.from (first_of (first ∷ c.next.new.self))) (sym c.in-Many.is)
    (subst (λ (o : Option ℕ). IsFirst (has_place c.in-Many.places.keys) c.args.from o) (ap first_of at)
    (first_in c.in-Many.places c.args.from c.range.result (c.range.ensures.in_range tt)))
