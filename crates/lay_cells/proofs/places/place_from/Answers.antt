use Rattle.std.proofs.Common.{ℕ, List, ◌<◌, ◌++◌, ◌∷◌, [], length, arith, rules, subst, ◌∙◌}
use Rattle.std.proofs.lemmas.List.{length-set}
use Rattle.lay_cells.specs.Places.{AreBelow}
use Rattle.lay_cells.proofs.PlaceLemmas.{AreBelow-front, AreBelow-last}
use Rattle.lay_cells.proofs.places.place_from.Goals as goal

pub index_mut-requires : goal.index_mut-requires
index_mut-requires c =
    let before : AreBelow (c.pop.new.self.items ++ c.in-Some.position ∷ []) (length c.args.marks.now.items) =
    subst (λ (xs : List ℕ). AreBelow xs (length c.args.marks.now.items)) c.in-Some.ensures.items c.loop-position.invariant.below in
    let inside : c.in-Some.position < length c.loop-position.marks.items =
    omega (arith, AreBelow-last c.pop.new.self.items c.in-Some.position _ before, c.loop-position.invariant.len) in
    search (rules, inside)

pub loop-position-preserved : goal.loop-position-preserved
loop-position-preserved c =
    let before : AreBelow (c.pop.new.self.items ++ c.in-Some.position ∷ []) (length c.args.marks.now.items) =
    subst (λ (xs : List ℕ). AreBelow xs (length c.args.marks.now.items)) c.in-Some.ensures.items c.loop-position.invariant.below in
    record {
      len = length-set c.loop-position.marks.items c.in-Some.position _ ∙ c.loop-position.invariant.len;
      below = AreBelow-front c.pop.new.self.items c.in-Some.position _ before;
    }

pub returns-then-position-first-clause-path : goal.returns-then-position-first-clause-path
returns-then-position-first-clause-path c =
    let before : AreBelow (c.pop.new.self.items ++ c.in-Some.position ∷ []) (length c.args.marks.now.items) =
    subst (λ (xs : List ℕ). AreBelow xs (length c.args.marks.now.items)) c.in-Some.ensures.items c.loop-position.invariant.below in
    AreBelow-front c.pop.new.self.items c.in-Some.position _ before
