use Rattle.std.proofs.Common.{◌≡◌, ℕ, List, ◌++◌, ◌∷◌, [], arith, sym, subst}
use Rattle.lay_cells.specs.Places.{AreBelow}
use Rattle.lay_cells.proofs.PlaceLemmas.{AreBelow-push}
use Rattle.lay_cells.proofs.places.positions.Goals as goal

-- one more position
pub loop-position-preserved : goal.loop-position-preserved
loop-position-preserved c =
    let pushed : c.push.new.self.items ≡ c.loop-position.positions.items ++ c.loop-position.position ∷ [] = c.in_ok-push.ensures.items in
    subst (λ (xs : List ℕ). AreBelow xs c.args.end) (sym pushed)
    (AreBelow-push c.loop-position.positions.items c.loop-position.position _ c.loop-position.invariant (omega arith))
