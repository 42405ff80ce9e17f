use Rattle.std.proofs.Common.{◌≡◌, List, [], ◌∷◌, length, get_or, refl, subst}
use Rattle.snap_chains.specs.declared.owner.Input.TheVariants.{First}
use Rattle.snap_chains.specs.declared.owner.Owner.{Owner}
use Rattle.face_sweep.specs.Reaches.{IsTurnOf}
use Rattle.face_sweep.proofs.turns.turn_of.Goals as goal

first : Owner
first = record { input = First; shape = 0 }

only : (owners : List Owner) → length owners ≡ 1 → get_or owners 0 first ∷ [] ≡ owners
only [] one = absurd cc
only (p ∷ []) one = refl
only (p ∷ q ∷ rest) one = absurd cc

pub returns : goal.returns
unfolding first
returns c =
    subst (λ l. IsTurnOf l c.args.edge c.args.boxes.now c.args.keys.now c.turn_by.result)
    (only c.args.owners.now c.if-owners-ne1.false) c.turn_by.ensures
