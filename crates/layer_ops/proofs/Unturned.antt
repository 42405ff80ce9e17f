-- The turn that changes nothing takes each point where it is.
use Rattle.std.proofs.Common.{◌≡◌, true, List, [], ◌∷◌, map, refl, ap, ◌∙◌}
use Rattle.lay_point.specs.declared.point.Point.{Point}
use Rattle.lay_point.specs.declared.turn.Turn.{Turn}
use Rattle.lay_point.specs.SameTurn.{turn_eq, turn_eq-Decides}
use Rattle.lay_point.specs.Turns.{turned, unturned}
use Rattle.lay_point.proofs.TurnLemmas.{turned-unturned}

all_unturned : (ps : List Point) → map (turned unturned) ps ≡ ps
all_unturned [] = refl
all_unturned (p ∷ ps) = λ k. turned-unturned p k ∷ all_unturned ps k

pub unturned_points : (turn : Turn) (ps : List Point) → turn_eq turn unturned ≡ true → map (turned turn) ps ≡ ps
unturned_points turn ps h = ap (λ t. map (turned t) ps) ((turn_eq-Decides turn unturned).0 h) ∙ all_unturned ps
