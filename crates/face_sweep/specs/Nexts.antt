-- What holds right of an edge is what holds left of the next edge, or nothing.
use Rattle.std.specs.Prelude.{◌≡◌, ℕ, Bool, false, List, [], ◌∷◌}
use Rattle.lay_point.specs.declared.point.Point.{Point}
use Rattle.lay_point.specs.Parity.{xor}
use Rattle.snap_chains.specs.declared.owner.Owner.{Owner}
use Rattle.face_rows.specs.Lines.{owners_at}
use Rattle.snap_chains.specs.Rounded.{Owned, is_owner_listed}
use Rattle.face_sweep.specs.Sides.{AreBehind, holds_beside}
use Rattle.face_rows.specs.Sound.{AreSound}
use Rattle.face_sweep.specs.Points.{IsLevelFrom, IsStatus}

-- what holds left of the first of these edges, or nothing where there is none
abbrev pub left_of_first : Owned → List ℕ → Owner → Bool
left_of_first r [] o = false
left_of_first r (n ∷ ns) o = xor (is_owner_listed o (owners_at r n)) (holds_beside r n o)

abbrev pub StatusBehind : Type 0
StatusBehind = (r : Owned) (p : Point) (numbers : List ℕ) → AreSound r → (s : IsStatus r p numbers) → AreBehind r s.above

-- of a list of which each edge has on its right what those behind it tell, the next edge tells it
abbrev pub NextTells : Type 0
NextTells = (r : Owned) (behind : List ℕ) (n : ℕ) (o : Owner) → AreBehind r (n ∷ behind) → holds_beside r n o ≡ left_of_first r behind o

-- and above a level edge the first edge right of its left end does
abbrev pub LevelNext : Type 0
LevelNext = (r : Owned) (p : Point) (numbers : List ℕ) (n : ℕ) (o : Owner) → AreSound r → IsLevelFrom r p n → (s : IsStatus r p numbers)
    → holds_beside r n o ≡ left_of_first r s.above o
