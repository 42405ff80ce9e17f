use Rattle.std.proofs.Common.{take}
use Rattle.face_rings.specs.Joining.{IsStretchOf}
use Rattle.face_rings.proofs.stretch.Stretch.of.Given as goal

-- the stretch of the boxes so far
abbrev pub invariant-loop-number : goal.invariant-loop-number
invariant-loop-number l = IsStretchOf l.boxes (take l.number-index l.numbers) l.stretch
