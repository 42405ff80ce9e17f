use Rattle.std.proofs.Common.{take}
use Rattle.face_rings.specs.Joining.{IsPartOf, box_reaches_low}
use Rattle.face_rings.proofs.cut.Cut.low_part.Given as goal

-- those of the numbers so far
abbrev pub invariant-loop-number : goal.invariant-loop-number
invariant-loop-number l = IsPartOf (box_reaches_low l.self) l.boxes (take l.number-index l.numbers) l.part.items
