use Rattle.std.proofs.Common.{take}
use Rattle.face_rings.specs.Joining.{IsPartOf, box_reaches_high}
use Rattle.face_rings.proofs.cut.Cut.high_part.Given as goal

-- those of the numbers so far
abbrev pub invariant-loop-number : goal.invariant-loop-number
invariant-loop-number l = IsPartOf (box_reaches_high l.self) l.boxes (take l.number-index l.numbers) l.part.items
