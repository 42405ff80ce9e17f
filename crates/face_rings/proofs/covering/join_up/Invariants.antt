use Rattle.std.proofs.Common.{true}
use Rattle.face_rings.specs.Joining.{numbered_box, covers}
use Rattle.face_rings.proofs.CoverLemmas.{IsPass}
use Rattle.face_rings.proofs.covering.join_up.Given as goal

abbrev pub invariant-loop-number : goal.invariant-loop-number
invariant-loop-number l = IsPass l.boxes l.numbers (λ k. covers l.stretch (numbered_box l.boxes k)) (λ k. true) l.fn.parents l.parents
    l.number-index l.opened.items
