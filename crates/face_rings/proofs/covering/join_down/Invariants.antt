use Rattle.std.proofs.Common.{true}
use Rattle.face_rings.specs.Joining.{numbered_box, covers}
use Rattle.face_rings.proofs.CoverLemmas.{IsPass}
use Rattle.face_rings.proofs.covering.join_down.Given as goal

abbrev pub invariant-loop-number : goal.invariant-loop-number
invariant-loop-number l = IsPass l.boxes l.numbers (λ k. true) (λ k. covers l.stretch (numbered_box l.boxes k)) l.fn.parents l.parents
    l.number-index l.opened.items
