use Rattle.std.proofs.Common.{length, map, Vec, Global, ap, subst, ◌∙◌}
use Rattle.lay_point.specs.declared.ring.Ring.{Ring}
use Rattle.face_ring_laws.specs.Parts.{AreJoined, bounding_box}
use Rattle.face_ring_laws.proofs.PartLaws.{odd_by_parts}
use Rattle.face_ring_laws.specs.Heads.{AreDivided, IsFinest, IsNumbered}
use Rattle.face_ring_laws.proofs.PartLemmas.{are_parts}
use Rattle.face_rings.proofs.BottomLemmas.{boxes_have_height}
use Rattle.face_rings.proofs.dividing.parts.Goals as goal

pub joined_heads-requires : goal.joined_heads-requires
joined_heads-requires c =
    boxes_have_height c.deref-2.result.now c.deref.result.now (c.deref-2.ensures.value ∙ c.in_ok-boxes.ensures)

pub returns-clause-parts : goal.returns-clause-parts
returns-clause-parts c =
    let rings = c.args.rings.items in
    let parts = map (λ (part : Vec Ring Global). part.items) c.in_ok-divided.field-0.items in
    let boxes = c.in_ok-boxes.boxes.items in
    let heads = c.in_ok-heads.heads.items in
    let labels = c.in_ok-labels.labels.items in
    let count = c.in_ok-labels.count in (
      labels,
      are_parts rings boxes heads labels count parts (c.in_ok-boxes.ensures ∙ ap (map bounding_box) c.deref.ensures.value)
          (subst (λ b. IsFinest (AreJoined b) (length b) heads) c.deref-2.ensures.value c.in_ok-heads.ensures)
          (subst (λ h. IsNumbered h (length h) labels count) c.deref-3.ensures.value c.in_ok-labels.ensures)
          (subst (λ l. AreDivided count l rings parts) c.deref-4.ensures.value c.in_ok-divided.ensures),
    )

pub returns-clause-parity : goal.returns-clause-parity
returns-clause-parity c =
    let rings = c.args.rings.items in
    let parts = map (λ (part : Vec Ring Global). part.items) c.in_ok-divided.field-0.items in
    odd_by_parts rings parts (returns-clause-parts c)
