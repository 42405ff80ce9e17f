use Rattle.std.proofs.Common.{◌≡◌, ◌<◌, ◌+◌, ◌∷◌, [], ◌++◌, Vec, Global, refl, length, map}
use Rattle.std.proofs.Common.{get_or, take, sym, ap, ◌∙◌, arith, append_assoc, length-append}
use Rattle.std.proofs.lemmas.List.{get_or-map, length-map, length-take-le, take_more}
use Rattle.lay_point.specs.declared.ring.Ring.{Ring}
use Rattle.face_ring_laws.specs.Heads.{AreDivided}
use Rattle.face_ring_laws.proofs.PartLemmas.{divided_more, empty_lists, map-set, none_divided}
use Rattle.face_rings.proofs.dividing.divided.Goals as goal

pub loop-ring-init : goal.loop-ring-init
loop-ring-init c =
    let parts = c.in_ok-parts.parts.items in (
      refl,
      c.into_iter-ring-iterator.ensures.into_iter_gives.0,
      none_divided c.args.count (map (λ (part : Vec Ring Global). part.items) parts)
          (length-map parts (λ (part : Vec Ring Global). part.items) ∙ c.in_ok-parts.ensures.count)
          (empty_lists (λ (part : Vec Ring Global). part.items) parts c.in_ok-parts.ensures.empty),
    )

pub loop-ring-preserved : goal.loop-ring-preserved
loop-ring-preserved c =
    let labels = c.args.labels.now in
    let n = c.loop-ring.number in
    let parts = c.loop-ring.parts.items in
    let h = c.loop-ring.invariant in
    let left = c.next.new.self.rest.items in
    let all : c.loop-ring.yielded ++ c.in-Some.ring ∷ left ≡ c.args.rings.items =
    ap (λ l. c.loop-ring.yielded ++ l) (sym c.in-Some.ensures.steps.0) ∙ h.1 in
    let lt : n < length labels =
    omega (arith, h.0, c.requires.each, ap length all, length-append c.loop-ring.yielded (c.in-Some.ring ∷ left)) in
    let l = get_or labels n 0 in
    let count : length parts ≡ c.args.count = sym (length-map parts (λ (part : Vec Ring Global). part.items)) ∙ h.2.each in
    let inside : l < length parts = omega (arith, c.requires.within n 0 lt) in
    let old = c.index_mut.result.now in
    let next = divided_more c.args.count (take n labels) c.loop-ring.yielded (map (λ (part : Vec Ring Global). part.items) parts) l
    c.in-Some.ring old.items c.push.new.self.items h.2 (omega (arith, length-take-le n labels (omega arith), h.0))
    (c.requires.within n 0 lt)
    (ap (λ (part : Vec Ring Global). part.items) c.index_mut.ensures.value
    ∙ sym (get_or-map (λ (part : Vec Ring Global). part.items) parts l old old.items inside)) c.in_ok-push.ensures.items in (
      ap (λ k. k + 1) h.0 ∙ sym (length-append c.loop-ring.yielded (c.in-Some.ring ∷ [])),
      append_assoc c.loop-ring.yielded (c.in-Some.ring ∷ []) left ∙ all,
      coe 1 0 (k. AreDivided c.args.count (take_more labels n 0 lt k) (c.loop-ring.yielded ++ c.in-Some.ring ∷ [])
          (map-set (λ (part : Vec Ring Global). part.items) parts l c.push.new.self k)) next,
    )
