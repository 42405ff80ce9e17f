use Rattle.std.proofs.Common.{◌≡◌, ◌∙◌, ◌++◌, ◌∷◌, [], List, ap, append_assoc, arith, length, subst, sym, take}
use Rattle.std.proofs.lemmas.List.{length-append}
use Rattle.std.proofs.lemmas.List.Elements.{All-push}
use Rattle.lay_point.specs.Rings.{IsRing}
use Rattle.lay_flat.specs.Flat.{FlatRing}
use Rattle.lay_flat.specs.Flattening.{rings_of}
use Rattle.lay_flat.specs.Lending.{AreRings}
use Rattle.lay_flat.proofs.LendingLemmas.{rings_of-more}
use Rattle.lay_flat.proofs.lending.lend_shape.Goals as goal

-- one ring more
pub loop-ring-preserved : goal.loop-ring-preserved
loop-ring-preserved c =
    let i = c.loop-ring.ring-index in
    let ring : FlatRing = (c.points-points.result.now, c.args.turn, c.args.number) in
    let pushed : c.push.new.rings.items ≡ c.loop-ring.rings.items ++ ring ∷ [] = c.in_ok-push.ensures in
    let so_far = rings_of c.args.number (c.args.turn, take i c.args.shape.now) in
    let same : ring ≡ (c.ring-item.result, c.args.turn, c.args.number) =
    ap (λ r. (r, c.args.turn, c.args.number)) c.points-points.ensures.value in
    let more = rings_of-more c.args.number c.args.turn c.args.shape.now i c.ring-item.result c.loop-ring-test.true c.ring-item.is in
    record {
      so_far = pushed ∙ ap (λ (rs : List FlatRing). rs ++ ring ∷ []) c.loop-ring.invariant.so_far
          ∙ append_assoc c.args.rings.now.items so_far (ring ∷ [])
          ∙ ap (λ (rs : List FlatRing). c.args.rings.now.items ++ rs) (ap (λ (r : FlatRing). so_far ++ r ∷ []) same ∙ sym more);
      few = omega (arith, ap length pushed, length-append c.loop-ring.rings.items (ring ∷ []), c.if-len-ge-MAX_RINGS.false, c.len.ensures);
      rings = subst (λ (rs : List FlatRing). AreRings rs) (sym pushed)
          (All-push (λ (r : FlatRing). IsRing r.0) c.loop-ring.rings.items ring c.loop-ring.invariant.rings
          (subst IsRing (sym c.points-points.ensures.value) c.points-points.ensures.ring));
    }
