-- Turned rings are rings, and rounding them has one answer.
use Rattle.std.proofs.Common.{◌≡◌, sym, subst, ◌∙◌}
use Rattle.snap_laws.specs.RoundLaws.{AreOwnedRings}
use Rattle.bool_rules.specs.Shapes.{owned_of}
use Rattle.bool_rules.proofs.TurningLemmas.{owned_are_rings}
use Rattle.layer_ops.proofs.Both.{both_turned, rounded_is}
use Rattle.layer_ops.proofs.edges.round_both.Goals as goal

pub round-requires-after_bounds : goal.round-requires-after_bounds
round-requires-after_bounds g c κs within =
    let a = c.args.a.now in
    let b = c.args.b.now in
    let same : c.deref-2.result.now ≡ owned_of a b = c.deref-2.ensures.value ∙ c.in_ok-lent.ensures ∙ c.deref.ensures.value
    ∙ both_turned a b c.new-rings.result.items c.add_turned.new.rings.items c.add_turned-2.new.rings.items c.new-rings.ensures.items
    c.in_ok-add_turned.ensures.ok c.in_ok-add_turned-2.ensures.ok in
    subst AreOwnedRings (sym same) (owned_are_rings a b c.in_ok-add_turned.ensures.flat c.in_ok-add_turned-2.ensures.flat)

pub returns-clause-value : goal.returns-clause-value
returns-clause-value g c =
    let a = c.args.a.now in
    let b = c.args.b.now in
    let same : c.deref-2.result.now ≡ owned_of a b = c.deref-2.ensures.value ∙ c.in_ok-lent.ensures ∙ c.deref.ensures.value
    ∙ both_turned a b c.new-rings.result.items c.add_turned.new.rings.items c.add_turned-2.new.rings.items c.new-rings.ensures.items
    c.in_ok-add_turned.ensures.ok c.in_ok-add_turned-2.ensures.ok in
    rounded_is a b c.deref-2.result.now c.in_ok-round.field-0 c.in_ok-add_turned.ensures.flat c.in_ok-add_turned-2.ensures.flat same
    c.in_ok-round.ensures
