use Rattle.std.proofs.Common.{List, ◌∙◌, ◌++◌, [], ◌∷◌, flat_map, refl, take, rules, sym, ap, subst}
use Rattle.std.proofs.lemmas.List.{take_all, take_more}
use Rattle.lay_point.specs.declared.point.Point.{Point}
use Rattle.lay_point.specs.Rising.{pairs}
use Rattle.snap_edge_laws.specs.Rounding.{closed_walk}
use Rattle.snap_slabs.proofs.OwnedLemmas.{Contains-flat_map}
use Rattle.snap_chains.specs.declared.owner.Owner.{Owner}
use Rattle.snap_chains.specs.Passes.{ArePassesOf}
use Rattle.snap_chains.proofs.PathPasses.{no_ring_yet, ring_more}
use Rattle.snap_chains.proofs.passes.passes_of.Goals as goal

pub loop-ring-init : goal.loop-ring-init
loop-ring-init c =
    subst (ArePassesOf c.args._segments.now c.args.centres.now []) (sym (search rules))
    (no_ring_yet c.args._segments.now c.args.centres.now)

pub add_ring-requires-clause-sides : goal.add_ring-requires-clause-sides
add_ring-requires-clause-sides c =
    let sides_of : Owner × List Point → List (Point × Point) = λ r. pairs (closed_walk r.1) in
    λ e m. c.requires.sides e (Contains-flat_map sides_of c.args.rings.now c.loop-ring.ring-index c.ring-item.result
    (flat_map sides_of c.args.rings.now) c.loop-ring-test.true c.ring-item.is refl e m)

pub loop-ring-preserved : goal.loop-ring-preserved
loop-ring-preserved c =
    let rings = c.args.rings.now in
    let r = c.ring-item.result in
    let more = take_more rings c.loop-ring.ring-index r c.loop-ring-test.true
    ∙ ap (λ q. take c.loop-ring.ring-index rings ++ q ∷ []) (sym c.ring-item.is) in
    subst (λ l. ArePassesOf c.args._segments.now c.args.centres.now l c.add_ring.new.passes.items) (sym more)
    (ring_more c.args._segments.now c.args.centres.now (take c.loop-ring.ring-index rings) r c.loop-ring.passes.items
    c.add_ring.new.passes.items c.loop-ring.invariant c.in_ok-add_ring.ensures)

pub returns : goal.returns
returns c =
    let all = take_all c.loop-ring.ring-index c.args.rings.now (search rules) in
    subst (λ l. ArePassesOf c.args._segments.now c.args.centres.now l c.loop-ring.passes.items) all c.loop-ring.invariant
