use Rattle.std.proofs.Common.{◌≡◌, ◌≢◌, rules, subst}
use Rattle.std.proofs.lemmas.List.Elements.{All-more}
use Rattle.snap_pixels.specs.declared.kind.Kind.TheVariants.{Slanted}
use Rattle.snap_pixels.specs.Kinds.{IsOfKind}
use Rattle.snap_pixels.proofs.KindLemmas.{AreParallelAll-axis, AreParallelAll-one, AreParallelAll-whole}
use Rattle.snap_pixels.proofs.kind.run_length.Goals as goal

pub returns-then-eq-clause-parallel : goal.returns-then-eq-clause-parallel
returns-then-eq-clause-parallel c = AreParallelAll-one c.in-Some.first.now c.in-Some.later.now c.args.segments.now (search rules)

pub returns-then-ne-clause-parallel : goal.returns-then-ne-clause-parallel
returns-then-ne-clause-parallel c =
    let axis : c.of-kind.result ≢ Slanted = search rules in
    AreParallelAll-axis c.of-kind.result axis c.in-Some.first.now c.in-Some.later.now c.args.segments.now c.loop-i.i
    (search rules) c.of-kind.ensures c.loop-i.invariant

pub loop-i-preserved : goal.loop-i-preserved
loop-i-preserved c =
    let same : c.of.result ≡ c.of-kind.result = search rules in
    let here = subst (λ k. IsOfKind k c.index-later-i.result) same c.of.ensures in
    All-more (IsOfKind c.of-kind.result) c.in-Some.later.now c.loop-i.i c.index-later-i.result
    (search rules) c.loop-i.invariant (subst (IsOfKind c.of-kind.result) c.index-later-i.is here)

pub returns-clause-parallel : goal.returns-clause-parallel
returns-clause-parallel c =
    let axis : c.of-kind.result ≢ Slanted = search rules in
    AreParallelAll-whole c.of-kind.result axis c.in-Some.first.now c.in-Some.later.now c.args.segments.now c.loop-i.i _
    (search rules) c.of-kind.ensures c.loop-i.invariant (search rules) (search rules)
