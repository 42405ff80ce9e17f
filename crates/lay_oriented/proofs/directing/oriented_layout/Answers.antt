-- The writes that were found lead to the directed layout, which is sound.
use Rattle.std.proofs.Common.{◌≡◌, ◌∙◌, [], List, arith, rules, subst, sym}
use Rattle.std.specs.FinMap.{entries, len, len-entries}
use Rattle.lay_layouts.specs.Layout.{Layout, Write, changed}
use Rattle.lay_layouts.specs.Sound.{IsSound}
use Rattle.lay_oriented.specs.Directed.{IsDirectedBut}
use Rattle.lay_oriented.specs.Steps.{AreWrites}
use Rattle.lay_oriented.proofs.DirectedLemmas.{writes_direct, writes_rise, writes_sound}
use Rattle.lay_oriented.proofs.directing.oriented_layout.Goals as goal

pub found_in-requires : goal.found_in-requires
found_in-requires c =
    let size : c.size.result ≡ len c.version-old.result.now.items = search rules in
    omega (arith, size, len-entries c.version-old.result.now.items)

pub with-requires-clause-items : goal.with-requires-clause-items
with-requires-clause-items c =
    let found = c.in_ok-writes.ensures in
    let wrote = subst (λ (ws : List Write). AreWrites (entries c.version-old.result.now.items) ws found.0)
    (sym c.as_slice.ensures.value) found.3 in
    writes_rise c.version-old.result.now.items c.as_slice.result.now found.0 wrote

pub of-requires : goal.of-requires
of-requires c =
    let old : Layout = c.version-old.result.now in
    let found = c.in_ok-writes.ensures in
    let wrote = subst (λ (ws : List Write). AreWrites (entries c.version-old.result.now.items) ws found.0)
    (sym c.as_slice.ensures.value) found.3 in
    let sound = subst IsSound (sym c.version-old.ensures.value) c.version-old.ensures.sound in
    let same : c.in_ok-new.new ≡ changed old (record { items = c.as_slice.result.now; symbols = [] }) = search rules in
    subst IsSound (sym same) (writes_sound old c.as_slice.result.now found.0 wrote sound)

pub returns : goal.returns
returns c =
    let old : Layout = c.version-old.result.now in
    let found = c.in_ok-writes.ensures in
    let wrote = subst (λ (ws : List Write). AreWrites (entries c.version-old.result.now.items) ws found.0)
    (sym c.as_slice.ensures.value) found.3 in
    let same : c.in_ok-new.new ≡ changed old (record { items = c.as_slice.result.now; symbols = [] }) = search rules in
    let given : c.in_ok-layout.layout ≡ c.in_ok-new.new = search rules in (
      found.0,
      found.1,
      found.2,
      subst (λ (m : Layout). IsDirectedBut c.args.layout.now m found.0) (sym (given ∙ same))
          (subst (λ (l : Layout). IsDirectedBut l (changed old (record { items = c.as_slice.result.now; symbols = [] })) found.0)
          c.version-old.ensures.value (writes_direct old c.as_slice.result.now found.0 wrote)),
    )
