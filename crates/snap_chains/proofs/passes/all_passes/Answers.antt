use Rattle.std.proofs.Common.{◌≡◌, ◌∙◌, List, All, arith, flat_map, sym, ap, subst}
use Rattle.std.specs.Prelude.{max}
use Rattle.rayon.specs.Lists.{chunks_of}
use Rattle.rayon.proofs.ToStd.{chunks_of-concat, slice-AllZip}
use Rattle.lay_point.specs.declared.memory.NoMemory.{NoMemory}
use Rattle.lay_point.specs.declared.point.Point.{Point}
use Rattle.lay_point.specs.Rings.{IsRing}
use Rattle.snap_chains.specs.declared.owner.Owner.{Owner}
use Rattle.snap_chains.specs.Passes.{ArePassesOf}
use Rattle.snap_chains.specs.OwnedRings.{HaveSides}
use Rattle.snap_chains.proofs.ChunkLemmas.{ArePassed, all_join, some_have}
use Rattle.snap_chains.proofs.passes.all_passes.Goals as goal

pub collect-requires-clause-ready : goal.collect-requires-clause-ready
collect-requires-clause-ready g c κs within =
    let rings = c.args.rings.now in
    let segments = c.args._segments.now in
    let chunks = c.map.result.base.base in
    let slice : chunks.slice.now ≡ rings =
    ap (λ it. it.base.slice.now) c.map.ensures.base ∙ ap (λ it. it.slice.now) c.with_min_len.ensures.base ∙ c.par_chunks.ensures.slice in
    let some = chunks_of (max chunks.size 1) chunks.slice.now in
    let whole = chunks_of-concat (max chunks.size 1) chunks.slice.now (omega arith) ∙ slice in
    let have = some_have segments some (subst (All (λ (r : Owner × List Point). IsRing r.1)) (sym whole) c.requires.rings)
    (subst (λ (l : List (Owner × List Point)). HaveSides l segments) (sym whole) c.requires.sides) in
    rw (c.map.ensures.f) (λ k d lt x e. (
      (
        subst (All (λ (r : Owner × List Point). IsRing r.1)) (sym e) (have k d lt).0,
        subst (λ (l : List (Owner × List Point)). HaveSides l segments) (sym e) (have k d lt).1,
        c.requires.hot,
      ),
      λ y p. tt,
    ))

pub returns : goal.returns
returns g c =
    let rings = c.args.rings.now in
    let segments = c.args._segments.now in
    let hot = c.args.centres.now in
    let chunks = c.map.result.base.base in
    let slice : chunks.slice.now ≡ rings =
    ap (λ it. it.base.slice.now) c.map.ensures.base ∙ ap (λ it. it.slice.now) c.with_min_len.ensures.base ∙ c.par_chunks.ensures.slice in
    let some = chunks_of (max chunks.size 1) chunks.slice.now in
    let whole = chunks_of-concat (max chunks.size 1) chunks.slice.now (omega arith) ∙ slice in
    let h = rw (c.map.ensures.f) at c.in_ok-collect.ensures in
    let chain = h.1 in
    let made = rw c.in_ok-lists.was at h.2 in
    let each = slice-AllZip chain.0 some chain.1 (ArePassed segments hot NoMemory (λ v. v.items)) h.0 chain.2 in
    let joined = all_join segments hot NoMemory (λ v. v.items) some h.0 made.0 each made.1 in
    let lists = c.in_ok-passes.ensures ∙ ap (flat_map (λ v. v.items)) (c.deref.ensures.value ∙ made.2) in
    subst (λ l. ArePassesOf segments hot rings l) (sym lists)
    (subst (λ l. ArePassesOf segments hot l (flat_map (λ v. v.items) made.0)) whole joined)
