use Rattle.std.proofs.Common.{◌↔◌, ◌⊎◌, ◌∙◌, ap, refl, subst, Contains}
use Rattle.std.specs.Prelude.{flat_map}
use Rattle.std.specs.declared.alloc.AllocError.{AllocError}
use Rattle.rayon.specs.Lists.{vec_items}
use Rattle.std.specs.List.{AllZip}
use Rattle.snap_pixels.proofs.HotLemmas.{AreHotCentres-gathered}
use Rattle.lay_point.specs.declared.point.Point.{Point}
use Rattle.snap_pixels.proofs.PartLemmas.{AreFound, IsCrossed-same, found_in_parts, through, with_more}
use Rattle.snap_pixels.proofs.search.hot.Goals as goal

pub returns : goal.returns
returns g c =
    let parts = c.in_ok-parts.parts.items in
    let all = ap (λ it. vec_items it.base) c.map.ensures.base ∙ ap vec_items c.with_min_len.ensures.base ∙ c.into_par_iter.ensures in
    let h = rw (c.map.ensures.f) at c.in_ok-collect.ensures in
    let chain = h.1 in
    let made = rw c.in_ok-lists.was at h.2 in
    let each = subst (λ l. AllZip (AreFound AllocError (λ v. v.segments.items) (λ v. v)) l h.0) (chain.1 ∙ all) chain.2 in
    let lists = c.deref-2.ensures.value ∙ made.2 in
    let found =
    found_in_parts AllocError (λ v. v.segments.items) (λ v. v) parts h.0 made.0 each made.1 (flat_map (λ v. v) made.0) refl in
    let joined = λ (p : Point). subst
    (λ l. Contains c.sort.new.self p ↔ (Contains c.add_ends.new.centres p ⊎ Contains (flat_map (λ v. v) l) p)) lists
    (through (c.sort.ensures p) (c.in_ok-add_lists.ensures p)) in
    let same = IsCrossed-same c.put_by_kind.new.segments.items c.args.segments.now (λ s.
    subst (λ l. Contains c.put_by_kind.new.segments.items s ↔ Contains l s) c.in_ok-all.ensures.items (c.put_by_kind.ensures s)) in
    AreHotCentres-gathered c.args.segments.now c.in_ok-centres.centres c.add_ends.new.centres c.sort.new.self c.in_ok-set.set
    c.in_ok-centres.ensures c.in_ok-add_ends.ensures
    (λ p. with_more (joined p) (through (found p) (through (c.in_ok-parts.ensures p) (same p))))
    c.in_ok-set.ensures.rising c.in_ok-set.ensures.members
