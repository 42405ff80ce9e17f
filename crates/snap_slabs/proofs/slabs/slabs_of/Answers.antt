use Rattle.std.proofs.Common.{◌∙◌, List, take, drop, sym, ap, subst}
use Rattle.std.proofs.lemmas.List.{drop_min, take_min}
use Rattle.lay_point.specs.declared.point.Point.{Point}
use Rattle.snap_pixels.specs.Order.{AreTransposed}
use Rattle.snap_slabs.specs.Slabs.{AreSlabs}
use Rattle.snap_slabs.proofs.SlabLemmas.{behind, behind-push, one_slab_more}
use Rattle.snap_slabs.proofs.slabs.slabs_of.Goals as goal

pub loop-init : goal.loop-init
loop-init c = record {
  slabs = subst (AreSlabs c.args.size c.args.centres.now) (sym c.new-slabs.ensures.items) tt;
  rest = ap (behind c.args.size c.args.centres.now) (sym c.new-slabs.ensures.items);
}

pub loop-preserved : goal.loop-preserved
loop-preserved c =
    let size = c.args.size in
    let rest = c.loop.rest.now in
    let part = c.split_at.ensures.front ∙ ap (λ n. take n rest) c.min.ensures ∙ take_min size rest in
    let later = c.split_at.ensures.back ∙ ap (λ n. drop n rest) c.min.ensures ∙ drop_min size rest in
    let turn = subst (λ (l : List Point). AreTransposed l c.in_ok-slab.slab) part c.in_ok-slab.ensures in
    let slabs = c.loop.slabs.items in
    record {
      slabs = subst (AreSlabs size c.args.centres.now) (sym c.in_ok-push.ensures.items)
          (one_slab_more size c.args.centres.now rest slabs c.in_ok-slab.slab c.loop.invariant.slabs c.loop.invariant.rest turn);
      rest = later ∙ behind-push size c.args.centres.now rest slabs c.in_ok-slab.slab c.loop.invariant.rest
          ∙ ap (behind size c.args.centres.now) (sym c.in_ok-push.ensures.items);
    }
