use Rattle.std.proofs.Common.{◌≡◌, ◌⊎◌, ◌++◌, [], ◌∷◌, List, Vec, Global, length, map, subst, rules, arith}
use Rattle.snap_pixels.specs.declared.segment.Segment.{Segment}
use Rattle.snap_pixels.specs.Marks.{IsCrossed}
use Rattle.snap_pixels.specs.Strips.{AreStripLists}
use Rattle.snap_pixels.proofs.PartLemmas.{IsCrossedInOne-push, after_all, after_list, no_list, with_listed}
use Rattle.snap_pixels.proofs.StripLemmas.{IsCrossed-listed}
use Rattle.snap_pixels.proofs.parts.+add_parts.Goals as goal

pub loop-segments-init : goal.loop-segments-init
loop-segments-init g t c =
    let items = λ (list : Vec Segment Global). list.items in
    let strips = c.in-Some.division.strips in
    let lists = map items c.in_ok-lists.lists.items in
    let listed = subst (λ (l : List Segment). AreStripLists strips l lists) c.as_slice.ensures.value c.in_ok-lists.ensures in
    λ p. with_listed (IsCrossed-listed strips c.args.part.segments.items lists listed p)

pub loop-segments-preserved : goal.loop-segments-preserved
loop-segments-preserved g t c = λ p.
    let e : c.loop-segments.lists.items ≡ c.pop.new.self.items ++ c.in-Some-pop.segments ∷ [] = c.in-Some-pop.ensures.items in
    after_list {S = g.T.TakesParts.crossed c.args.parts.now p ⊎ IsCrossed c.args.part.segments.items p} (c.loop-segments.invariant p)
    (IsCrossedInOne-push (λ list. list.items) c.pop.new.self.items c.loop-segments.lists.items c.in-Some-pop.segments e p)
    (c.in_ok-add_parts.ensures p)

pub returns : goal.returns
returns g t c = λ p.
    let none : length c.loop-segments.lists.items ≡ 0 = search (rules, arith) in
    after_all (no_list (λ (list : Vec Segment Global). list.items) c.loop-segments.lists.items none p) (c.loop-segments.invariant p)
