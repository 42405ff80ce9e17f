use Rattle.std.proofs.Common.{◌≡◌, Vec, Global, length, map, sym, ◌∙◌, arith, rules}
use Rattle.std.proofs.lemmas.List.{length-map}
use Rattle.snap_pixels.specs.declared.segment.Segment.{Segment}
use Rattle.snap_pixels.proofs.StripLemmas.{listed_all, listed_begun, listed_more}
use Rattle.snap_pixels.proofs.strips.Strips.lists.Goals as goal

pub loop-segment-init : goal.loop-segment-init
loop-segment-init c =
    let items = λ (list : Vec Segment Global). list.items in
    listed_begun c.args.self c.args.segments.now (map items c.in_ok-lists.lists.items)
    (omega (arith, length-map c.in_ok-lists.lists.items items, c.in_ok-lists.ensures.len)) c.in_ok-lists.ensures.none

pub loop-segment-preserved : goal.loop-segment-preserved
loop-segment-preserved c =
    let items = λ (list : Vec Segment Global). list.items in
    let old = c.loop-segment.lists.items in
    let new = c.put.new.lists.items in
    let len : length new ≡ length old = c.in_ok-put.ensures.len in
    listed_more c.args.self c.args.segments.now c.loop-segment.segment-index (map items old) (map items new) c.segment-item.result
    c.loop-segment.invariant (search rules) c.segment-item.is
    (length-map new items ∙ len ∙ sym (length-map old items))
    c.in_ok-put.ensures.own c.in_ok-put.ensures.kept
    (λ k low high. c.in_ok-put.ensures.added k (omega (arith, c.numbers-first.ensures.first)) (omega (arith, c.numbers-first.ensures.last)))

pub returns : goal.returns
returns c =
    let items = λ (list : Vec Segment Global). list.items in
    listed_all c.args.self c.args.segments.now c.loop-segment.segment-index (map items c.loop-segment.lists.items)
    c.loop-segment.invariant (search rules)
