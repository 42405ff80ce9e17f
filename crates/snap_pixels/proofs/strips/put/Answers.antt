use Rattle.std.proofs.Common.{◌≡◌, ◌<◌, ◌∷◌, [], ◌++◌, List, Vec, Global, length, map, ap, sym, ◌∙◌, arith, rules}
use Rattle.std.specs.Prelude.{slice_set}
use Rattle.std.proofs.lemmas.List.{get_or-map, length-map, map-set}
use Rattle.snap_pixels.specs.declared.segment.Segment.{Segment}
use Rattle.snap_pixels.specs.Strips.{strip_list}
use Rattle.snap_pixels.proofs.StripLemmas.{put_more}
use Rattle.snap_pixels.proofs.strips.put.Goals as goal

pub loop-number-preserved : goal.loop-number-preserved
loop-number-preserved c =
    let items = λ (list : Vec Segment Global). list.items in
    let lists = c.loop-number.lists.items in
    let n = c.loop-number.number in
    let now = map items lists in
    let within : n < length lists = search (rules, arith) in
    let old = c.index_mut.result.now in
    let same : old.items ≡ strip_list now n =
    ap items c.index_mut.ensures.value ∙ sym (get_or-map items lists n old [] within) in
    let pushed : c.push.new.self.items ≡ old.items ++ c.args.segment.now ∷ [] = c.in_ok-push.ensures.items in
    put_more (map items c.args.lists.now.items) now (map items (slice_set lists n c.push.new.self)) c.args.segment.now c.args.first n
    c.loop-number.invariant (omega (arith, length-map lists items, within))
    (map-set items lists n c.push.new.self
    ∙ ap (λ (l : List Segment). slice_set now n l) (pushed ∙ ap (λ (l : List Segment). l ++ c.args.segment.now ∷ []) same))
