use Rattle.std.proofs.Common.{◌∙◌, ◌++◌, ◌∷◌, [], flat_map, rules, sym, ap, take}
use Rattle.std.proofs.lemmas.List.{flat_map_more, take_all, take_more}
use Rattle.snap_chains.proofs.passes.joined.Goals as goal

pub loop-list-preserved : goal.loop-list-preserved
loop-list-preserved c =
    let lists = c.args.lists.now in
    let list = c.list-item.result in
    let so_far = take c.loop-list.list-index lists in
    let more = take_more lists c.loop-list.list-index list c.loop-list-test.true ∙ ap (λ q. so_far ++ q ∷ []) (sym c.list-item.is) in
    c.in_ok-extend_from_slice.ensures.items ∙ ap (λ l. l ++ c.as_slice.result.now) c.loop-list.invariant
    ∙ ap (λ l. flat_map (λ v. v.items) so_far ++ l) c.as_slice.ensures.value ∙ flat_map_more (λ v. v.items) [] so_far list
    ∙ ap (flat_map (λ v. v.items)) (sym more)

pub returns : goal.returns
returns c = c.loop-list.invariant ∙ ap (flat_map (λ v. v.items)) (take_all c.loop-list.list-index c.args.lists.now (search rules))
