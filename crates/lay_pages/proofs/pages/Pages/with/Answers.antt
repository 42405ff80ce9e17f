use Rattle.std.proofs.Common.{◌≡◌, List, [], ◌∷◌, Option, rules, subst, sym}
use Rattle.std.specs.List.Sorted.{IsStrictlySortedBy}
use Rattle.std.specs.Map.{keys_of}
use Rattle.lay_pages.proofs.RisingLemmas.{sorted_one}
use Rattle.lay_pages.proofs.pages.Pages.with.Goals as goal

pub with_group-requires-clause-rising : goal.with_group-requires-clause-rising
with_group-requires-clause-rising g c =
    let is : c.deref.result.now ≡ (c.args.key, c.args.value) ∷ [] = search rules in
    subst (λ (ws : List (g.row.K.Denot × Option g.row.V.Denot)). IsStrictlySortedBy g.K.Ord.cmp (keys_of ws)) (sym is)
    (sorted_one g.K.Ord.cmp c.args.key)
