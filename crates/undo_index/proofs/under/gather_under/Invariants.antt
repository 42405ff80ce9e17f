use Rattle.std.proofs.Common.{◌≡◌, ◌++◌, map}
use Rattle.lay_layouts.specs.Ids.{id_cmp}
use Rattle.undo_index.specs.Under.{pairs_below}
use Rattle.undo_index.proofs.under.gather_under.Given as goal

-- with those that are left they are all
abbrev pub invariant-loop-pair : goal.invariant-loop-pair
invariant-loop-pair l =
    l.places.items ++ map (λ k. k.1) l.pair-iterator
    ≡ l.fn.places.items ++ map (λ k. k.1) (pairs_below id_cmp l.fn.id l.below l.pairs)
