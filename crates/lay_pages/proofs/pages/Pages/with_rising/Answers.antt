use Rattle.std.proofs.Common.{◌≡◌, ◌∙◌, ◌-◌, List, Option, drop, length, subst, sym, take}
use Rattle.std.proofs.lemmas.List.{take_rest}
use Rattle.std.specs.List.Sorted.{IsStrictlySortedBy}
use Rattle.std.specs.Map.{keys_of}
use Rattle.lay_pages.specs.Written.{written_all}
use Rattle.lay_pages.proofs.RisingLemmas.{sorted_all, sorted_drop, written_parts}
use Rattle.lay_pages.proofs.pages.Pages.with_rising.Goals as goal

-- the writes that are left
pub loop-rest-preserved : goal.loop-rest-preserved
loop-rest-preserved g c =
    let rest = c.loop-rest.rest.now in
    let count = c.in_ok-next.count in
    let left : take (length rest - count) (drop count rest) ≡ drop count rest = take_rest rest count in
    record {
      so_far = (λ i. written_all g.K.Ord.cmp (c.in_ok-next.ensures.entries i) (left i))
          ∙ written_parts g.K.Ord.cmp c.loop-rest.new count rest ∙ c.loop-rest.invariant.so_far;
      sorted = subst (λ (es : List (g.row.K.Denot × g.row.V.Denot)). IsStrictlySortedBy g.K.Ord.cmp (keys_of es))
          (sym c.in_ok-next.ensures.entries)
          (sorted_all g.met.K.Ord.total g.met.K.PageKey.exact c.loop-rest.new (take count rest) c.loop-rest.invariant.sorted);
      rising = subst (λ (ws : List (g.row.K.Denot × Option g.row.V.Denot)). IsStrictlySortedBy g.K.Ord.cmp (keys_of ws)) (sym left)
          (sorted_drop g.K.Ord.cmp count rest c.loop-rest.invariant.rising);
    }
