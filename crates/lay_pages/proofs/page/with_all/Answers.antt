use Rattle.std.proofs.Common.{◌∙◌, ◌≤◌, ◌++◌, List, Option, ap, arith, length, subst, sym}
use Rattle.std.proofs.lemmas.List.{drop_all}
use Rattle.std.specs.List.Sorted.{IsStrictlySortedBy}
use Rattle.std.specs.Map.{keys_of}
use Rattle.std.specs.Ordering.{is_lt}
use Rattle.lay_pages.specs.Written.{written_all}
use Rattle.lay_pages.proofs.OrderLemmas.{sorted-kept}
use Rattle.lay_pages.proofs.RisingLemmas.{write_more}
use Rattle.lay_pages.proofs.page.with_all.Goals as goal

-- one write more
pub loop-key-preserved : goal.loop-key-preserved
loop-key-preserved g c = record {
  so_far = write_more g.met.K.Ord.total g.met.K.PageKey.exact c.loop-key.new.items c.append.new.new.items c.push_written.new.new.items
      c.loop-key.rest.now
      c.around.result.0.now c.around.result.1.now c.args.writes.now c.loop-key.key-index _ c.loop-key-item.result
      (written_all g.K.Ord.cmp c.args.page.now c.args.writes.now) c.requires.rising c.loop-key-test.true c.loop-key-item.is
      c.around.ensures.before c.around.ensures.after c.in_ok-append.ensures c.in_ok-push_written.ensures c.loop-key.invariant.so_far;
  sorted = subst (λ (es : List (g.row.K.Denot × g.row.V.Denot)). IsStrictlySortedBy g.K.Ord.cmp (keys_of es))
      (sym c.around.ensures.after)
      (sorted-kept g.met.K.Ord.total g.met.K.PageKey.exact (λ q. is_lt (g.K.Ord.cmp _ q)) c.loop-key.rest.now c.loop-key.invariant.sorted);
}

pub returns : goal.returns
returns g c =
    let end : length c.args.writes.now ≤ c.loop-key.key-index = omega arith in
    c.in_ok-append-2.ensures
    ∙ ap (λ (ws : List (g.row.K.Denot × Option g.row.V.Denot)). c.loop-key.new.items ++ written_all g.K.Ord.cmp c.loop-key.rest.now ws)
    (sym (drop_all c.loop-key.key-index c.args.writes.now end))
    ∙ c.loop-key.invariant.so_far
