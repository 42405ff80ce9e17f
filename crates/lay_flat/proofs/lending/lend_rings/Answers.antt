use Rattle.std.proofs.Common.{◌≡◌, ◌∙◌, ◌++◌, ◌+◌, List, drop, get_or, length, rules, subst, sym}
use Rattle.std.specs.Prelude.{flat_map}
use Rattle.std.proofs.lemmas.List.{at_drop_more}
use Rattle.lay_flat.specs.declared.ends.End.{End}
use Rattle.lay_flat.specs.Flattening.{Drawn, drawn_at, rings_at, rings_from}
use Rattle.lay_flat.specs.Lending.{IsTooMany}
use Rattle.lay_flat.specs.Lists.{LayerOf}
use Rattle.lay_flat.proofs.LendingLemmas.{end_default, ends-whole, too_many-more, too_many-same}
use Rattle.lay_flat.proofs.lending.lend_rings.Goals as goal

pub returns-in_err-number-clause-err : goal.returns-in_err-number-clause-err
returns-in_err-number-clause-err c =
    let drawn : End → List Drawn = drawn_at c.args.snapshot.now c.args.layer.now in
    let i = c.loop-end.end-index in
    let here = drawn (get_or c.args.ends.now i end_default) in
    let behind = flat_map drawn (drop (i + 1) c.args.ends.now) in
    let whole : (c.loop-end.rings.items ++ rings_from c.loop-end.number here) ++ rings_from (c.loop-end.number + length here) behind
    ≡ rings_at c.args.snapshot.now c.args.layer.now c.args.ends.now =
    ends-whole c.loop-end.rings.items c.loop-end.number here behind
    ∙ sym (at_drop_more (λ (es : List End). c.loop-end.rings.items ++ rings_from c.loop-end.number (flat_map drawn es)) c.args.ends.now i
    end_default c.loop-end-test.true)
    ∙ c.loop-end.invariant.rest in
    let many : IsTooMany (c.loop-end.rings.items ++ rings_from c.loop-end.number here) c.in_err-number.field-0.0 =
    subst (λ (l : LayerOf). IsTooMany (c.loop-end.rings.items ++ rings_from c.loop-end.number (drawn_at l.layout l.layer
    (get_or c.args.ends.now i end_default))) c.in_err-number.field-0.0) c.loop-end.invariant.lists c.in_err-number.ensures.err in
    let fact : IsTooMany (rings_at c.args.snapshot.now c.args.layer.now c.args.ends.now) c.in_err-number.field-0.0 =
    too_many-same _ _ _ whole (too_many-more (c.loop-end.rings.items ++ rings_from c.loop-end.number here) _ _ many) in
    search (rules, fact)

-- one end more
pub loop-end-preserved : goal.loop-end-preserved
loop-end-preserved c =
    let drawn : End → List Drawn = drawn_at c.args.snapshot.now c.args.layer.now in
    let i = c.loop-end.end-index in
    let here = drawn (get_or c.args.ends.now i end_default) in
    let behind = flat_map drawn (drop (i + 1) c.args.ends.now) in
    let ok : c.lend_end.new.rings.items ≡ c.loop-end.rings.items ++ rings_from c.loop-end.number here =
    subst (λ (l : LayerOf). c.lend_end.new.rings.items ≡ c.loop-end.rings.items ++ rings_from c.loop-end.number
    (drawn_at l.layout l.layer (get_or c.args.ends.now i end_default))) c.loop-end.invariant.lists c.in_ok-number.ensures.ok in
    let number : c.in_ok-number.number ≡ c.loop-end.number + length here =
    subst (λ (l : LayerOf). c.in_ok-number.number ≡ c.loop-end.number + length (drawn_at l.layout l.layer
    (get_or c.args.ends.now i end_default))) c.loop-end.invariant.lists c.in_ok-number.ensures.number in
    record {
      rest = (λ j. ok j ++ rings_from (number j) behind)
          ∙ ends-whole c.loop-end.rings.items c.loop-end.number here behind
          ∙ sym (at_drop_more (λ (es : List End). c.loop-end.rings.items ++ rings_from c.loop-end.number (flat_map drawn es))
          c.args.ends.now i
          end_default c.loop-end-test.true)
          ∙ c.loop-end.invariant.rest;
      lists = c.in_ok-number.ensures.same ∙ c.loop-end.invariant.lists;
      few = c.in_ok-number.ensures.few;
      rings = c.in_ok-number.ensures.rings;
    }
