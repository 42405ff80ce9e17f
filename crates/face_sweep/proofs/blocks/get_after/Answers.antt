use Rattle.std.proofs.Common.{◌≡◌, ◌<◌, ◌≤◌, ◌+◌, ◌-◌, ap, sym, ◌∙◌, arith, get_or, length, refl, rules, take}
use Rattle.std.proofs.lemmas.List.{get_or_read, length-append}
use Rattle.face_sweep.specs.Blocks.{all_after}
use Rattle.face_sweep.proofs.BlockLemmas.{past_block, read_after, some_block, after_more}
use Rattle.face_sweep.proofs.blocks.get_after.Goals as goal

pub loop-left-preserved : goal.loop-left-preserved
loop-left-preserved g c =
    let bs = c.args.blocks.now in
    let at = c.loop-left.at in
    let left = c.loop-left.left in
    let bound = c.loop-left.invariant.bound in
    let n = c.len-left.result in
    let b = c.index-blocks-at-in-loop-left.result in
    let tested : c.len.result ≡ length c.index-blocks-at.result.items = search rules in
    let count : n ≡ length b.items = search rules in
    let same = get_or_read bs at c.index-blocks-at.result bound c.index-blocks-at.is b ∙ sym c.index-blocks-at-in-loop-left.is in
    let low : n ≤ left = omega (arith, tested, count, ap (λ v. length v.items) same, c.loop-left-test.true) in
    let more = ap length (after_more bs at b bound c.index-blocks-at-in-loop-left.is) in
    let second = length-append b.items (all_after (take at bs)) in
    let inside : left - n < length (all_after (take at bs)) = omega (arith, count, more, second, c.loop-left.invariant.left) in
    let some = some_block all_after bs at (left - n) refl inside in
    let next : at ≡ (at - 1) + 1 = omega arith in
    record {
      bound = omega arith;
      left = omega (arith, inside, ap (λ k. length (all_after (take k bs))) next);
      same = λ d. c.loop-left.invariant.same d ∙ past_block bs at left n b d bound c.index-blocks-at-in-loop-left.is count low
          ∙ ap (λ k. get_or (all_after (take k bs)) (left - n) d) next;
    }

pub returns : goal.returns
returns g c = λ d.
    let bs = c.args.blocks.now in
    let at = c.loop-left.at in
    let bound = c.loop-left.invariant.bound in
    let b = c.index-blocks-at-2.result in
    let tested : c.len.result ≡ length c.index-blocks-at.result.items = search rules in
    let same = get_or_read bs at c.index-blocks-at.result bound c.index-blocks-at.is b ∙ sym c.index-blocks-at-2.is in
    let inside : c.loop-left.left < length b.items = omega (arith, tested, ap (λ v. length v.items) same, c.loop-left-test.false) in
    read_after bs at c.loop-left.left b c.index.result.now d bound c.index-blocks-at-2.is inside c.index.ensures
    ∙ sym (c.loop-left.invariant.same d)
