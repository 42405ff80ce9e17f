use Rattle.std.proofs.Common.{◌≡◌, ◌≤◌, ◌+◌, ◌-◌, ap, arith, length, rules, take}
use Rattle.std.proofs.lemmas.List.{length-append}
use Rattle.face_sweep.specs.Blocks.{all_before}
use Rattle.face_sweep.proofs.BlockLemmas.{before_more, read_before, some_more, step_back}
use Rattle.face_sweep.proofs.blocks.get_before.Goals as goal

pub overflow_sub-start : goal.overflow_sub-start
overflow_sub-start g c =
    let b = c.index-blocks-at.result in
    let count : c.len-start.result ≡ length b.items = search rules in
    let step = step_back c.args.blocks.now c.loop-start.at c.loop-start.start c.args.index c.len-start.result b
    c.loop-start.invariant.bound c.loop-start.invariant.start c.loop-start-test.true c.index-blocks-at.is count in
    omega (arith, step.1)

-- the block before is the next one
pub loop-start-preserved : goal.loop-start-preserved
loop-start-preserved g c =
    let bs = c.args.blocks.now in
    let at = c.loop-start.at in
    let b = c.index-blocks-at.result in
    let count : c.len-start.result ≡ length b.items = search rules in
    let step = step_back bs at c.loop-start.start c.args.index c.len-start.result b
    c.loop-start.invariant.bound c.loop-start.invariant.start c.loop-start-test.true c.index-blocks-at.is count in
    let next : (at - 1) + 1 ≡ at = omega (arith, step.0) in
    record {
      bound = omega arith;
      start = omega (arith, step.1);
      end = omega (arith, c.loop-start.invariant.start, ap (λ n. length (all_before (take n bs))) next, c.loop-start-test.true);
    }

pub index-requires : goal.index-requires
index-requires g c =
    let bs = c.args.blocks.now in
    let at = c.loop-start.at in
    let b = c.index-blocks-at-2.result in
    let low : length (all_before (take at bs)) ≤ c.args.index = omega (arith, c.loop-start.invariant.start, c.loop-start-test.false) in
    let less = some_more all_before bs at c.args.index low c.loop-start.invariant.end in
    let more = before_more bs at b less c.index-blocks-at-2.is in
    omega (
      arith,
      b.ok.0,
      c.loop-start.invariant.start,
      c.loop-start.invariant.end,
      c.loop-start-test.false,
      ap length more,
      length-append (all_before (take at bs)) b.items,
    )

pub returns : goal.returns
returns g c = λ d.
    let bs = c.args.blocks.now in
    let at = c.loop-start.at in
    let low : length (all_before (take at bs)) ≤ c.args.index = omega (arith, c.loop-start.invariant.start, c.loop-start-test.false) in
    let less = some_more all_before bs at c.args.index low c.loop-start.invariant.end in
    read_before bs at c.loop-start.start c.args.index c.index-blocks-at-2.result c.index.result.now d less
    c.index-blocks-at-2.is c.loop-start.invariant.start c.loop-start-test.false c.loop-start.invariant.end c.index.ensures
