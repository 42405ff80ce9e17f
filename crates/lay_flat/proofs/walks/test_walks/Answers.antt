use Rattle.std.proofs.Common.{inr, sym}
use Rattle.lay_flat.proofs.Tested.{passes, too_deep, too_many}
use Rattle.lay_flat.proofs.walks.test_walks.Goals as goal

pub returns-then-depth-gt-MAX_DEPTH-clause-tested : goal.returns-then-depth-gt-MAX_DEPTH-clause-tested
returns-then-depth-gt-MAX_DEPTH-clause-tested c = inr (sym (too_deep c.args.lists.now c.args.cell c.in_ok-depth.depth c.in_ok-depth.walks
    c.in_ok-depth.ensures.depth c.in_ok-depth.ensures.walks c.if-depth-gt-MAX_DEPTH.true))

pub returns-then-walks-gt-MAX_RINGS-clause-tested : goal.returns-then-walks-gt-MAX_RINGS-clause-tested
returns-then-walks-gt-MAX_RINGS-clause-tested c = inr (sym (too_many c.args.lists.now c.args.cell c.in_ok-depth.depth c.in_ok-depth.walks
    c.in_ok-depth.ensures.depth c.in_ok-depth.ensures.walks c.if-depth-gt-MAX_DEPTH.false c.if-walks-gt-MAX_RINGS.true))

pub returns-clause-tested : goal.returns-clause-tested
returns-clause-tested c = inr (sym (passes c.args.lists.now c.args.cell c.in_ok-depth.depth c.in_ok-depth.walks
    c.in_ok-depth.ensures.depth c.in_ok-depth.ensures.walks c.if-depth-gt-MAX_DEPTH.false c.if-walks-gt-MAX_RINGS.false))
