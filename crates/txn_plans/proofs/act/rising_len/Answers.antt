use Rattle.std.proofs.Common.{◌∙◌, ap, arith, sym}
use Rattle.std.specs.Ordering.{is_lt}
use Rattle.lay_point.proofs.BoolLaws.{Less_by_test}
use Rattle.txn_plans.proofs.RisingWrites.{rising_more, rising_one}
use Rattle.txn_plans.proofs.act.rising_len.Goals as goal

-- one write alone
pub loop-count-init : goal.loop-count-init
loop-count-init c = record { some = omega arith; within = omega (arith, c.requires); rising = rising_one c.args.items.now }

-- one more
pub loop-count-preserved : goal.loop-count-preserved
loop-count-preserved c = record {
  some = omega arith;
  within = omega arith;
  rising = rising_more c.args.items.now c.loop-count.count c.index-items-count.result c.index-items-count-in-loop-count.result
      c.loop-count.invariant.some (omega arith) c.loop-count.invariant.rising
      (Less_by_test _ (sym (c.if-is_lt.ensures ∙ ap is_lt c.cmp.ensures)));
}
