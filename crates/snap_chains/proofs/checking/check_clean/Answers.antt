use Rattle.std.proofs.Common.{subst}
use Rattle.snap_chains.specs.Rounded.{AreClean}
use Rattle.snap_chains.specs.RowOrder.{AreInRowOrder}
use Rattle.snap_chains.proofs.checking.check_clean.Goals as goal

pub invariant_of-result : goal.invariant_of-result
invariant_of-result c = (
  subst AreClean c.edges.ensures.value c.in_default.ensures,
  subst (λ es. AreInRowOrder es c.in-Ok.order) c.edges-2.ensures.value c.in-Ok.ensures,
)

pub returns-clause-clean : goal.returns-clause-clean
returns-clause-clean c = subst AreClean c.edges.ensures.value c.in_default.ensures
