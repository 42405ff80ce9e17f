use Rattle.std.proofs.Common.{subst}
use Rattle.snap_chains.specs.Rounded.{AreClean}
use Rattle.snap_chains.proofs.clean_edges.CleanEdges.edges.Goals as goal

pub returns-clause-clean : goal.returns-clause-clean
returns-clause-clean c = let h = c.self.invariant in let e = c.self.view_is in subst (λ r. AreClean r.0) e h.0
