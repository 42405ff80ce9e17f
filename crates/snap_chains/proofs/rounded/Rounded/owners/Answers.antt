use Rattle.std.proofs.Common.{subst}
use Rattle.std.proofs.lemmas.Option.{slice_get_within}
use Rattle.lay_point.specs.Rising.{IsRising}
use Rattle.snap_chains.specs.Owners.{IsOwnerBefore}
use Rattle.snap_chains.proofs.ListLemmas.{got}
use Rattle.snap_chains.proofs.rounded.Rounded.owners.Goals as goal

pub returns-clause-rising : goal.returns-clause-rising
returns-clause-rising c =
    let lists = c.self.inside.owners in
    let owners = c.get.result.now in
    subst (IsRising IsOwnerBefore) (got lists c.args.edge owners c.get.ensures)
    (c.self.invariant.ordered c.args.edge owners (slice_get_within lists c.args.edge owners c.get.ensures))
