use Rattle.snap_chains.proofs.PassLemmas.{centre_before}
use Rattle.snap_chains.proofs.reading.edge_at.Goals as goal

pub edge_between-requires : goal.edge_between-requires
edge_between-requires c =
    centre_before c.args.centres.now c.requires.rising c.args.pass.low c.args.pass.high c.requires.inside.0 c.requires.inside.1
