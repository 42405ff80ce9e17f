use Rattle.std.proofs.Common.{arith}
use Rattle.snap_chains.proofs.CleanLemmas.{clean_by_pairs, first_of_all, one_more}
use Rattle.snap_chains.proofs.checking.first_pair.Goals as goal

pub returns-in-Some : goal.returns-in-Some
returns-in-Some c =
    let found = c.in-Some.ensures in
    first_of_all c.args.edges.now c.loop-first.first c.in-Some.second found.0 found.1 found.2 found.3 c.loop-first.invariant

pub loop-first-preserved : goal.loop-first-preserved
loop-first-preserved c = one_more c.args.edges.now c.loop-first.first c.loop-first.invariant c.in_default.ensures

pub returns : goal.returns
returns c = clean_by_pairs c.args.edges.now (λ k j less inside. c.loop-first.invariant k j (omega arith) less inside)
