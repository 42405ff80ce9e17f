use Rattle.std.proofs.Common.{◌≡◌, ◌<◌, true, false, rules, sym, ◌∙◌, arith, below_more}
use Rattle.std.proofs.lemmas.Bool.{false≢true}
use Rattle.snap_chains.specs.Clean.{TwoMeetAtEnds}
use Rattle.snap_chains.proofs.CleanLemmas.{two_from, two_to, two_differ}
use Rattle.snap_chains.proofs.checking.first_after.Goals as goal

pub meet_at_ends-requires : goal.meet_at_ends-requires
meet_at_ends-requires c =
    two_differ c.args.edges.now c.args.first c.loop-second.second _ _ c.requires.inside c.loop-second-test.true
    c.index-edges-first.is c.index-edges-second.is c.requires.rising (omega arith)

pub returns-then-not-meet_at_ends : goal.returns-then-not-meet_at_ends
returns-then-not-meet_at_ends c =
    let no : c.meet_at_ends.result ≡ false = search rules in (
      omega arith,
      c.loop-second-test.true,
      (λ two. false≢true (sym no ∙ c.meet_at_ends.ensures.1 (two_to c.args.edges.now c.args.first c.loop-second.second _ _
          c.requires.inside c.loop-second-test.true
          c.index-edges-first.is c.index-edges-second.is two))),
      c.loop-second.invariant,
    )

pub loop-second-preserved : goal.loop-second-preserved
loop-second-preserved c =
    let yes : c.meet_at_ends.result ≡ true = search rules in
    λ j after before. below_more (λ k. c.args.first < k → TwoMeetAtEnds c.args.edges.now c.args.first k) c.loop-second.second
    (λ k lt later. c.loop-second.invariant k later lt)
    (λ _. two_from c.args.edges.now c.args.first c.loop-second.second _ _ c.requires.inside c.loop-second-test.true
    c.index-edges-first.is c.index-edges-second.is (c.meet_at_ends.ensures.0 yes)) j before after

pub returns : goal.returns
returns c = λ l after before. c.loop-second.invariant l after (omega arith)
