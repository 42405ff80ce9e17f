use Rattle.std.proofs.Common.{subst, sym}
use Rattle.std.specs.Prelude.{Contains}
use Rattle.std.proofs.lemmas.List.{take_all}
use Rattle.face_rings.proofs.CoverLemmas.{highest_more}
use Rattle.face_rings.proofs.covering.highest.Goals as goal

pub loop-number-preserved : goal.loop-number-preserved
loop-number-preserved c =
    highest_more c.args.boxes.now c.args.numbers.now c.args.one c.loop-number.number-index c.loop-number.top c.higher-top.result
    c.loop-number-test.true (c.requires.inside c.loop-number.number-index 0 c.loop-number-test.true) c.higher-top.ensures.either
    c.higher-top.ensures.first c.higher-top.ensures.second c.loop-number.invariant

pub returns-clause-highest : goal.returns-clause-highest
returns-clause-highest c = λ k m. c.loop-number.invariant.3 k
    (subst (λ l. Contains l k) (sym (take_all c.loop-number.number-index c.args.numbers.now c.loop-number-test.false)) m)
