use Rattle.std.proofs.Common.{sym, subst}
use Rattle.std.proofs.lemmas.List.{take_all}
use Rattle.std.specs.Prelude.{Contains}
use Rattle.face_rings.proofs.JoinLemmas.{pairing_next}
use Rattle.face_rings.proofs.joining.join_pairs.Goals as goal

pub loop-one-preserved : goal.loop-one-preserved
loop-one-preserved c =
    pairing_next c.args.boxes.now c.args.parents.now c.loop-one.parents c.join_to.new.parents c.args.numbers.now c.loop-one.one-index
    c.loop-one.invariant c.requires.each c.loop-one-test.true c.join_to.ensures.grows c.join_to.ensures.joined

pub returns : goal.returns
returns c = record {
  grows = c.loop-one.invariant.grows;
  joined = λ i j m m' g. c.loop-one.invariant.joined i j
      (subst (λ l. Contains l i) (sym (take_all c.loop-one.one-index c.args.numbers.now c.loop-one-test.false)) m) m' g;
}
