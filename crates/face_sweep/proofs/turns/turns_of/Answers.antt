use Rattle.std.proofs.Common.{◌≡◌, ◌<◌, length, sym, ap, subst, ◌∙◌, arith}
use Rattle.face_sweep.proofs.turns.turns_of.Goals as goal

pub returns : goal.returns
returns c =
    let r = c.args.edges.now in
    let last : c.loop-number.number ≡ length c.edges-number-end.result.now =
    omega (arith, c.loop-number-test.false, c.loop-number.auto.number-end) in
    record {
      count = c.loop-number.invariant.count ∙ last ∙ ap length c.edges-number-end.ensures.value;
      each = λ n given. c.loop-number.invariant.each n
          (omega (arith, last, subst (λ l. n < length l) (sym c.edges-number-end.ensures.value) given));
    }
