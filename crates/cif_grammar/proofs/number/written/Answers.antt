use Rattle.std.proofs.Common.{rules, ◌≡◌, ◌+◌, ◌-◌, ◌*◌, ◌∙◌, ◌∷◌, min, true, ap, arith, sym}
use Rattle.std.specs.List.{take_while}
use Rattle.lay_point.specs.Names.{is_digit}
use Rattle.cif_grammar.specs.Bytes.{skip}
use Rattle.cif_grammar.proofs.Digits.{capped_from, one_digit, one_passed}
use Rattle.cif_grammar.proofs.number.written.Goals as goal

pub loop-byte-preserved : goal.loop-byte-preserved
loop-byte-preserved c =
    let byte = c.in-Some.byte.now in
    let behind = c.in-Some.behind.now in
    let whole : c.loop-byte.rest.now ≡ byte ∷ behind = search rules in
    let digit : is_digit byte ≡ true = search rules in
    let next : c.min-value.result ≡ min (10 * c.loop-byte.value + (byte - 48)) 2147483648 = search rules in
    record {
      value = rw next (one_digit 2147483648 c.loop-byte.value byte behind digit)
          ∙ ap (λ r. capped_from 2147483648 c.loop-byte.value (take_while is_digit r)) (sym whole) ∙ c.loop-byte.invariant.value;
      behind = one_passed byte behind digit ∙ ap (skip is_digit) (sym whole) ∙ c.loop-byte.invariant.behind;
      small = rw next (omega arith);
    }
