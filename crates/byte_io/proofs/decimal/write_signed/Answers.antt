use Rattle.std.proofs.Common.{◌≡◌, ◌+◌, ◌-◌, ◌++◌, ap, arith, drop, rules, to_z-of_z}
use Rattle.std.proofs.lemmas.Fmt.{length-decimal-le}
use Rattle.std.proofs.lemmas.List.{drop-set}
use Rattle.itoa.proofs.Decimal.{minus_first}
use Rattle.byte_io.proofs.decimal.write_signed.Goals as goal

pub write_digits-start-requires : goal.write_digits-start-requires
write_digits-start-requires c = (omega (arith, length-decimal-le 10 c.from.result (omega arith) (omega arith) (omega arith)), search rules)

pub returns-then-integer-ge0-clause-room : goal.returns-then-integer-ge0-clause-room
returns-then-integer-ge0-clause-room c = omega (arith, length-decimal-le 10 c.from.result (omega arith) (omega arith) (omega arith))

pub overflow_sub-text : goal.overflow_sub-text
overflow_sub-text c = omega (arith, length-decimal-le 10 c.from.result (omega arith) (omega arith) (omega arith))

pub overflow_sub-result : goal.overflow_sub-result
overflow_sub-result c = omega (arith, length-decimal-le 10 c.from.result (omega arith) (omega arith) (omega arith))

pub returns-clause-room : goal.returns-clause-room
returns-clause-room c = omega (arith, length-decimal-le 10 c.from.result (omega arith) (omega arith) (omega arith))

pub returns-clause-written : goal.returns-clause-written
returns-clause-written c =
    let w = c.write_digits-start in
    let long = length-decimal-le 10 c.from.result (omega arith) (omega arith) (omega arith) in
    let e : w.result - 1 + 1 ≡ w.result = omega arith in
    let back = to_z-of_z c.ranges.integer in
    rw (drop-set w.new.buf (w.result - 1) 45 (omega arith), e, w.ensures.written, c.from.ensures, c.unsigned_abs.ensures.value, back)
    (ap (λ l. l ++ drop c.args.end c.args.text.now) (minus_first c.args.integer (rw back at c.if-integer-ge0.false)))
