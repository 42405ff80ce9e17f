use Rattle.std.proofs.Common.{◌≡◌, ◌+◌, take}
use Rattle.byte_io.specs.Decimal.{capped_decimal}
use Rattle.byte_io.proofs.decimal.capped_decimal.Given as goal

abbrev pub invariant-loop-digit : goal.invariant-loop-digit
invariant-loop-digit l = l.value ≡ capped_decimal (l.limit + 1) (take l.digit-index l.digits)
