-- The scan for the least unused number, step by step.
use Rattle.std.proofs.Common.{◌≡◌, ◌<◌, ℕ, zero, suc, ◌+◌, ◌-◌, true, List, cond, ap, arith}
use Rattle.lay_cells.specs.Symbols.{has_symbol}
use Rattle.cif_write.specs.Wrap.{unused_from}

pub unused_behind : (count number : ℕ) (numbers : List ℕ) → 0 < count → has_symbol numbers number ≡ true
    → unused_from count number numbers ≡ unused_from (count - 1) (number + 1) numbers
unused_behind zero number numbers h used = absurd (omega (arith, h))
unused_behind (suc count) number numbers h used =
    let one_less : suc count - 1 ≡ count = omega arith in
    rw one_less (ap (λ b. cond b (unused_from count (number + 1) numbers) number) used)
