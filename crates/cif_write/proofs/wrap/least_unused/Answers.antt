use Rattle.std.proofs.Common.{◌≡◌, ◌<◌, ◌+◌, ◌-◌, true, length, arith, rules, ap, sym, ◌∙◌}
use Rattle.lay_cells.specs.Symbols.{has_symbol}
use Rattle.cif_write.specs.Wrap.{unused_from}
use Rattle.cif_write.proofs.WrapLemmas.{unused_behind}
use Rattle.cif_write.proofs.wrap.least_unused.Goals as goal

-- the next number is tried
pub loop-symbol-preserved : goal.loop-symbol-preserved
loop-symbol-preserved c =
    let cells = c.args.cells.now in
    let used : has_symbol cells c.loop-symbol.number ≡ true = search rules in
    let next : c.in_ok-number.number ≡ c.loop-symbol.number + 1 = search rules in
    let left : 0 < length cells - c.loop-symbol._symbol = omega (arith, c.loop-symbol-test.true, c.len-symbol-end.ensures.value) in
    let fewer : length cells - (c.loop-symbol._symbol + 1) ≡ length cells - c.loop-symbol._symbol - 1 = omega arith in
    ap (λ number. unused_from (length cells - (c.loop-symbol._symbol + 1)) number cells) next
    ∙ ap (λ count. unused_from count (c.loop-symbol.number + 1) cells) fewer
    ∙ sym (unused_behind (length cells - c.loop-symbol._symbol) c.loop-symbol.number cells left used) ∙ c.loop-symbol.invariant
