use Rattle.std.proofs.Common.{◌≡◌, ◌∙◌, arith, false, length, nat_eq, sym}
use Rattle.std.proofs.lemmas.Bool.Decides.{nat_tests}
use Rattle.std.specs.Cmp.{nat_cmp_total}
use Rattle.lay_layouts.specs.Layout.{symbols_of}
use Rattle.lay_layouts.specs.Same.{symbols_eq}
use Rattle.lay_layouts.proofs.SameLemmas.{map_eq-of, of_lengths}
use Rattle.lay_layouts.proofs.symbol_map.SymbolMap.is_same.Goals as goal

-- maps of different sizes differ
pub returns-else-len : goal.returns-else-len
returns-else-len c =
    let slots = c.self.inside.slots in
    let others = c.other.inside.slots in
    let lens : nat_eq (length slots) (length others) ≡ false = grind (arith, nat_tests) in
    let answer : nat_eq c.len.result c.len-2.result ≡ false = grind (arith, nat_tests) in
    let own : symbols_eq (symbols_of slots) (symbols_of others) ≡ false =
    map_eq-of _ nat_cmp_total _ _ slots others c.len.ensures.sorted c.len-2.ensures.sorted ∙ of_lengths _ slots others lens in
    answer ∙ sym own ∙ (λ i. symbols_eq (c.self.view_is i) (c.other.view_is i))
