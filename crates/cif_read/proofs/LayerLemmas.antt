-- The name behind an `L` is a layer name where it is within the limit.
use Rattle.std.proofs.Common.{◌≡◌, ℕ, ◌≤◌, true, cond, ltb, List, length, Some, None, arith}
use Rattle.std.specs.List.{take_while, list_all}
use Rattle.std.proofs.lemmas.Bool.Decides.{nat_tests}
use Rattle.std.proofs.lemmas.List.Sums.{list_all-from_AllPass}
use Rattle.lay_point.specs.declared.layer_name.TheConstants.{MAX_LAYER_NAME}
use Rattle.lay_point.specs.Names.{is_name_byte, layer_name_of}
use Rattle.cif_grammar.specs.Bytes.{is_blank, skip}
use Rattle.cif_grammar.proofs.Runs.{AllPass-take_while}
use Rattle.cif_grammar.specs.Layers.{layer_of}
use Rattle.cif_grammar.proofs.OtherGrammar.{StandsAlone-from}

named : (name : List ℕ) → 1 ≤ length name → list_all is_name_byte name ≡ true
    → layer_name_of name ≡ cond (ltb MAX_LAYER_NAME (length name)) None (Some name)
named name some passes = grind (arith, nat_tests)

pub layer_name_of_layer : (bytes name : List ℕ) → layer_of bytes ≡ Some name
    → layer_name_of name ≡ cond (ltb MAX_LAYER_NAME (length name)) None (Some name)
unfolding layer_of
layer_name_of_layer bytes name e =
    let rest = skip is_blank bytes in
    let found = StandsAlone-from (take_while is_name_byte rest) (skip is_name_byte rest) name e in
    named name found.some
    (rw (← found.same) (list_all-from_AllPass is_name_byte (take_while is_name_byte rest) (AllPass-take_while is_name_byte rest)))
