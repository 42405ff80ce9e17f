-- A definition without a fault is of a new symbol, within the limits.
use Rattle.std.proofs.Common.{◌≡◌, ℕ, ◌≤◌, ◌<◌, Bool, true, false, cond, List, [], ◌∷◌}
use Rattle.std.proofs.Common.{◌++◌, length, Option, Some, None, Ok, refl, sym, ap, ◌∙◌, arith}
use Rattle.std.proofs.lemmas.Bool.Decides.{nat_tests}
use Rattle.std.specs.Prelude.{nat_lt}
use Rattle.cif_read.specs.declared.fault.FaultKind.TheVariants.{TooMany}
use Rattle.lay_cells.specs.declared.cells.TheConstants.{MAX_SYMBOL}
use Rattle.lay_cells.specs.Symbols.{has_symbol, with_symbol}
use Rattle.cif_grammar.specs.declared.definitions.Definition.{Definition}
use Rattle.cif_read.specs.declared.content.Content.{Content}
use Rattle.cif_read.specs.declared.fault.FaultKind.{FaultKind}
use Rattle.cif_read.specs.declared.file.TheConstants.{MAX_SYMBOLS}
use Rattle.cif_read.specs.Content.{after_start, is_inside}
use Rattle.cif_read.specs.Scales.{IsRatio}
use Rattle.cif_read.specs.Symbols.{definition_fault, has_zero_scale, is_big_definition}

pub record IsNewSymbol (symbols : List ℕ) (d : Definition) : Type 0 where
  pub new : has_symbol symbols d.symbol ≡ false
  pub small : d.symbol ≤ MAX_SYMBOL
  pub few : length symbols < MAX_SYMBOLS
  pub ratio : IsRatio d.scale

-- a refusal isn't none
passed : {P : Type 0} (t : Bool) (kind : FaultKind) (rest : Option FaultKind) → cond t (Some kind) rest ≡ None
    → (t ≡ false → rest ≡ None → P) → P
passed true kind rest e next = absurd (some_none kind e) where
  some_none : (k : FaultKind) → ◌≡◌ {A = Option FaultKind} (Some k) None → ⊥
  some_none k e = cc
passed false kind rest e next = next refl e

pub new_symbol : (symbols : List ℕ) (d : Definition) → definition_fault symbols d ≡ None → IsNewSymbol symbols d
unfolding definition_fault
new_symbol symbols d e =
    passed (is_big_definition d) _ _ e (λ small e. passed (has_zero_scale d) _ _ e (λ some e.
    passed (has_symbol symbols d.symbol) _ _ e (λ new e. record {
      new = new;
      small = grind (arith, nat_tests);
      few = room (nat_lt (length symbols) MAX_SYMBOLS) refl e;
      ratio = record { some = grind (arith, nat_tests); numerator = grind (arith, nat_tests); denominator = grind (arith, nat_tests) };
    })))
  where
    room : (b : Bool) → nat_lt (length symbols) MAX_SYMBOLS ≡ b
        → cond b None (Some TooMany) ≡ None → length symbols < MAX_SYMBOLS
    room true e f = grind (arith, nat_tests)
    room false e f = absurd cc

pub begun_is : (content : Content) (d : Definition) (symbols : List ℕ) → is_inside content.definition ≡ false
    → definition_fault content.symbols d ≡ None → symbols ≡ with_symbol content.symbols d.symbol
    → after_start content d ≡ Ok (record content {
      layer = None;
      definition = Some (record { symbol = d.symbol; scale = d.scale; saved = content.layer });
      symbols = symbols;
    })
unfolding after_start
begun_is content d symbols outside none added =
    let new = (new_symbol content.symbols d none).new in
    let same : symbols ≡ content.symbols ++ d.symbol ∷ [] = added ∙ (rw new refl) in
    rw (outside, none) (ap (λ s. Ok (record content {
      layer = None;
      definition = Some (record { symbol = d.symbol; scale = d.scale; saved = content.layer });
      symbols = s;
    })) (sym same))
