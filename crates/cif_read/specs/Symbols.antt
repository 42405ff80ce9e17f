-- Definitions of symbols.
-- Source: Caltech Intermediate Form 2.0, symbol definitions. That a number is defined once, and the limits, are this project's own.
use Rattle.std.specs.Prelude.{ℕ, ◌==◌, nat_lt, length, List, Bool, ◌||◌, Option, Some, None, if◌then◌else◌}
use Rattle.lay_cells.specs.declared.cells.TheConstants.{MAX_SYMBOL}
use Rattle.lay_cells.specs.Symbols.{has_symbol}
use Rattle.cif_grammar.specs.declared.definitions.Definition.{Definition}
use Rattle.cif_read.specs.declared.fault.FaultKind.{FaultKind}
use Rattle.cif_read.specs.declared.fault.FaultKind.TheVariants.{TooBig, TooMany, TwoSymbols, ZeroScale}
use Rattle.cif_read.specs.declared.file.TheConstants.{MAX_SYMBOLS}
use Rattle.cif_read.specs.Polygons.{is_above_written}

-- some number is above all that a text may write, or the symbol's is above its own limit
abbrev pub is_big_definition : Definition → Bool
is_big_definition d = nat_lt MAX_SYMBOL d.symbol || is_above_written d.scale.numerator || is_above_written d.scale.denominator

abbrev pub has_zero_scale : Definition → Bool
has_zero_scale d = d.scale.numerator == 0 || d.scale.denominator == 0

-- what is wrong with a definition where these symbols are defined
unfoldable pub definition_fault : List ℕ → Definition → Option FaultKind
definition_fault symbols d =
    if is_big_definition d then Some TooBig
    else if has_zero_scale d then Some ZeroScale
    else if has_symbol symbols d.symbol then Some TwoSymbols
    else if nat_lt (length symbols) MAX_SYMBOLS then None
    else Some TooMany
