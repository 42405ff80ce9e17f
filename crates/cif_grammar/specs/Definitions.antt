-- The beginnings of definitions as a text writes them.
-- Source: Caltech Intermediate Form 2.0, the grammar's definition start: a symbol's number, and a scale or none.
use Rattle.std.specs.Prelude.{ℕ, List, Option, Some, None, if◌then◌else◌}
use Rattle.std.specs.List.{list_all}
use Rattle.cif_grammar.specs.declared.definitions.Definition.{Definition}
use Rattle.cif_grammar.specs.declared.definitions.Scale.{Scale}
use Rattle.cif_grammar.specs.Bytes.{is_blank}
use Rattle.byte_io.specs.Steps.{◌>>=◌}
use Rattle.cif_grammar.specs.Numbers.{behind_separator, integer_at}

-- distances as they are written
abbrev pub plain_scale : Scale
plain_scale = record { numerator = 1; denominator = 1 }

-- separator integer separator integer {blank}
unfoldable pub written_scale_of : List ℕ → Option Scale
written_scale_of bytes = do
  numerator_part ← behind_separator bytes
  numerator ← integer_at numerator_part
  denominator_part ← behind_separator numerator.1
  denominator ← integer_at denominator_part
  if list_all is_blank denominator.1 then Some (record { numerator = numerator.0; denominator = denominator.0 }) else None

-- [separator integer separator integer] {blank}
abbrev pub scale_of : List ℕ → Option Scale
scale_of bytes = if list_all is_blank bytes then Some plain_scale else written_scale_of bytes

-- integer [separator integer separator integer] {blank}, behind the `D`, blanks and the `S`
unfoldable pub definition_of : List ℕ → Option Definition
definition_of bytes = do
  symbol ← integer_at bytes
  scale ← scale_of symbol.1
  Some (record { symbol = symbol.0; scale = scale })
