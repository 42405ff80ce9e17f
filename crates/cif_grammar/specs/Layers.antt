-- Layers as a text writes them.
-- Source: Caltech Intermediate Form 2.0, the grammar's layer. That its name may have any length here is this project's own.
use Rattle.std.specs.Prelude.{ℕ, List, [], ◌∷◌, Option, Some, None, if◌then◌else◌}
use Rattle.std.specs.List.{take_while, list_all}
use Rattle.lay_point.specs.Names.{is_name_byte}
use Rattle.cif_grammar.specs.Bytes.{is_blank, skip}

-- the bytes, where there are some and blanks alone stand behind them
abbrev pub name_alone : List ℕ → List ℕ → Option (List ℕ)
name_alone [] behind = None
name_alone (b ∷ bs) behind = if list_all is_blank behind then Some (b ∷ bs) else None

-- {blank} name {blank}, behind the `L`
unfoldable pub layer_of : List ℕ → Option (List ℕ)
layer_of bytes = let rest = skip is_blank bytes in name_alone (take_while is_name_byte rest) (skip is_name_byte rest)
