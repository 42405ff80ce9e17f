-- The name of a symbol: the first that stands in its definition.
-- Checked on, by tests/live: of `DS 1; 9 ONE; 9 TWO; DF;` symbol 1 has the name `ONE`.
use Rattle.std.specs.Prelude.{ℕ, ◌-◌, List, [], ◌∷◌, codes, drop, length, nat_eq, take, Bool, ◌&&◌, Option, None, Some, if◌then◌else◌}
use Rattle.std.specs.List.{starts_with}
use Rattle.cif_names.specs.declared.names.Entry.{Entry}
use Rattle.cif_names.specs.declared.names.Names.{Names}
use Rattle.cif_names.specs.declared.titles.Titles.{Titles}
use Rattle.cif_names.specs.Maps.{bytes_at}
use Rattle.cif_names.specs.Woven.{is_symbol}

-- whether a line is that of a name
abbrev pub is_name : List ℕ → Bool
is_name line = starts_with nat_eq line (codes "9 ")

-- what the line of a name says: all of it but `9 ` in front, and the semicolon and the newline at its end
abbrev pub name_said_by : List ℕ → List ℕ
name_said_by line = take (length line - 4) (drop 2 line)

-- whether an entry is a name of this symbol
abbrev pub is_name_of : ℕ → Entry → Bool
is_name_of n e = is_symbol n e.symbol && is_name e.line

-- the name of a symbol that an entry says, or where it says none the one before
abbrev pub named_or : List ℕ → ℕ → Entry → List ℕ
named_or before n e = if is_name_of n e then name_said_by e.line else before

-- the name of a symbol that the first of these entries says, or where none does the one before
abbrev pub first_name : List ℕ → ℕ → List Entry → List ℕ
first_name before n [] = before
first_name before n (e ∷ es) = named_or (first_name before n es) n e

-- the name of a symbol among names and labels, if there are any; no bytes where it has none
abbrev pub title_in : Option Names → ℕ → List ℕ
title_in None n = []
title_in (Some names) n = first_name [] n names.entries

-- the same of names by symbol
abbrev pub title_at : Titles → ℕ → List ℕ
title_at titles n = bytes_at titles.names.entries n
