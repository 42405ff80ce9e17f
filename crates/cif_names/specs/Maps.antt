-- What a map from symbols to bytes has.
use Rattle.std.specs.Prelude.{ℕ, List, [], Option, None, Some}
use Rattle.std.specs.BTreeMap.{is_at}
use Rattle.std.specs.Map.{lookup}
use Rattle.std.specs.Ordering.{nat_cmp}

abbrev pub bytes_or_none : Option (List ℕ) → List ℕ
bytes_or_none None = []
bytes_or_none (Some bytes) = bytes

-- the bytes of a symbol; none where it isn't there
abbrev pub bytes_at : List (ℕ × List ℕ) → ℕ → List ℕ
bytes_at entries n = bytes_or_none (lookup (is_at (nat_cmp n)) entries)
