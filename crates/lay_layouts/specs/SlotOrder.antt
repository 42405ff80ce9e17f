-- The order of a layout's symbols: those of a text in the order in which it has them, then those that
-- transactions made, by number.
-- Source: this project's own.
-- Checked on: symbols 9 and 2 at the places 1 and 2 are in the order 9, 2; a made symbol 1 comes
-- after both.
use Rattle.std.specs.Prelude.{◌≡◌, ℕ, Bool, true, false, List, map, nat_lt, Option, None, Some}
use Rattle.std.specs.declared.cmp.Ordering.{Ordering}
use Rattle.std.specs.Ordering.{nat_cmp, ordering_then}
use Rattle.std.specs.FinMap as finite
use Rattle.std.specs.FinMap.{FinMap}
use Rattle.lay_layouts.specs.declared.slot.CellSlot.{CellSlot}
use Rattle.lay_layouts.specs.declared.slot.CellSlot.TheVariants.{Base, Made}

-- whether a slot comes from a text, 0, or was made, 1; then its place in the text
abbrev pub rank : CellSlot → ℕ × ℕ
rank (Base place) = (0, place)
rank Made = (1, 0)

-- what a symbol is ordered by: its slot's rank, then its number
abbrev pub Standing : Type 0
Standing = (ℕ × ℕ) × ℕ

abbrev pub origin_of : Standing → ℕ
origin_of standing = standing.0.0

abbrev pub text_place_of : Standing → ℕ
text_place_of standing = standing.0.1

abbrev pub symbol_number_of : Standing → ℕ
symbol_number_of standing = standing.1

-- by origin; where that is the same, by the place in the text; where that is the same too, by number
abbrev pub standing_cmp : Standing → Standing → Ordering
standing_cmp a b =
    ordering_then (ordering_then (nat_cmp (origin_of a) (origin_of b)) (nat_cmp (text_place_of a) (text_place_of b)))
    (nat_cmp (symbol_number_of a) (symbol_number_of b))

-- a symbol's number under what it is ordered by
abbrev pub standing_of : ℕ × CellSlot → Standing × ℕ
standing_of symbol = ((rank symbol.1, symbol.0), symbol.0)

abbrev pub by_slot_order : List (ℕ × CellSlot) → FinMap standing_cmp ℕ
by_slot_order symbols = finite.from_entries (map standing_of symbols)

-- the symbols' numbers in this order
unfoldable pub in_slot_order : FinMap nat_cmp CellSlot → List ℕ
in_slot_order symbols = finite.values (by_slot_order (finite.entries symbols))

-- a symbol that was made
abbrev pub is_made : Option CellSlot → Bool
is_made None = false
is_made (Some (Base place)) = false
is_made (Some Made) = true

-- the number is greater than the last, if there is one
abbrev pub is_behind : Option ℕ → ℕ → Bool
is_behind None number = true
is_behind (Some last) number = nat_lt last number

-- no symbol that was made is behind the last
abbrev pub AreMadeUpTo : FinMap nat_cmp CellSlot → Option ℕ → Type 0
AreMadeUpTo symbols last = (number : ℕ) → is_made (finite.get symbols number) ≡ true → is_behind last number ≡ false
