-- Layer names: 1 to `MAX_LAYER_NAME` digits or upper-case letters of ASCII.
-- Source: Caltech Intermediate Form 2.0, `L name`, which allows 1 to 4; the limit is this project's own.
-- Checked on: `A`, `0Z9` and `ABCDEFGHIJKLMNOP` (16) are names; the empty one, `m` and
-- `ABCDEFGHIJKLMNOPQ` (17) aren't.
use Rattle.std.specs.Prelude.{ℕ, List, length, Bool, ◌&&◌, ◌||◌, nat_le, Option, None, Some, if◌then◌else◌}
use Rattle.std.specs.List.{list_all}
use Rattle.lay_point.specs.declared.layer_name.TheConstants.{MAX_LAYER_NAME}

-- 0 to 9
abbrev pub is_digit : ℕ → Bool
is_digit b = nat_le 48 b && nat_le b 57

-- A to Z
abbrev pub is_upper : ℕ → Bool
is_upper b = nat_le 65 b && nat_le b 90

-- a byte that may stand in a layer name
abbrev pub is_name_byte : ℕ → Bool
is_name_byte b = is_digit b || is_upper b

-- some such bytes, within the limit
abbrev pub is_layer_name : List ℕ → Bool
is_layer_name bytes = nat_le 1 (length bytes) && nat_le (length bytes) MAX_LAYER_NAME && list_all is_name_byte bytes

-- the name that the bytes spell
abbrev pub layer_name_of : List ℕ → Option (List ℕ)
layer_name_of bytes = if is_layer_name bytes then Some bytes else None
