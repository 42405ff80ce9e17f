-- Steps one behind the other, each of which can give nothing.
use Rattle.std.specs.Prelude.{Option, option_and_then}

-- the step that follows takes what this one gives, and nothing follows `None`
infixl 10 ◌>>=◌
abbrev pub ◌>>=◌ : {A B : Type 0} → Option A → (A → Option B) → Option B
o >>= f = option_and_then f o
