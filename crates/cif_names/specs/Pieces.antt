-- The commands of a text, one at a time.
use Rattle.std.specs.Prelude.{◌≡◌, ℕ, ◌<◌, List, [], ◌∷◌, length}
use Rattle.cif_grammar.specs.Cutting.{cut_rest, offset_of}

-- a rest has no command: the text ends there, or breaks off
abbrev pub HasNoCommand : List ℕ → Type 0
HasNoCommand rest = (total : ℕ) → (cut_rest total rest).pieces ≡ []

-- a rest begins with this command, and this is behind it, its semicolon and gaps
pub record IsFirstPiece (rest piece behind : List ℕ) : Type 0 where
  pub first : (total : ℕ) → (cut_rest total rest).pieces ≡ (offset_of total rest, piece) ∷ (cut_rest total behind).pieces
  pub shorter : length behind < length rest
