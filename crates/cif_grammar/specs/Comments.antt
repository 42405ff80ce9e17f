-- Comments as a text writes them.
-- Source: Caltech Intermediate Form 2.0, the grammar's comment: bytes in which parentheses match.
use Rattle.std.specs.Prelude.{ℕ, zero, suc, ◌==◌, List, [], ◌∷◌, Option, Some, None, if◌then◌else◌, Bool, false}
use Rattle.std.specs.List.{list_all}
use Rattle.cif_grammar.specs.Bytes.{is_blank}

-- what stands behind the parenthesis that closes the outermost of so many others and one more that are open
unfoldable pub behind_closing : ℕ → List ℕ → Option (List ℕ)
behind_closing depth [] = None
behind_closing zero (b ∷ bs) = if b == 41 then Some bs else if b == 40 then behind_closing 1 bs else behind_closing 0 bs
behind_closing (suc depth) (b ∷ bs) =
    if b == 41 then behind_closing depth bs else if b == 40 then behind_closing (suc (suc depth)) bs else behind_closing (suc depth) bs

abbrev pub are_blanks_behind : Option (List ℕ) → Bool
are_blanks_behind None = false
are_blanks_behind (Some bytes) = list_all is_blank bytes

-- text ")" {blank}, behind the "("
abbrev pub is_comment : List ℕ → Bool
is_comment bytes = are_blanks_behind (behind_closing 0 bytes)
