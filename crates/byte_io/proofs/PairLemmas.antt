-- What stands behind the place where the text of two integers begins.
use Rattle.std.proofs.Common.{◌≡◌, ℕ, ℤ, ◌-◌, List, [], ◌∷◌, ◌++◌, take, drop, length, ap, sym, ◌∙◌, append_assoc, append-nil}
use Rattle.std.specs.Fmt.{signed_decimal}
use Rattle.std.proofs.lemmas.List.{take_rest}

-- two integers, a space before each, the second written first
pub behind_both : (text before : List ℕ) (x y len : ℕ) (first second fst snd : ℤ) → length text ≡ len →
    drop x text ≡ 32 ∷ (signed_decimal fst ++ drop y before) → fst ≡ first →
    drop y before ≡ 32 ∷ (signed_decimal snd ++ []) → snd ≡ second →
    take (len - x) (drop x text) ≡ 32 ∷ ((signed_decimal first ++ 32 ∷ []) ++ signed_decimal second)
behind_both text before x y len first second fst snd long written is_first behind is_second =
    let rest : take (len - x) (drop x text) ≡ drop x text = ap (λ n. take (n - x) (drop x text)) (sym long) ∙ take_rest text x in
    let last : drop y before ≡ 32 ∷ signed_decimal second =
    behind ∙ ap (λ s. 32 ∷ s) (append-nil (signed_decimal snd)) ∙ ap (λ z. 32 ∷ signed_decimal z) is_second in
    rest ∙ written ∙ ap (λ z. 32 ∷ (signed_decimal z ++ drop y before)) is_first ∙ ap (λ s. 32 ∷ (signed_decimal first ++ s)) last
    ∙ ap (λ s. 32 ∷ s) (sym (append_assoc (signed_decimal first) (32 ∷ []) (signed_decimal second)))
