-- Dealt replies are as many lists as there are sessions.
use Rattle.std.proofs.Common.{◌≡◌, ◌-◌, ◌++◌, ◌≤◌, ◌==◌, ◌∙◌, ℕ, true, List, [], ◌∷◌, append_assoc, ap, arith, length, refl, replicate}
use Rattle.std.proofs.Common.{slice_index_or, slice_set, sym}
use Rattle.std.proofs.lemmas.Bool.{and_parts}
use Rattle.std.proofs.lemmas.Bool.Decides.{nat_tests}
use Rattle.std.proofs.lemmas.List.{append-nil, length-replicate, length-set}
use Rattle.session_steps.specs.declared.Reply.{Reply}
use Rattle.session_steps.specs.Turns.{dealt, is_first_alone}

length-dealt : (order : List ℕ) (replies : List Reply) (hands : List (List Reply)) → length (dealt order replies hands) ≡ length hands
length-dealt [] replies hands = refl
length-dealt (s ∷ order) [] hands = refl
length-dealt (s ∷ order) (r ∷ replies) hands =
    length-dealt order replies (slice_set hands (s - 1) (slice_index_or hands (s - 1) [] ++ r ∷ []))
    ∙ length-set hands (s - 1) (slice_index_or hands (s - 1) [] ++ r ∷ [])

abbrev no_replies : ℕ → List (List Reply)
no_replies n = replicate n []

pub few_hands : (order : List ℕ) (replies : List Reply) (n : ℕ) → n ≤ 64 → length (dealt order replies (replicate n [])) ≤ 64
few_hands order replies n few =
    let len : length (dealt order replies (no_replies n)) ≡ n = length-dealt order replies (no_replies n) ∙ length-replicate n [] in
    omega (arith, len, few)

-- where the first session comes alone, and often enough, it has all replies
pub dealt_alone : (order : List ℕ) (replies hand : List Reply) → is_first_alone order ≡ true → length replies ≤ length order
    → dealt order replies (hand ∷ []) ≡ (hand ++ replies) ∷ []
dealt_alone [] [] hand alone few = ap (λ h. h ∷ []) (sym (append-nil hand))
dealt_alone [] (r ∷ replies) hand alone few = absurd (omega (arith, few))
dealt_alone (s ∷ order) [] hand alone few = ap (λ h. h ∷ []) (sym (append-nil hand))
dealt_alone (s ∷ order) (r ∷ replies) hand alone few =
    let parts = and_parts (s == 1) (is_first_alone order) alone in
    let same = parts.0 in
    let one : s ≡ 1 = grind (arith, nat_tests, same) in
    ap (λ n. dealt order replies (slice_set (hand ∷ []) (n - 1) (slice_index_or (hand ∷ []) (n - 1) [] ++ r ∷ []))) one
    ∙ dealt_alone order replies (hand ++ r ∷ []) parts.1 (omega (arith, few))
    ∙ ap (λ h. h ∷ []) (append_assoc hand (r ∷ []) replies)
