-- Reading of changes goes on change by change, and the count of its steps never runs out.
use Rattle.std.proofs.Common.{◌≡◌, ℕ, zero, suc, ◌+◌, ◌<◌, ◌≤◌, List, [], ◌∷◌, ◌++◌, length, Some, None, refl, arith, add-one}
use Rattle.std.specs.List.{prefix_len}
use Rattle.std.proofs.lemmas.List.{length-drop}
use Rattle.cif_grammar.specs.Bytes.{is_blank, skip}
use Rattle.cif_grammar.specs.declared.calls.Change.{Change}
use Rattle.cif_grammar.specs.Calls.{change_at, changes_from, changes_of}
use Rattle.cif_grammar.proofs.CallGrammar.{change_length}
use Rattle.cif_grammar.proofs.PathSteps.{alike}

length-skip : (bytes : List ℕ) → length (skip is_blank bytes) ≤ length bytes
length-skip bytes = omega (arith, length-drop (prefix_len is_blank bytes) bytes)

pub behind_shorter : (bytes : List ℕ) (c : Change) (rest : List ℕ) → change_at bytes ≡ Some (c, rest)
    → length (skip is_blank rest) < length bytes
behind_shorter bytes c rest e = omega (arith, change_length bytes c rest e, length-skip rest)

-- more steps than there are bytes are all as good
enough : (n m : ℕ) (found : List Change) (bytes : List ℕ) → length bytes < n → length bytes < m
    → changes_from n found bytes ≡ changes_from m found bytes
unfolding changes_from
enough zero m found bytes h k = absurd (omega arith)
enough (suc n) zero found bytes h k = absurd (omega arith)
enough (suc n) (suc m) found [] h k = refl
enough (suc n) (suc m) found (b ∷ bs) h k = alike (change_at (b ∷ bs)) _ _ (λ next e.
    let shorter = behind_shorter (b ∷ bs) next.0 next.1 e in
    enough n m (found ++ next.0 ∷ []) (skip is_blank next.1) (omega arith) (omega arith))

pub changes_begun : (bytes : List ℕ) → changes_from (length (skip is_blank bytes) + 1) [] (skip is_blank bytes) ≡ changes_of bytes
unfolding changes_of
changes_begun bytes =
    let shorter = length-skip bytes in
    enough (length (skip is_blank bytes) + 1) (length bytes + 1) [] (skip is_blank bytes) (omega arith) (omega arith)

pub changes_done : (found : List Change) → changes_from (length {A = ℕ} [] + 1) found [] ≡ Some found
unfolding changes_from
changes_done found = refl

pub changes_none : (found : List Change) (bytes : List ℕ) → 1 ≤ length bytes → change_at bytes ≡ None
    → changes_from (length bytes + 1) found bytes ≡ None
unfolding changes_from
changes_none found [] some none = absurd (omega arith)
changes_none found (b ∷ bs) some none = rw (add-one, none) refl

pub changes_step : (found : List Change) (bytes : List ℕ) (c : Change) (rest : List ℕ) → change_at bytes ≡ Some (c, rest)
    → changes_from (length bytes + 1) found bytes ≡ changes_from (length (skip is_blank rest) + 1) (found ++ c ∷ []) (skip is_blank rest)
unfolding changes_from
changes_step found [] c rest next = absurd (let shorter = behind_shorter [] c rest next in omega arith)
changes_step found (b ∷ bs) c rest next =
    let shorter = behind_shorter (b ∷ bs) c rest next in
    rw (add-one, next)
    (enough (suc (length bs)) (length (skip is_blank rest) + 1) (found ++ c ∷ []) (skip is_blank rest) (omega arith) (omega arith))
