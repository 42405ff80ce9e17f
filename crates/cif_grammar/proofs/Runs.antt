-- Runs of bytes of a class at the front: what is taken and what is skipped.
use Rattle.std.proofs.Common.{◌≡◌, ℕ, ◌+◌, ◌<◌, Bool, true, false, cond, List, [], ◌∷◌, ◌++◌, length, take, drop, refl, sym, arith, one-add}
use Rattle.std.specs.List.{take_while, AllPass, list_all, prefix_len}
use Rattle.std.proofs.lemmas.Bool.{and_parts}
use Rattle.std.proofs.lemmas.List.{get_or-take, length-take, take-append-drop, take_at, drop_at}
use Rattle.std.proofs.lemmas.List.Sums.{list_all-from_AllPass, prefix_len_passes}
use Rattle.cif_grammar.specs.Bytes.{skip}

-- what is taken passes
pub AllPass-take_while : (passes : ℕ → Bool) (bytes : List ℕ) → AllPass passes (take_while passes bytes)
AllPass-take_while passes bytes k d h =
    let below : k < prefix_len passes bytes = omega (arith, length-take (prefix_len passes bytes) bytes) in
    rw (get_or-take (prefix_len passes bytes) bytes k d below) (prefix_len_passes passes bytes k d below)

pub list_all-take_while : (passes : ℕ → Bool) (bytes : List ℕ) → list_all passes (take_while passes bytes) ≡ true
list_all-take_while passes bytes = list_all-from_AllPass passes (take_while passes bytes) (AllPass-take_while passes bytes)

-- bytes are those that are taken and those that are left
pub taken_and_left : (passes : ℕ → Bool) (bytes : List ℕ) → bytes ≡ take_while passes bytes ++ skip passes bytes
taken_and_left passes bytes = sym (take-append-drop (prefix_len passes bytes) bytes)

-- the first byte, if there is one, doesn't pass
abbrev pub Stops : (ℕ → Bool) → List ℕ → Type 0
Stops passes [] = Unit {0}
Stops passes (b ∷ bs) = passes b ≡ false

pub skip-cons : (passes : ℕ → Bool) (b : ℕ) (bs : List ℕ) → skip passes (b ∷ bs) ≡ cond (passes b) (skip passes bs) (b ∷ bs)
skip-cons passes b bs = elim (passes b) as (λ p. drop (cond p (1 + prefix_len passes bs) 0) (b ∷ bs) ≡ cond p (skip passes bs) (b ∷ bs))
    [ true ↦ rw one-add refl | false ↦ refl ]

pub take_while-cons : (passes : ℕ → Bool) (b : ℕ) (bs : List ℕ)
    → take_while passes (b ∷ bs) ≡ cond (passes b) (b ∷ take_while passes bs) []
take_while-cons passes b bs =
    elim (passes b) as (λ p. take (cond p (1 + prefix_len passes bs) 0) (b ∷ bs) ≡ cond p (b ∷ take_while passes bs) [])
    [ true ↦ rw one-add refl | false ↦ refl ]

-- what is left doesn't begin with a byte that passes
pub Stops-skip : (passes : ℕ → Bool) (bytes : List ℕ) → Stops passes (skip passes bytes)
Stops-skip passes [] = tt
Stops-skip passes (b ∷ bs) =
    rw (skip-cons passes b bs) (elim (passes b) as (λ p. passes b ≡ p
    → Stops passes (cond p (skip passes bs) (b ∷ bs))) [ true ↦ λ _. Stops-skip passes bs | false ↦ λ e. e ] refl)

stopped : (passes : ℕ → Bool) (rest : List ℕ) → Stops passes rest → prefix_len passes rest ≡ 0
stopped passes [] h = refl
stopped passes (b ∷ bs) h = rw h refl

-- a front that passes, before bytes that don't begin so, is what is taken
front_len : (passes : ℕ → Bool) (front rest : List ℕ) → list_all passes front ≡ true → Stops passes rest
    → prefix_len passes (front ++ rest) ≡ length front
front_len passes [] rest h stops = stopped passes rest stops
front_len passes (b ∷ bs) rest h stops =
    let parts = and_parts (passes b) (list_all passes bs) h in
    rw (parts.0, front_len passes bs rest parts.1 stops) (one-add (length bs))

pub take_while-front : (passes : ℕ → Bool) (front rest : List ℕ) → list_all passes front ≡ true → Stops passes rest
    → take_while passes (front ++ rest) ≡ front
take_while-front passes front rest h stops =
    take_at front rest (prefix_len passes (front ++ rest)) (sym (front_len passes front rest h stops))

pub skip-front : (passes : ℕ → Bool) (front rest : List ℕ) → list_all passes front ≡ true → Stops passes rest
    → skip passes (front ++ rest) ≡ rest
skip-front passes front rest h stops = drop_at front rest (prefix_len passes (front ++ rest)) (sym (front_len passes front rest h stops))
