-- What is kept of the input, a piece after the other.
use Rattle.std.proofs.Common.{◌≡◌, ℕ, zero, suc, ◌+◌, ◌-◌, ◌≤◌, List, [], ◌∷◌, ◌++◌, length, min, take, arith, sym, ap, ◌∙◌, refl}
use Rattle.std.proofs.lemmas.List.{take_all, take_min}
use Rattle.std.proofs.Math.Seq.{take-append-add}
use Rattle.masklay.specs.Reading.{input_kept}

-- the front of a front is the front
front_again : (n : ℕ) (xs ys : List ℕ) → take n (take n xs ++ ys) ≡ take n (xs ++ ys)
front_again zero xs ys = refl
front_again (suc n) [] ys = refl
front_again (suc n) (x ∷ xs) ys = ap (λ l. x ∷ l) (front_again n xs ys)

-- a piece joins what was kept, as far as there is room
room_taken : (limit : ℕ) (kept piece : List ℕ) → length kept ≤ limit →
    kept ++ take (min (limit - length kept) (length piece)) piece ≡ take limit (kept ++ piece)
room_taken limit kept piece fits =
    let room : limit ≡ length kept + (limit - length kept) = omega arith in
    ap (λ l. kept ++ l) (take_min (limit - length kept) piece) ∙ sym (take-append-add kept piece (limit - length kept))
    ∙ ap (λ n. take n (kept ++ piece)) (sym room)

pub room_kept : (kept piece : List ℕ) → length kept ≤ 16777217 →
    kept ++ take (min (16777217 - length kept) (length piece)) piece ≡ input_kept (kept ++ piece)
unfolding input_kept
room_kept kept piece fits = room_taken 16777217 kept piece fits

pub kept_more : (done kept piece new : List ℕ) → kept ≡ input_kept done → new ≡ input_kept (kept ++ piece)
    → new ≡ input_kept (done ++ piece)
unfolding input_kept
kept_more done kept piece new so_far is = is ∙ ap (λ l. take 16777217 (l ++ piece)) so_far ∙ front_again 16777217 done piece

pub kept_none : [] ≡ input_kept []
unfolding input_kept
kept_none = refl

-- bytes that aren't more than are kept are kept whole
pub kept_all : (bytes : List ℕ) → length bytes ≤ 16777217 → input_kept bytes ≡ bytes
unfolding input_kept
kept_all bytes few = take_all 16777217 bytes few
