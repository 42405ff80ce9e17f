-- Lists of one element.
use Rattle.std.proofs.Common.{◌≡◌, List, [], ◌∷◌, Some, ap, arith, length}
use Rattle.std.specs.Prelude.{slice_get}

-- a list of one element has its first one alone
pub sole : {X : Type 0} (xs : List X) (x : X) → length xs ≡ 1 → slice_get xs 0 ≡ Some x → xs ≡ x ∷ []
sole [] x one first = absurd cc
sole (y ∷ []) x one first = let same : y ≡ x = cc in ap (λ z. z ∷ []) same
sole (y ∷ (z ∷ zs)) x one first = absurd (omega (arith, one))
