-- Lists that rise in some order, and lists that go from one element to another.
use Rattle.std.specs.Prelude.{◌≡◌, List, [], ◌∷◌, ⊤}
pub use Rattle.lay_point.specs.RingEdges.{pairs}

-- each element is before the next
abbrev pub IsRising : {A : Type 0} → (A → A → Type 0) → List A → Type 0
IsRising Before [] = ⊤
IsRising Before (x ∷ []) = ⊤
IsRising Before (x ∷ y ∷ ys) = Before x y × IsRising Before (y ∷ ys)

-- the last of x and the elements after it
abbrev pub last : {A : Type 0} → A → List A → A
last x [] = x
last x (y ∷ ys) = last y ys

-- the list goes from a to b
pub record IsFromTo {A : Type 0} (a b : A) (xs : List A) : Type 0 where
  pub rest : List A
  pub first_is : xs ≡ a ∷ rest
  pub last_is : last a rest ≡ b
