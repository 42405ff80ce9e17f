-- What is made of those elements of a list that pass a test, and of their numbers.
use Rattle.std.specs.Prelude.{ℕ, ◌+◌, Bool, List, [], ◌∷◌, if◌then◌else◌}

-- the first element has this number
abbrev pub picked : {A B : Type 0} → (A → Bool) → (ℕ → A → B) → ℕ → List A → List B
picked test make n [] = []
picked test make n (x ∷ xs) = if test x then make n x ∷ picked test make (n + 1) xs else picked test make (n + 1) xs
