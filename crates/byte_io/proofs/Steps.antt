-- Where a chain of steps gives a value, each step gave one.
use Rattle.std.proofs.Common.{◌≡◌, Bool, true, false, cond, Option, Some, None, ◌⊎◌, refl, inl, inr}
use Rattle.byte_io.specs.Steps.{◌>>=◌}

pub bind_some : {A B : Type 0} (o : Option A) (f : A → Option B) (y : B) → (o >>= f) ≡ Some y → (x : A) × (o ≡ Some x) × (f x ≡ Some y)
bind_some None f y e = absurd cc
bind_some (Some x) f y e = (x, refl, e)

-- the same, for what follows from each
pub after_some : {A B P : Type 0} (o : Option A) (f : A → Option B) (y : B) → (o >>= f) ≡ Some y → ((x : A) → o ≡ Some x → f x ≡ Some y → P)
    → P
after_some None f y e next = absurd cc
after_some (Some x) f y e next = next x refl e

-- which way a test went
pub chosen_of : {A : Type 0} (t : Bool) (x y z : A) → cond t x y ≡ z → ((t ≡ true) × (x ≡ z)) ⊎ ((t ≡ false) × (y ≡ z))
chosen_of true x y z e = inl (refl, e)
chosen_of false x y z e = inr (refl, e)
