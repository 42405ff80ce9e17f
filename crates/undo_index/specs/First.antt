-- First places that pass a test.
use Rattle.std.specs.Prelude.{
  ◌≡◌,
  ℕ,
  ◌<◌,
  ◌≤◌,
  ◌==◌,
  Bool,
  true,
  false,
  not,
  ◌&&◌,
  ◌||◌,
  List,
  [],
  ◌∷◌,
  Option,
  None,
  Some,
  if◌then◌else◌,
  nat_lt,
  slice_get,
}
use Rattle.std.specs.List.{list_any}

-- the first place from this one on that passes the test; None where there is none
abbrev pub IsFirst : (ℕ → Bool) → ℕ → Option ℕ → Type 0
IsFirst test from None = (p : ℕ) → from ≤ p → test p ≡ false
IsFirst test from (Some first) = (from ≤ first) × (test first ≡ true) × ((p : ℕ) → from ≤ p → p < first → test p ≡ false)

-- the lesser one of two places, of which either may be missing
abbrev pub lesser : Option ℕ → Option ℕ → Option ℕ
lesser None other = other
lesser (Some a) None = Some a
lesser (Some a) (Some b) = if nat_lt b a then Some b else Some a

-- a place is one of these
abbrev pub has_place : List ℕ → ℕ → Bool
has_place places p = list_any (λ place. p == place) places

-- the first one of these places, if there is one
abbrev pub first_of : List ℕ → Option ℕ
first_of [] = None
first_of (place ∷ places) = Some place

-- one of two holds, and the other doesn't
abbrev pub is_apart : Bool → Bool → Bool
is_apart a b = (a && not b) || (b && not a)

-- what is found of an item, where there is one
abbrev pub look : {X Y : Type 0} → (X → Option Y) → Option X → Option Y
look f None = None
look f (Some x) = f x

-- the first of two, where there is one, else the second
abbrev pub or_some : {Y : Type 0} → Option Y → Option Y → Option Y
or_some None other = other
or_some (Some y) other = Some y

-- what is found of the first of these items of which something is
abbrev pub find_map : {X Y : Type 0} → (X → Option Y) → List X → Option Y
find_map f [] = None
find_map f (x ∷ xs) = or_some (f x) (find_map f xs)

-- what is found of the item at a place
abbrev pub looked_up_at : {X Y : Type 0} → (X → Option Y) → List X → Option ℕ → Option Y
looked_up_at f xs None = None
looked_up_at f xs (Some p) = look f (slice_get xs p)
