-- How joined ones are found: each has a head, the first of those that it is joined to, directly or through others.
use Rattle.std.specs.Prelude.{◌≡◌, ◌↔◌, ℕ, ◌<◌, ◌≤◌, List, length, slice_index, slice_index_or}
use Rattle.face_ring_laws.specs.Parts.{with_label}

-- a head is no later than what it is the head of, and is its own head
abbrev pub AreFirst : List ℕ → Type 0
AreFirst heads = (k : ℕ) → k < length heads
    → (slice_index heads k ≤ k) × (slice_index heads (slice_index heads k) ≡ slice_index heads k)

-- of n those that are joined have one head, and those that have one head are together wherever all joined ones are
pub record IsFinest (Joined : ℕ → ℕ → Type 0) (n : ℕ) (heads : List ℕ) : Type 0 where
  pub each : length heads ≡ n
  pub first : AreFirst heads
  pub joined : (i j : ℕ) → Joined i j → slice_index heads i ≡ slice_index heads j
  pub finest : (other : ℕ → ℕ) → ((i j : ℕ) → Joined i j → other i ≡ other j)
      → (i j : ℕ) → i < n → j < n → slice_index heads i ≡ slice_index heads j → other i ≡ other j

-- of the first n those with one head have one label, and labels come in the order of the heads
pub record IsNumbered (heads : List ℕ) (n : ℕ) (labels : List ℕ) (count : ℕ) : Type 0 where
  pub each : length labels ≡ n
  pub within : (i : ℕ) → i < n → slice_index labels i < count
  pub same : (i j : ℕ) → i < n → j < n → (slice_index heads i ≡ slice_index heads j) ↔ (slice_index labels i ≡ slice_index labels j)
  pub ordered : (i p : ℕ) → i < n → p < slice_index labels i → (j : ℕ) × (j < i) × (slice_index labels j ≡ p)
  pub used : (p : ℕ) → p < count → (j : ℕ) × (j < n) × (slice_index labels j ≡ p)

-- so many parts, each with the elements that have its label
pub record AreDivided {A : Type 0} (count : ℕ) (labels : List ℕ) (xs : List A) (parts : List (List A)) : Type 0 where
  pub each : length parts ≡ count
  pub members : (p : ℕ) (d : List A) → p < count → slice_index_or parts p d ≡ with_label p labels xs
