-- How many shapes of each input hold.
use Rattle.std.specs.Prelude.{◌≡◌, ℕ, zero, suc, ◌<◌, ◌^◌, Bool, true, if◌then◌else◌}
use Rattle.snap_chains.specs.declared.owner.Input.{Input}
use Rattle.snap_chains.specs.declared.owner.Input.TheVariants.{First, Second}
use Rattle.snap_chains.specs.declared.owner.Owner.{Owner}
use Rattle.face_sweep.specs.declared.counts.Counts.{Counts}
use Rattle.face_sweep.specs.declared.counts.LeftCounts.{LeftCounts}

-- how many of the numbers below n pass
abbrev pub count : (ℕ → Bool) → ℕ → ℕ
count test zero = 0
count test (suc n) = if test n then suc (count test n) else count test n

-- no shape has a number that is as great
unfoldable pub all_shapes : ℕ
all_shapes = 2 ^ 32

abbrev pub count_in : Input → (Owner → Bool) → ℕ
count_in input holds = count (λ shape. holds (record { input = input; shape = shape })) all_shapes

-- so many shapes of each input hold
pub record AreCounts (counts : Counts) (holds : Owner → Bool) : Type 0 where
  pub first : counts.first ≡ count_in First holds
  pub second : counts.second ≡ count_in Second holds
  pub bounded : (o : Owner) → holds o ≡ true → o.shape < all_shapes

-- they are counts of shapes of which this one is, or isn't
abbrev pub CountOwner : Counts → Owner → Bool → Type 0
CountOwner counts owner inside = (holds : Owner → Bool) × AreCounts counts holds × (holds owner ≡ inside)

-- the shape of the input that has this number
abbrev pub nth_shape : Input → ℕ → Owner
nth_shape input shape = record { input = input; shape = shape }

-- they are counts of shapes of which one of the input is, or isn't
abbrev pub CountShape : Counts → Input → Bool → Type 0
CountShape counts input inside =
    (shape : ℕ) × (holds : Owner → Bool) × AreCounts counts holds × (holds (nth_shape input shape) ≡ inside)

-- the counts in the form in which a row keeps them
abbrev pub kept_counts : LeftCounts → Counts
kept_counts left = record { first = left.first; second = left.second }
