-- Trees of numbers: each has an earlier number for its parent, and the first number of a tree has itself.
use Rattle.std.specs.Prelude.{ℕ, zero, suc, ◌<◌, ◌≤◌, ◌==◌, max, min, List, length, slice_index, if◌then◌else◌}

abbrev pub IsForest : List ℕ → Type 0
IsForest parents = (k : ℕ) → k < length parents → slice_index parents k ≤ k

-- where so many steps from a number to its parent lead
abbrev pub up : List ℕ → ℕ → ℕ → ℕ
up parents zero k = k
up parents (suc steps) k = up parents steps (slice_index parents k)

-- the first number of the tree: as many steps as its number lead there
unfoldable pub root_of : List ℕ → ℕ → ℕ
root_of parents k = up parents k k

-- the root, where the trees with the roots a and b are united
abbrev pub united : ℕ → ℕ → ℕ → ℕ
united a b root = if root == max a b then min a b else root
