use Rattle.std.proofs.lemmas.List.Sorted.{Contains-permutation, IsPermutation-sym}
use Rattle.snap_pixels.proofs.kind.put_by_kind.Goals as goal

pub returns : goal.returns
returns c = λ s. (
  Contains-permutation _ _ s (IsPermutation-sym _ _ c.sort_unstable_by_key.ensures.permutation),
  Contains-permutation _ _ s c.sort_unstable_by_key.ensures.permutation,
)
