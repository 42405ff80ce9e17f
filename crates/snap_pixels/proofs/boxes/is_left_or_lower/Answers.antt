use Rattle.std.proofs.Common.{inl, inr, ⊎_elim}
use Rattle.std.proofs.lemmas.Bool.{or_cases}
use Rattle.snap_pixels.proofs.boxes.is_left_or_lower.Goals as goal

pub returns : goal.returns
returns c = λ e. ⊎_elim (λ w. inl (c.is_left.ensures w)) (λ w. inr (c.is_lower.ensures w))
    (or_cases c.is_left.result c.is_lower.result e)
