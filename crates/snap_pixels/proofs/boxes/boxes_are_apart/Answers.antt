use Rattle.std.proofs.Common.{inl, inr, ⊎_elim}
use Rattle.std.proofs.lemmas.Bool.{or_cases}
use Rattle.snap_pixels.proofs.boxes.boxes_are_apart.Goals as goal

pub returns : goal.returns
returns c = λ e. ⊎_elim
    (λ one. ⊎_elim (λ w. inl (inl w)) (λ w. inr (inl w)) (c.is_left_or_lower.ensures one))
    (λ other. ⊎_elim (λ w. inl (inr w)) (λ w. inr (inr w)) (c.is_left_or_lower-2.ensures other))
    (or_cases c.is_left_or_lower.result c.is_left_or_lower-2.result e)
