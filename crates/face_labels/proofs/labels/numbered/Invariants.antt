use Rattle.std.proofs.Common.{◌≡◌, take}
use Rattle.std.specs.List.{zip}
use Rattle.face_rows.specs.Bands.{begins_in}
use Rattle.face_rows.specs.Picked.{picked}
use Rattle.face_labels.proofs.labels.numbered.Given as goal

-- those of the labels so far
abbrev pub invariant-loop-number : goal.invariant-loop-number
invariant-loop-number l =
    l.numbered.items ≡ picked (λ p. begins_in l.fn.band p.0) (λ n p. (n, p.1)) 0 (take l.number (zip l.edges l.labels))
