use Rattle.std.proofs.Common.{◌≡◌, ◌<◌, true, ℕ, get_or, take}
use Rattle.std.specs.List.{zip}
use Rattle.lay_point.specs.declared.point.Point.{Point}
use Rattle.lay_point.specs.Edges.{is_before}
use Rattle.face_rows.specs.Picked.{picked}
use Rattle.face_sweep.specs.Ends.{begin_of}
use Rattle.face_sweep.proofs.ends.begins_of.Given as goal

-- where those of the edges so far begin
abbrev pub invariant-loop-number : goal.invariant-loop-number
invariant-loop-number l = (l.begins.items ≡ picked (λ p. true) begin_of 0 (take l.number (zip l.edges l.spans)))
    × ((k : ℕ) (d : Point × Point) → k < l.number → is_before (get_or l.edges k d).0 (get_or l.edges k d).1 ≡ true)
