use Rattle.std.proofs.Common.{◌≡◌, ◌<◌, ℕ, length, get_or}
use Rattle.face_rows.specs.Lines.{edge_at, owners_at}
use Rattle.face_sweep.specs.declared.turns.Turn.TheVariants.{Sought}
use Rattle.face_sweep.specs.Reaches.{IsTurnOf}
use Rattle.face_sweep.proofs.turns.turns_of.Given as goal

-- one for each edge so far
abbrev pub invariant-loop-number : goal.invariant-loop-number
invariant-loop-number l = record {
  count : length l.turns.items ≡ l.number;
  each : (n : ℕ) → n < l.number → IsTurnOf (owners_at l.edges n) (edge_at l.edges n) l.boxes l.keys (get_or l.turns.items n Sought);
}
