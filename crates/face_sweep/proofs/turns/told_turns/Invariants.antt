use Rattle.std.proofs.Common.{◌≡◌, ◌<◌, ℕ, [], None, true, Contains, length, get_or}
use Rattle.snap_chains.specs.declared.owner.Owner.{Owner}
use Rattle.snap_chains.specs.Rounded.{is_owner_listed}
use Rattle.face_rows.specs.Lines.{edge_at, owners_at}
use Rattle.face_sweep.specs.declared.turns.Turn.TheVariants.{Sought}
use Rattle.face_sweep.specs.Reaches.{IsTurnOf, extent_of, key_of, told_by}
use Rattle.face_sweep.proofs.turns.told_turns.Given as goal

-- one for each edge so far, and the keys of the shapes that their boxes don't tell of
abbrev pub invariant-loop-number : goal.invariant-loop-number
invariant-loop-number l = record {
  count : length l.turns.items ≡ l.number;
  each : (n : ℕ) → n < l.number → IsTurnOf (owners_at l.edges n) (edge_at l.edges n) l.boxes [] (get_or l.turns.items n Sought);
  untold : (n : ℕ) (o : Owner) → n < l.number → is_owner_listed o (owners_at l.edges n) ≡ true
      → told_by (extent_of l.boxes o) (edge_at l.edges n) ≡ None → Contains l.keys.items (key_of o);
}
