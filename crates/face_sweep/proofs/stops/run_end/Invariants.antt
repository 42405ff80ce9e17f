use Rattle.std.proofs.Common.{◌≡◌, ◌<◌, ◌≤◌, ◌-◌, ℕ, get_or, length, map}
use Rattle.face_sweep.specs.declared.ends.Place.{Place}
use Rattle.face_sweep.proofs.stops.run_end.Given as goal

-- those so far stand at the place
abbrev pub invariant-loop-to : goal.invariant-loop-to
invariant-loop-to g l = record {
  order : l.fn.from ≤ l.to;
  bound : l.to ≤ length l.items;
  same : (k : ℕ) (d : Place) → l.fn.from ≤ k → k < l.to → get_or (map g.T.StandsAt.place_of l.items) k d ≡ l.place;
}

abbrev pub decreases-loop-to : goal.decreases-loop-to
decreases-loop-to g l = length l.items - l.to
