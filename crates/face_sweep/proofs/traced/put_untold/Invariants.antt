use Rattle.std.proofs.Common.{◌≡◌, ℕ, None, true, Contains, take}
use Rattle.snap_chains.specs.declared.owner.Owner.{Owner}
use Rattle.snap_chains.specs.Rounded.{is_owner_listed}
use Rattle.face_sweep.specs.Reaches.{extent_of, key_of, told_by}
use Rattle.face_sweep.proofs.traced.put_untold.Given as goal

-- those of the owners so far are there
abbrev pub invariant-loop-owner : goal.invariant-loop-owner
invariant-loop-owner l = record {
  kept : (k : ℕ) → Contains l.initial.keys.items k → Contains l.keys.items k;
  untold : (o : Owner) → is_owner_listed o (take l.owner-index l.owners) ≡ true → told_by (extent_of l.boxes o) l.fn.edge ≡ None
      → Contains l.keys.items (key_of o);
}
