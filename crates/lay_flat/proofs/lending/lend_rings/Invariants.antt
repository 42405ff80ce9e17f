use Rattle.std.proofs.Common.{◌≡◌, ◌++◌, ◌≤◌, length, drop}
use Rattle.std.specs.Prelude.{flat_map}
use Rattle.lay_flat.specs.declared.flat.TheConstants.{MAX_RINGS}
use Rattle.lay_flat.specs.Flattening.{drawn_at, rings_at, rings_from}
use Rattle.lay_flat.specs.Lending.{AreRings}
use Rattle.lay_flat.proofs.lending.lend_rings.Given as goal

-- the ends that are left come behind the rings so far
abbrev pub invariant-loop-end : goal.invariant-loop-end
invariant-loop-end l = record {
  rest : l.rings.items ++ rings_from l.number (flat_map (drawn_at l.snapshot l.layer) (drop l.end-index l.ends))
      ≡ rings_at l.snapshot l.layer l.ends;
  lists : l.lists ≡ record { layout = l.snapshot; layer = l.layer };
  few : length l.rings.items ≤ MAX_RINGS;
  rings : AreRings l.rings.items;
}
