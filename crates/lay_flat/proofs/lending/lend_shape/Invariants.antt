use Rattle.std.proofs.Common.{◌≡◌, ◌++◌, ◌≤◌, length, take}
use Rattle.lay_flat.specs.declared.flat.TheConstants.{MAX_RINGS}
use Rattle.lay_flat.specs.Flattening.{rings_of}
use Rattle.lay_flat.specs.Lending.{AreRings}
use Rattle.lay_flat.proofs.lending.lend_shape.Given as goal

-- the rings so far
abbrev pub invariant-loop-ring : goal.invariant-loop-ring
invariant-loop-ring l = record {
  so_far : l.rings.items ≡ l.fn.rings.items ++ rings_of l.number (l.turn, take l.ring-index l.shape);
  few : length l.rings.items ≤ MAX_RINGS;
  rings : AreRings l.rings.items;
}
