use Rattle.std.proofs.Common.{◌≡◌, ◌+◌, ◌++◌, ◌≤◌, drop, length}
use Rattle.lay_flat.specs.declared.flat.TheConstants.{MAX_RINGS}
use Rattle.lay_flat.specs.Flattening.{rings_from}
use Rattle.lay_flat.specs.Lending.{AreRings, drawn_with}
use Rattle.lay_flat.proofs.lending.lend_shapes.Given as goal

-- the shapes that are left come behind the rings so far
abbrev pub invariant-loop-shape : goal.invariant-loop-shape
invariant-loop-shape l = record {
  rest : l.rings.items ++ rings_from l.next (drawn_with l.turn (drop l.shape-index l.shapes))
      ≡ l.fn.rings.items ++ rings_from l.number (drawn_with l.turn l.shapes);
  count : l.next ≡ l.number + l.shape-index;
  few : length l.rings.items ≤ MAX_RINGS;
  rings : AreRings l.rings.items;
}
