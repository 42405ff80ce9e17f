use Rattle.std.proofs.Common.{◌≡◌, ◌+◌, drop}
use Rattle.std.specs.FinMap.{empty}
use Rattle.std.specs.Ordering.{nat_cmp}
use Rattle.lay_layouts.specs.Layout.{symbols_of}
use Rattle.lay_layouts.specs.LayoutWith.{placed_from}
use Rattle.lay_layouts.proofs.DistinctLemmas.{inserted}
use Rattle.lay_layouts.proofs.parts.by_number.Given as goal

-- the symbols that are left lead to the same map
abbrev pub invariant-loop-position : goal.invariant-loop-position
invariant-loop-position l = record {
  place : l.place ≡ l.position;
  rest : inserted {R = nat_cmp} (symbols_of l.base.entries) (placed_from (l.position + 1) (drop l.position l.symbols))
      ≡ inserted {R = nat_cmp} empty (placed_from 1 l.symbols);
}
