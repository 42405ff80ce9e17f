use Rattle.std.proofs.Common.{◌≡◌, ◌++◌, ◌-◌, drop}
use Rattle.std.specs.Prelude.{flat_map}
use Rattle.lay_cells.specs.declared.cell_id.CellId.TheVariants.{Symbol}
use Rattle.lay_flat.specs.Ends.{ends_within, turn_after}
use Rattle.lay_flat.proofs.ends.+list_ends.Given as goal

abbrev pub decreases-list_ends : goal.decreases-list_ends
decreases-list_ends l = l.calls

-- what the calls that are left lead to comes behind the ends so far
abbrev pub invariant-loop-call : goal.invariant-loop-call
invariant-loop-call l = record {
  rest : l.ends.items ++ flat_map (λ call. ends_within l.fn.lists (l.calls - 1) (Symbol call.1) (turn_after l.turn call.2))
      (drop l.call-index l.here) ≡ l.fn.ends.items ++ ends_within l.fn.lists l.calls l.fn.cell l.turn;
  same : l.lists ≡ l.fn.lists;
}
