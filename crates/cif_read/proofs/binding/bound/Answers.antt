use Rattle.std.proofs.Common.{rules, ◌≡◌, All, map}
use Rattle.lay_cells.specs.Walks.{IsAcyclic}
use Rattle.cif_read.specs.Binding.{IsBound, edge_of}
use Rattle.cif_read.proofs.BindingLemmas.{placed, sound_file}
use Rattle.cif_read.proofs.binding.bound.Goals as goal

pub first_cycle-requires-clause-placed : goal.first_cycle-requires-clause-placed
first_cycle-requires-clause-placed c = rw c.as_slice-calls.ensures (placed c.args.content c.requires)

pub invariant_of-result : goal.invariant_of-result
invariant_of-result c =
    let calls : c.as_slice-calls.result.now ≡ c.args.content.calls = c.as_slice-calls.ensures in
    let bound : All (IsBound c.args.content.symbols) c.as_slice-calls.result.now = search rules in
    let acyclic : IsAcyclic (map edge_of c.as_slice-calls.result.now) = search rules in
    sound_file c.args.content c.requires (rw (← calls) bound) (rw (← calls) acyclic)
