use Rattle.std.proofs.Common.{◌∙◌, ap}
use Rattle.lay_layouts.specs.Lent.{calls_lent}
use Rattle.lay_items.specs.declared.group.By.TheVariants.{Layer}
use Rattle.lay_items.specs.declared.group.Group.{Group}
use Rattle.lay_items.specs.Runs.{of_group}
use Rattle.lay_items.proofs.GroupLemmas.{calls_of_cell}
use Rattle.lay_items.proofs.iter.Calls.new.Goals as goal

pub returns : goal.returns
returns c =
    let items = c.args.items.now in
    ap calls_lent (c.new-items.ensures ∙ ap (λ (group : Group). of_group Layer group items) c.call_group.ensures)
    ∙ calls_of_cell c.args.cell items
