use Rattle.std.proofs.Common.{◌∙◌, ap}
use Rattle.lay_layouts.specs.Lent.{shapes_among}
use Rattle.lay_items.specs.declared.group.By.TheVariants.{Layer}
use Rattle.lay_items.specs.declared.group.Group.{Group}
use Rattle.lay_items.specs.Runs.{of_group}
use Rattle.lay_items.proofs.GroupLemmas.{shapes_of_layer}
use Rattle.lay_items.proofs.iter.Shapes.new.Goals as goal

pub returns : goal.returns
returns c =
    let items = c.args.items.now in
    ap (shapes_among c.args.layer)
    (c.new-items.ensures ∙ ap (λ (group : Group). of_group Layer group items) c.layer_group-group.ensures)
    ∙ shapes_of_layer c.args.cell c.args.layer items
