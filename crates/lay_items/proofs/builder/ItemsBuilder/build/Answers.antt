use Rattle.std.proofs.Common.{List, subst}
use Rattle.lay_items.specs.Begun.{AreMarked}
use Rattle.lay_items.specs.declared.group.By.TheVariants.{Cell, Layer}
use Rattle.lay_items.specs.Runs.{HeldItem}
use Rattle.lay_items.proofs.BeginLemmas.{marks_taken}
use Rattle.lay_items.proofs.builder.ItemsBuilder.build.Goals as goal

pub returns-clause-runs : goal.returns-clause-runs
returns-clause-runs c =
    let cells = c.self.inside.cells in
    let layers = c.self.inside.layers in
    let taken : AreMarked c.args.self cells layers =
    subst (λ (es : List HeldItem). AreMarked es cells layers) c.self.view_is c.self.invariant in
    record {
      ids = c.requires;
      of_cells = c.in_ok-cells.ensures Cell c.args.self c.requires (marks_taken Cell c.args.self cells taken.by_cell);
      of_layers = c.in_ok-layers.ensures Layer c.args.self c.requires (marks_taken Layer c.args.self layers taken.by_layer);
    }
