use Rattle.std.proofs.Common.{◌∙◌, sym}
use Rattle.undo_index.proofs.KeptLemmas.{gathered_item, gathered_other, on_ok}
use Rattle.undo_index.proofs.listing.Listing.gather.Goals as goal

pub returns-in-Some : goal.returns-in-Some
returns-in-Some c =
    on_ok c.gather_under.result
    (gathered_item c.self.inside.items c.self.inside.others c.args.self.now c.self.view_is c.args.element c.in-Some.id
    (sym c.element_id.ensures ∙ c.in-Some.is) c.args.below c.args.places.now.items c.gather_under.new.places.items)
    c.gather_under.ensures

pub returns-in-None : goal.returns-in-None
returns-in-None c =
    on_ok c.gather.result
    (gathered_other c.self.inside.items c.self.inside.others c.args.self.now c.self.view_is c.args.element
    (sym c.element_id.ensures ∙ c.in-None.is) c.args.below c.args.places.now.items c.gather.new.found.items)
    c.gather.ensures
