use Rattle.std.proofs.Common.{◌∙◌, sym}
use Rattle.undo_index.proofs.KeptLemmas.{removed_item, removed_other}
use Rattle.undo_index.proofs.listing.Listing.remove_one.Goals as goal

pub returns-in-Some : goal.returns-in-Some
returns-in-Some c =
    removed_item c.self.inside.items c.self.inside.others c.args.self.now c.self.view_is c.args.element c.in-Some.id
    (sym c.element_id.ensures ∙ c.in-Some.is) c.args.place c.remove.new.self.keys c.remove.ensures.updates.0

pub returns-in-None : goal.returns-in-None
returns-in-None c =
    removed_other c.self.inside.items c.self.inside.others c.args.self.now c.self.view_is c.args.element
    (sym c.element_id.ensures ∙ c.in-None.is) c.args.place c.remove-in-None.new.self c.remove-in-None.ensures
