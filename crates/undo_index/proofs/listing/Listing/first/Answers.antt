use Rattle.std.proofs.Common.{◌∙◌, sym}
use Rattle.undo_index.proofs.KeptLemmas.{first_item, first_other}
use Rattle.undo_index.proofs.listing.Listing.first.Goals as goal

pub returns-in-Some : goal.returns-in-Some
returns-in-Some c =
    first_item c.self.inside.items c.self.inside.others c.args.self.now c.self.view_is c.args.element c.in-Some.id
    (sym c.element_id.ensures ∙ c.in-Some.is) c.args.from c.first_under.result c.first_under.ensures

pub returns-in-None : goal.returns-in-None
returns-in-None c =
    first_other c.self.inside.items c.self.inside.others c.args.self.now c.self.view_is c.args.element
    (sym c.element_id.ensures ∙ c.in-None.is) c.args.from c.first.result c.first.ensures
