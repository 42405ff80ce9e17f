use Rattle.std.proofs.Common.{◌∙◌, sym}
use Rattle.undo_index.proofs.KeptLemmas.{added_item, added_other, on_ok}
use Rattle.undo_index.proofs.listing.Listing.insert.Goals as goal

pub returns-in_ok-insert-in-Some-clause-ok : goal.returns-in_ok-insert-in-Some-clause-ok
returns-in_ok-insert-in-Some-clause-ok c =
    added_item c.self.inside.items c.self.inside.others c.args.self.now c.self.view_is c.args.element c.in-Some.id
    (sym c.element_id.ensures ∙ c.in-Some.is) c.args.place c.insert.new.self.keys c.in_ok-insert-in-Some.ensures.updates.0

pub returns-in-None-clause-ok : goal.returns-in-None-clause-ok
returns-in-None-clause-ok c =
    on_ok c.insert-in-None.result
    (added_other c.self.inside.items c.self.inside.others c.args.self.now c.self.view_is c.args.element
    (sym c.element_id.ensures ∙ c.in-None.is) c.args.place c.insert-in-None.new.self)
    c.insert-in-None.ensures.ok
