use Rattle.std.proofs.Common.{◌∙◌, ap}
use Rattle.lay_pages.proofs.FillLemmas.{filled_end}
use Rattle.lay_pages.specs.Shared.{items_of, joined}
use Rattle.lay_pages.proofs.lists.Lists.end.Goals as goal

pub returns-clause-elements : goal.returns-clause-elements
returns-clause-elements g c =
    ap joined c.in_ok-push_list.ensures ∙ filled_end (items_of c.args.self.lists.items) c.args.self.last.items
