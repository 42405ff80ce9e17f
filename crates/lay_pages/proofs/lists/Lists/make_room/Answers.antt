use Rattle.std.proofs.Common.{◌≡◌, ◌++◌, [], ◌∷◌, rules}
use Rattle.lay_pages.proofs.FillLemmas.{filled_more}
use Rattle.lay_pages.specs.Shared.{items_of}
use Rattle.lay_pages.proofs.lists.Lists.make_room.Goals as goal

pub returns-clause-elements : goal.returns-clause-elements
returns-clause-elements g c =
    let old = c.args.self.now in
    let fresh : c.replace-full.new.dest.items ≡ [] = search rules in
    let full : items_of c.push_list.new.lists.items ≡ items_of old.lists.items ++ (old.last.items ∷ []) = search rules in
    filled_more (items_of old.lists.items) (items_of c.push_list.new.lists.items) old.last.items c.replace-full.new.dest.items full fresh
