use Rattle.std.proofs.Common.{rules, ◌≡◌, ◌++◌, take, drop, ◌+◌}
use Rattle.std.proofs.lemmas.List.{take_rest}
use Rattle.lay_pages.specs.Shared.{items_of, page_parts}
use Rattle.lay_pages.proofs.ShareLemmas.{spliced_is}
use Rattle.lay_pages.proofs.share.spliced.Goals as goal

-- it is put together of three parts
pub returns : goal.returns
returns g c =
    let one : items_of c.append.new.new.items ≡ items_of (take c.args.at c.args.lists.now) = search rules in
    let two : items_of c.push_parts.new.lists.items ≡ items_of c.append.new.new.items ++ page_parts c.args.grows c.args.elements.items =
    search rules in
    let three : items_of c.append-2.new.new.items ≡ items_of c.push_parts.new.lists.items ++ items_of (drop (c.args.at + 1)
    c.args.lists.now) = search (rules, take_rest c.args.lists.now (c.args.at + 1)) in
    spliced_is _ c.args.lists.now (page_parts c.args.grows c.args.elements.items) c.args.at _ _ _ one two three
