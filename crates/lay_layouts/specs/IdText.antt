-- How the names of items are written.
use Rattle.std.specs.Prelude.{ℕ, List, ◌++◌, codes, decimal}
use Rattle.lay_layouts.specs.declared.id.ItemId.{ItemId}

-- session, transaction and number, with dots between
abbrev pub item_text : ItemId → List ℕ
item_text id = decimal id.session ++ codes "." ++ decimal id.txn ++ codes "." ++ decimal id.seq
