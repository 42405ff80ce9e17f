-- Items that use a symbol: they stand in it, or call it.
use Rattle.std.specs.Prelude.{ℕ, Bool, ◌||◌}
use Rattle.lay_layouts.specs.declared.id.ItemId.{ItemId}
use Rattle.lay_layouts.specs.declared.item.Item.{Item}
use Rattle.txn_commands.specs.declared.element.Element.TheVariants.{Content, Uses}
use Rattle.txn_commands.specs.Lies.{lies}

abbrev pub is_use : ℕ → ItemId × Item → Bool
is_use number entry = lies (Content number) entry.0 entry.1 || lies (Uses number) entry.0 entry.1
