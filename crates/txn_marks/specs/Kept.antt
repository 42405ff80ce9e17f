-- How an item is kept. No public clause cites this module.
use Rattle.std.specs.Prelude.{Option, None, Some}
use Rattle.std.specs.Arc.{arc_value}
use Rattle.std.specs.declared.sync.Arc.{Arc}

-- the item that is shared, where there is one
abbrev pub kept_item : {X Y : Type 0} → Option (Arc X Y) → Option X
kept_item None = None
kept_item (Some item) = Some (arc_value item)
