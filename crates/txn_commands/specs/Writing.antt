-- Layouts after writes of items and of symbols.
use Rattle.std.specs.Prelude.{List}
use Rattle.lay_layouts.specs.Layout.{Layout, SymbolWrite, Write, changed}

-- the layout after these writes
abbrev pub rewritten : Layout → List Write → List SymbolWrite → Layout
rewritten layout items symbols = changed layout (record { items = items; symbols = symbols })
