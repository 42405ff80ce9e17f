-- The marks of items that came one after another.
use Rattle.std.specs.Prelude.{◌≡◌, List, ◌++◌, None}
use Rattle.lay_items.specs.declared.beginnings.Beginnings.{Beginnings}
use Rattle.lay_items.specs.declared.group.By.{By}
use Rattle.lay_items.specs.declared.group.By.TheVariants.{Cell, Layer}
use Rattle.lay_items.specs.Runs.{HeldItem, beginnings}

-- with those of any that follow, they are the marks of all
abbrev pub HaveBegun : By → List HeldItem → Beginnings → Type 0
HaveBegun by entries taken =
    (rest : List HeldItem) → taken.marks.items ++ beginnings by taken.before rest ≡ beginnings by None (entries ++ rest)

-- by cell, and by layer
pub record AreMarked (entries : List HeldItem) (cells layers : Beginnings) : Type 0 where
  pub by_cell : HaveBegun Cell entries cells
  pub by_layer : HaveBegun Layer entries layers
