-- What is moved, where that is in range.
use Rattle.std.specs.Prelude.{List, map, Bool, Option, None, Some, if◌then◌else◌}
use Rattle.std.specs.List.{list_all}
use Rattle.lay_point.specs.declared.point.Point.{Point}
use Rattle.lay_point.specs.Points.{is_in_range}
use Rattle.lay_point.specs.Turns.{shifted}
use Rattle.lay_layouts.specs.declared.item.Item.{Item}
use Rattle.txn_commands.specs.Figures.{is_item_in_range, moved, shifted_rings}

-- all points of the ring, moved, are in range
abbrev pub ring_fits : Point → List Point → Bool
ring_fits by ring = list_all (λ p. is_in_range (shifted by p)) ring

abbrev pub ring_moved : Point → List Point → Option (List Point)
ring_moved by ring = if ring_fits by ring then Some (map (shifted by) ring) else None

abbrev pub rings_fit : Point → List (List Point) → Bool
rings_fit by rings = list_all (ring_fits by) rings

abbrev pub rings_moved : Point → List (List Point) → Option (List (List Point))
rings_moved by rings = if rings_fit by rings then Some (shifted_rings by rings) else None

abbrev pub item_moved : Point → Item → Option Item
item_moved by item = if is_item_in_range (moved by item) then Some (moved by item) else None
