-- Edges by their numbers.
use Rattle.std.specs.Prelude.{ℕ, pos, List, [], slice_index_or}
use Rattle.lay_point.specs.declared.point.Point.{Point}
use Rattle.snap_chains.specs.declared.owner.Owner.{Owner}
use Rattle.snap_chains.specs.Rounded.{Owned}
use Rattle.face_rows.specs.Labels.{Item}

abbrev pub nowhere : Point × Point
nowhere = (record { x = pos 0; y = pos 0 }, record { x = pos 0; y = pos 0 })

-- the edge of this number, its owners, and both
abbrev pub edge_at : Owned → ℕ → Point × Point
edge_at r n = slice_index_or r.0 n nowhere

abbrev pub owners_at : Owned → ℕ → List Owner
owners_at r n = slice_index_or r.1 n []

abbrev pub owned_item_at : Owned → ℕ → Item
owned_item_at r n = (edge_at r n, owners_at r n)
