-- The edges of the sweep at a stop, with what is kept beside each, and the labels that are written.
use Rattle.std.specs.Prelude.{◌≡◌, ℕ, ◌≤◌, Bool, false, Contains, List, ◌++◌, drop, length, slice_index_or, slice_range, take}
use Rattle.lay_point.specs.declared.point.Point.{Point}
use Rattle.snap_chains.specs.Rounded.{Owned}
use Rattle.face_rows.specs.declared.op.Op.{Op}
use Rattle.face_rows.specs.Labels.{differs, owned_items}
use Rattle.face_rows.specs.Laws.{AreLesserFirst}
use Rattle.face_rows.specs.Lines.{owned_item_at}
use Rattle.face_rows.specs.Operations.{answer}
use Rattle.face_sweep.specs.declared.stops.Stop.{Stop}
use Rattle.face_sweep.specs.declared.stops.Stops.{Stops}
use Rattle.face_sweep.specs.declared.reach.Reach.{Reach}
use Rattle.face_sweep.specs.OwnRows.{AreOwn, HaveLists, own_of}
use Rattle.face_sweep.specs.Points.{AreBegunAt, IsEndPoint, IsEndedGroup, IsLevelFrom, IsPassed, IsStatus}
use Rattle.face_sweep.specs.Reaches.{IsReach, keys_of}
use Rattle.face_sweep.specs.Sides.{AreLefts}
use Rattle.face_sweep.specs.Stops.{AreStops, BeginAt}
use Rattle.face_labels.specs.declared.group.Group.{Group}
use Rattle.face_labels.specs.declared.sweep_row.SweepRow.{SweepRow}
use Rattle.face_labels.specs.declared.shared.Shared.{Shared}

-- of edges each of which is from its lesser end: the boxes of the shapes, and the stops of the sweep
pub record IsShared (r : Owned) (shared : Shared) : Type 0 where
  pub lesser : AreLesserFirst r.0
  pub reach : IsReach r shared.reach
  pub stops : AreStops r shared.stops

-- a stop, with the edges that begin there
pub record IsSweepStop (r : Owned) (stops : Stops) (stop : Stop) : Type 0 where
  pub end : IsEndPoint r stop.point
  pub order : stop.from ≤ stop.to
  pub bound : stop.to ≤ length stops.begun.items
  pub begun : BeginAt r stop.point (slice_range stops.begun.items stop.from stop.to)

-- of the edges that begin at the point those before this index rise, and the others are level
pub record AreSplit (r : Owned) (p : Point) (numbers : List ℕ) (index : ℕ) : Type 0 where
  pub bound : index ≤ length numbers
  pub begun : AreBegunAt r p (take index numbers)
  pub levels : (n : ℕ) → Contains (drop index numbers) n → IsLevelFrom r p n
  pub all_levels : (n : ℕ) → IsLevelFrom r p n → Contains (drop index numbers) n

-- the edges at the point, with what is kept beside them, and those that single shapes own
pub record IsLineAt (r : Owned) (reach : Reach) (p : Point) (line : SweepRow) : Type 0 where
  pub status : IsStatus r p line.numbers
  pub lefts : AreLefts r line.numbers line.lefts
  pub room : HaveLists r (keys_of reach) line.own
  pub own : AreOwn (keys_of reach) (λ o. own_of r o line.numbers) line.own

-- the same, but the edges of the group, which end at its point, are in no list
pub record IsLineWithout (r : Owned) (reach : Reach) (gone : Group) (line : SweepRow) : Type 0 where
  pub status : IsStatus r gone.point line.numbers
  pub group : IsEndedGroup r gone.point line.numbers gone.from gone.to
  pub lefts : AreLefts r line.numbers line.lefts
  pub room : HaveLists r (keys_of reach) line.own
  pub own : AreOwn (keys_of reach)
      (λ o. own_of r o (drop gone.to line.numbers) ++ own_of r o (take gone.from line.numbers)) line.own

-- the same as at a point once it is passed
pub record IsLinePast (r : Owned) (reach : Reach) (p : Point) (line : SweepRow) : Type 0 where
  pub passed : IsPassed r p line.numbers
  pub lefts : AreLefts r line.numbers line.lefts
  pub room : HaveLists r (keys_of reach) line.own
  pub own : AreOwn (keys_of reach) (λ o. own_of r o line.numbers) line.own

-- at the edge's number is its label
abbrev pub HasLabel : Op → Owned → List Bool → ℕ → Type 0
HasLabel op r labels n = slice_index_or labels n false ≡ differs (answer op) (owned_items r) (owned_item_at r n)
