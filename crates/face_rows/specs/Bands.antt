-- Bands of rows, and the labels of the edges that begin in one.
use Rattle.std.specs.Prelude.{ℕ, int_le, int_lt, Bool, ◌&&◌, List}
use Rattle.lay_point.specs.declared.point.Point.{Point}
use Rattle.snap_chains.specs.Rounded.{Owned}
use Rattle.face_rows.specs.Labels.{differs, owned_items}
use Rattle.face_rows.specs.declared.band.Band.{Band}
use Rattle.face_rows.specs.declared.op.Op.{Op}
use Rattle.face_rows.specs.Operations.{answer}
use Rattle.face_rows.specs.Picked.{picked}
use Rattle.face_rows.specs.Rows.{upward}

-- the lesser of the edge's two y values is in the band
abbrev pub begins_in : Band → Point × Point → Bool
begins_in band e = int_le band.low (upward e).0.y && int_lt (upward e).0.y band.high

-- the numbers of the edges that begin in the band, each with whether the operation's answers differ on its two sides
abbrev pub labelled : Op → Owned → Band → List (ℕ × Bool)
labelled op r band = picked (λ p. begins_in band p.0) (λ n p. (n, differs (answer op) (owned_items r) p)) 0 (owned_items r)
