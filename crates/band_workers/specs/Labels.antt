-- The labels of all edges.
use Rattle.std.specs.Prelude.{Bool, List, map}
use Rattle.snap_chains.specs.Rounded.{Owned}
use Rattle.face_rows.specs.Labels.{differs, owned_items}
use Rattle.face_rows.specs.declared.op.Op.{Op}
use Rattle.face_rows.specs.Operations.{answer}

-- for each edge, in order, whether the operation's answers differ on its two sides
abbrev pub labels_of : Op → Owned → List Bool
labels_of op r = map (differs (answer op) (owned_items r)) (owned_items r)
