-- The definitions compute.
use Rattle.std.proofs.Common.{refl}
use Rattle.lay_point.specs.Turns.{turned}
use Rattle.face_ring_laws.specs.Linking.{linked_rings}
use Rattle.snap_laws.specs.Crossings.{crossing_of, hot_centres}
use Rattle.snap_laws.specs.Meeting.{leaves_some_in, meets_of}
use Rattle.snap_laws.specs.Rounding.{chain_of, edges_gone, owners_of, rounded_of, walks_round}
use Rattle.face_rows.specs.Labels.{differs}
use Rattle.bool_rules.specs.Dividing.{parts_of}
use Rattle.bool_rules.specs.Shapes.{shapes_of}
use Rattle.geometry_tests.proofs.shapes.boxes_have_these_shapes.Goals as goal

pub returns : goal.returns
unfolding chain_of crossing_of differs edges_gone hot_centres leaves_some_in meets_of owners_of parts_of linked_rings
    rounded_of shapes_of turned walks_round
returns c = record { hole = refl; apart = refl; corner = refl }
