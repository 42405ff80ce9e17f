-- The law is a theorem about all lists of rings.
use Rattle.face_ring_laws.proofs.PartLaws.{odd_by_parts}
use Rattle.face_ring_laws.proofs.part_laws.parts_tell_places.Goals as goal

pub returns : goal.returns
returns c = odd_by_parts c.args._rings.now
