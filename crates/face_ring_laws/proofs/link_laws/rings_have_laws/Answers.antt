-- The law is a theorem about all lists of edges.
use Rattle.face_ring_laws.proofs.LinkedLemmas.{linked_once}
use Rattle.face_ring_laws.proofs.link_laws.rings_have_laws.Goals as goal

pub returns : goal.returns
returns c = linked_once c.args._edges.now
