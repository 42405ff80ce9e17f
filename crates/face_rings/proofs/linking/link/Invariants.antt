use Rattle.face_rings.proofs.LinkLemmas.{IsLinking}
use Rattle.face_rings.proofs.linking.link.Given as goal

-- the rings so far and those of the edges left are the rings of all edges; the edges before the number are used
abbrev pub invariant-loop-number : goal.invariant-loop-number
invariant-loop-number l = IsLinking l.edges l.unused l.number l.rings.items
