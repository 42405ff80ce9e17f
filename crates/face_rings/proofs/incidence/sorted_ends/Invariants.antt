use Rattle.std.proofs.Common.{◌≡◌, ◌<◌, true, ℕ, get_or, take}
use Rattle.lay_point.specs.Edges.{is_before}
use Rattle.face_ring_laws.specs.Linking.{Ends}
use Rattle.face_rings.proofs.IncidenceLemmas.{ends_from}
use Rattle.face_rings.proofs.incidence.sorted_ends.Given as goal

-- the ends of the edges so far
abbrev pub invariant-loop-number : goal.invariant-loop-number
invariant-loop-number l = (l.ends.items ≡ ends_from 0 (take l.number l.edges))
    × ((k : ℕ) (d : Ends) → k < l.number → is_before (get_or l.edges k d).0 (get_or l.edges k d).1 ≡ true)
