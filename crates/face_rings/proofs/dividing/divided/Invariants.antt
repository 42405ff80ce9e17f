use Rattle.std.proofs.Common.{◌≡◌, ◌++◌, length, map, take}
use Rattle.face_ring_laws.specs.Heads.{AreDivided}
use Rattle.face_rings.proofs.dividing.divided.Given as goal

-- the rings so far and those left are all, and each part has its rings so far
abbrev pub invariant-loop-ring : goal.invariant-loop-ring
invariant-loop-ring l = (l.number ≡ length l.yielded) × (l.yielded ++ l.ring-iterator.rest.items ≡ l.fn.rings.items)
    × AreDivided l.count (take l.number l.labels) l.yielded (map (λ part. part.items) l.parts.items)
