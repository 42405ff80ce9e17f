use Rattle.std.proofs.Common.{◌≡◌, map, take}
use Rattle.snap_pixels.specs.Gathered.{centre_of}
use Rattle.snap_pixels.proofs.gathered.unpacked_all.Given as goal

-- the centres of the keys so far
abbrev pub invariant-loop-key : goal.invariant-loop-key
invariant-loop-key l = l.centres.items ≡ map centre_of (take l.key-index l.keys)
