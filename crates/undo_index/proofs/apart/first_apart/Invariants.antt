use Rattle.std.proofs.Common.{◌≡◌, drop}
use Rattle.undo_index.proofs.ApartLemmas.{apart_of}
use Rattle.undo_index.proofs.apart.first_apart.Given as goal

-- what is left of both tells them apart where they are
abbrev pub invariant-loop-place : goal.invariant-loop-place
invariant-loop-place l = apart_of (drop l.place-index l.one) l.left ≡ apart_of l.one l.other
