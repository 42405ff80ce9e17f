use Rattle.face_rings.proofs.joining.+join_all.Given as goal

abbrev pub decreases-join_all : goal.decreases-join_all
decreases-join_all l = l.depth
