-- The law is a theorem about all lists of edges.
use Rattle.face_side_laws.proofs.Slide.{slide}
use Rattle.face_side_laws.proofs.laws.parities_slide.Goals as goal

pub returns : goal.returns
returns c = λ items h even item has rises one other inside other_inside.
    slide items h (λ b. b) even item has rises one.scale one.x one.y other.scale other.x other.y inside other_inside
