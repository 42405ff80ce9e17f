use Rattle.std.proofs.Common.{◌≡◌, length, arith, ap, ◌∙◌}
use Rattle.cif_write.specs.Boxes.{corner_box}
use Rattle.cif_write.proofs.BoxLemmas.{box_of_none, box_of_one, box_of_several}
use Rattle.cif_write.proofs.boxes.corner_box.Goals as goal

pub returns-in-empty : goal.returns-in-empty
returns-in-empty c = box_of_none c.args.rings.now (omega (arith, c.in-empty.len_below))

pub returns-in-len1 : goal.returns-in-len1
returns-in-len1 c =
    let one : length c.args.rings.now ≡ 1 = omega (arith, c.in-len1.len_at_least, c.in-len1.len_below) in
    c.box_round.ensures ∙ ap corner_box c.points.ensures.value ∙ box_of_one c.args.rings.now _ one c.ring-item.is c.points.ensures.ring

pub returns-in-len2-up : goal.returns-in-len2-up
returns-in-len2-up c =
    box_of_several c.args.rings.now _ _ c.in-len2-up.len_at_least c.first-item.is c.second-item.is c.points-in-len2-up.ensures.ring
    c.points-in-len2-up-2.ensures.ring
