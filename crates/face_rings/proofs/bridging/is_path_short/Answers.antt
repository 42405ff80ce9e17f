use Rattle.std.proofs.Common.{rules, ◌∙◌}
use Rattle.lay_point.specs.Bridges.{bridged}
use Rattle.lay_point.specs.Rings.{without_repeats}
use Rattle.face_rings.proofs.PathLemmas.{path_is_short}
use Rattle.face_rings.proofs.bridging.is_path_short.Goals as goal

pub returns-in_default : goal.returns-in_default
unfolding bridged without_repeats
returns-in_default c = search rules

pub returns : goal.returns
returns c =
    path_is_short c.points-points.result.now _ c.in-Some.others.now c.path_len.result (search rules) (search rules)
    c.path_len.ensures.rings c.path_len.ensures.len ∙ search rules
