use Rattle.std.proofs.Common.{ap, ◌∙◌}
use Rattle.lay_oriented.specs.Slants.{counts}
use Rattle.lay_oriented.proofs.SweepLemmas.{counts-insert}
use Rattle.lay_oriented.proofs.sweep.add_slant.Goals as goal

pub returns : goal.returns
returns c = λ k x y. ap (counts k x y) c.in_ok-insert.ensures.items
    ∙ counts-insert k x y c.args.active.now.items c.place_of-place.result c.args.slant
