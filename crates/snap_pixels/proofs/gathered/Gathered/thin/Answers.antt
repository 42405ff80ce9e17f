use Rattle.std.proofs.Common.{◌↔◌, Contains, List, map, subst}
use Rattle.lay_point.specs.declared.point.Point.{Point}
use Rattle.snap_pixels.specs.Gathered.{centre_of}
use Rattle.snap_pixels.proofs.GatheredLemmas.{same_centres}
use Rattle.snap_pixels.proofs.gathered.Gathered.thin.Goals as goal

pub returns-then-len-self : goal.returns-then-len-self
returns-then-len-self c =
    subst (λ (l : List Point). (p : Point) → Contains (map centre_of c.sort_once.new.numbers.items) p ↔ Contains l p) c.self.view_is
    (same_centres c.self.inside.keys.items c.sort_once.new.numbers.items c.sort_once.ensures.members)
