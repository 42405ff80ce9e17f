use Rattle.std.proofs.Common.{◌↔◌, ◌⊎◌, ◌≡◌, Contains, List, map, subst}
use Rattle.lay_point.specs.declared.point.Point.{Point}
use Rattle.snap_pixels.specs.Gathered.{centre_of}
use Rattle.snap_pixels.proofs.GatheredLemmas.{one_more_centre}
use Rattle.snap_pixels.proofs.gathered.Gathered.push.Goals as goal

pub returns : goal.returns
returns c =
    subst (λ (l : List Point). (p : Point) → Contains (map centre_of c.push_key.new.keys.items) p ↔ (Contains l p ⊎ (c.args.centre ≡ p)))
    c.self.view_is
    (one_more_centre c.self.inside.keys.items c.push_key.new.keys.items c.packed.result c.args.centre c.packed.ensures
    c.in_ok-push_key.ensures)
