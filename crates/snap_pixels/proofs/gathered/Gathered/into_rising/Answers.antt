use Rattle.std.proofs.Common.{◌↔◌, Contains, List, map, subst, sym, ap, ◌∙◌}
use Rattle.lay_point.specs.declared.point.Point.{Point}
use Rattle.snap_pixels.specs.Gathered.{centre_of}
use Rattle.snap_pixels.specs.Order.{ArePointsRising}
use Rattle.snap_pixels.proofs.GatheredLemmas.{centres_rising, same_centres}
use Rattle.snap_pixels.proofs.gathered.Gathered.into_rising.Goals as goal

pub returns : goal.returns
returns c =
    let keys = c.sort_once.new.numbers.items in
    let made = c.in_ok-centres.ensures ∙ ap (map centre_of) c.as_slice.ensures.value in
    record {
      rising = subst ArePointsRising (sym made) (centres_rising keys c.sort_once.ensures.increasing);
      members = λ p. subst (λ (l : List Point). Contains c.in_ok-centres.centres.items p ↔ Contains l p) c.self.view_is
          (subst (λ (l : List Point). Contains l p ↔ Contains (map centre_of c.self.inside.keys.items) p) (sym made)
          (same_centres c.self.inside.keys.items keys c.sort_once.ensures.members p));
    }
