use Rattle.snap_laws.proofs.OneList.{one_list}
use Rattle.snap_laws.proofs.pixel_laws.hot_centres_have_laws.Goals as goal

-- each list has just the hot points
pub returns : goal.returns
returns c cs ds h g =
    one_list cs ds h.rising g.rising (λ p. ((λ w. (g.exact p).1 ((h.exact p).0 w)), (λ w. (h.exact p).1 ((g.exact p).0 w))))
