use Rattle.snap_pixels.proofs.HotLemmas.{AreHotCentres-gathered}
use Rattle.snap_pixels.proofs.search.hot_plain.Goals as goal

pub returns : goal.returns
returns c =
    AreHotCentres-gathered c.args.segments.now c.new-centres.result c.add_ends.new.centres c.add_crossings.new.centres c.in_ok-set.set
    c.new-centres.ensures c.in_ok-add_ends.ensures c.in_ok-add_crossings.ensures c.in_ok-set.ensures.rising c.in_ok-set.ensures.members
