use Rattle.std.proofs.Common.{rules, ◌≡◌, Some, true, false}
use Rattle.cif_read.specs.Boxes.{high_corner, is_flat, is_whole_box, low_corner}
use Rattle.lay_point.specs.Turns.{within_range}
use Rattle.cif_read.specs.Scales.{IsRatio}
use Rattle.cif_read.proofs.BoxLemmas.{Spans, spans}
use Rattle.cif_read.proofs.boxes.box_ring.Goals as goal
use Rattle.cif_read.proofs.boxes.box_ring.Goals.{Else-is_flat}

-- the corners that were found span a rectangle
spanned : (c : Else-is_flat) → Spans c.in_ok-low.low c.in_ok-high.high
spanned c =
    let low : within_range (low_corner c.args.scale c.args.numbers) ≡ Some c.in_ok-low.low = search rules in
    let high : within_range (high_corner c.args.scale c.args.numbers) ≡ Some c.in_ok-high.high = search rules in
    let whole : is_whole_box c.args.scale c.args.numbers ≡ true = search rules in
    let wide : is_flat c.args.numbers ≡ false = search rules in
    let ratio : IsRatio c.args.scale = search rules in
    spans c.args.scale c.args.numbers c.in_ok-low.low c.in_ok-high.high ratio whole wide low high

pub rectangle-requires-clause-wide : goal.rectangle-requires-clause-wide
rectangle-requires-clause-wide c = (spanned c).wide

pub rectangle-requires-clause-tall : goal.rectangle-requires-clause-tall
rectangle-requires-clause-tall c = (spanned c).tall
