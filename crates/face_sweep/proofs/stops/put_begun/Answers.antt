use Rattle.std.proofs.Common.{◌≡◌, FitsSigned, to_z, of_z, w32, sym, rules}
use Rattle.std.proofs.lemmas.Int.{to_z-of_z}
use Rattle.face_sweep.specs.Stops.{AreRisers, IsWithRisers}
use Rattle.face_sweep.proofs.StopLemmas.{begin_at, range_front, risers_of}
use Rattle.face_sweep.proofs.stops.put_begun.Goals as goal

pub put_rising-requires : goal.put_rising-requires
put_rising-requires c =
    let es = c.args.edges.now.0 in
    let group = c.args.group.now in
    let p = c.args.point in
    let level = c.first_level-level.result in
    let fits : FitsSigned w32 p.y = search rules in
    let at : to_z w32 (of_z w32 p.y) ≡ p.y = to_z-of_z w32 p.y fits in
    let points = c.requires.0 in
    let risers = risers_of points es p group level c.requires.1 c.first_level-level.ensures in
    (points, coe 1 0 (i. AreRisers points es (at i) (sym (range_front group level) i)) risers)

pub returns : goal.returns
returns c =
    let r = c.args.edges.now in
    let group = c.args.group.now in
    let p = c.args.point in
    let level = c.first_level-level.result in
    let old = c.args.begun.now.items in
    let mid = c.put_rising.new.begun.items in
    let fits : FitsSigned w32 p.y = search rules in
    let at : to_z w32 (of_z w32 p.y) ≡ p.y = to_z-of_z w32 p.y fits in
    let risers = coe 0 1 (i. IsWithRisers r.0 (at i) (sym (range_front group level) i) old mid) c.in_ok-put_rising.ensures in
    begin_at c.requires.0 r p group level old mid c.put_numbers.new.begun.items c.requires.1 c.first_level-level.ensures risers
    c.in_ok-put_numbers.ensures
