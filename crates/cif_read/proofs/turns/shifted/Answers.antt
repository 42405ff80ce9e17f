use Rattle.std.proofs.Common.{rules, ◌≡◌, Some, None}
use Rattle.lay_point.specs.Turns.{within_range}
use Rattle.cif_read.specs.Scales.{scaled_vertex}
use Rattle.cif_read.proofs.TurnLemmas.{shift_found, sum_of}
use Rattle.cif_read.proofs.turns.shifted.Goals as goal

pub returns-in_default : goal.returns-in_default
returns-in_default c =
    let shift = scaled_vertex c.args.scale c.args.vertex in
    let none : within_range (sum_of c.args.turn shift) ≡ None = search rules in
    shift_found c.args.turn shift None none

pub returns : goal.returns
returns c =
    let shift = scaled_vertex c.args.scale c.args.vertex in
    let some : within_range (sum_of c.args.turn shift) ≡ Some c.in-Some.shift = search rules in
    shift_found c.args.turn shift (Some c.in-Some.shift) some
