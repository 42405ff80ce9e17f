-- What the two tests answer of the neighbours of a place tells of all centres.
use Rattle.std.proofs.Common.{◌≡◌, true, false, get_or, rules}
use Rattle.std.specs.Prelude.{not}
use Rattle.snap_slabs.specs.Columns.{is_lesser_point}
use Rattle.snap_slabs.specs.Runs.{no_centre}
use Rattle.snap_slabs.proofs.ColumnLemmas.{left_part, right_part, parts_by_neighbours, round_both, ArePlaces, places_in_order, hold_met}
use Rattle.snap_slabs.proofs.columns_of.places_near.Goals as goal

pub returns-clause-ordered : goal.returns-clause-ordered
returns-clause-ordered c =
    let s = c.args.segment.now in
    let cs = c.args.centres.now in
    let low = c.box_of-bounds.result.low in
    let high = c.box_of-bounds.result.high in
    let from = c.partition_from-from.result in
    let to = c.partition_from-to.result in
    let early = parts_by_neighbours (λ v. is_lesser_point v low) cs (left_part low cs c.requires) no_centre from
    c.partition_from-from.ensures.bound
    (λ k next.
    let post = c.partition_from-from.ensures.before k next in
    let t : is_lesser_point (get_or cs k no_centre) low ≡ true = search rules in t)
    (λ less.
    let post = c.partition_from-from.ensures.behind less in
    let t : is_lesser_point (get_or cs from no_centre) low ≡ false = search rules in t) in
    let late = parts_by_neighbours (λ v. not (is_lesser_point high v)) cs (right_part high cs c.requires) no_centre to
    c.partition_from-to.ensures.bound
    (λ k next.
    let post = c.partition_from-to.ensures.before k next in
    let t : not (is_lesser_point high (get_or cs k no_centre)) ≡ true = search rules in t)
    (λ less.
    let post = c.partition_from-to.ensures.behind less in
    let t : not (is_lesser_point high (get_or cs to no_centre)) ≡ false = search rules in t) in
    let places : ArePlaces cs low high from to = record { early = early; late = late; inside = c.partition_from-from.ensures.bound } in
    let corners = round_both c.box_of-bounds.result s.a s.b c.box_of-bounds.ensures in
    places_in_order low high s.a s.b corners cs from to places

pub returns-clause-all : goal.returns-clause-all
returns-clause-all c =
    let s = c.args.segment.now in
    let cs = c.args.centres.now in
    let low = c.box_of-bounds.result.low in
    let high = c.box_of-bounds.result.high in
    let from = c.partition_from-from.result in
    let to = c.partition_from-to.result in
    let early = parts_by_neighbours (λ v. is_lesser_point v low) cs (left_part low cs c.requires) no_centre from
    c.partition_from-from.ensures.bound
    (λ k next.
    let post = c.partition_from-from.ensures.before k next in
    let t : is_lesser_point (get_or cs k no_centre) low ≡ true = search rules in t)
    (λ less.
    let post = c.partition_from-from.ensures.behind less in
    let t : is_lesser_point (get_or cs from no_centre) low ≡ false = search rules in t) in
    let late = parts_by_neighbours (λ v. not (is_lesser_point high v)) cs (right_part high cs c.requires) no_centre to
    c.partition_from-to.ensures.bound
    (λ k next.
    let post = c.partition_from-to.ensures.before k next in
    let t : not (is_lesser_point high (get_or cs k no_centre)) ≡ true = search rules in t)
    (λ less.
    let post = c.partition_from-to.ensures.behind less in
    let t : not (is_lesser_point high (get_or cs to no_centre)) ≡ false = search rules in t) in
    let places : ArePlaces cs low high from to = record { early = early; late = late; inside = c.partition_from-from.ensures.bound } in
    let corners = round_both c.box_of-bounds.result s.a s.b c.box_of-bounds.ensures in
    hold_met low high s.a s.b corners cs from to places
