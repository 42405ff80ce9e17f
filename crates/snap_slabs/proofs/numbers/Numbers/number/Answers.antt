use Rattle.std.proofs.Common.{◌≡◌, ◌∙◌, true, false, get_or, Contains, sym, ap, subst, rules}
use Rattle.std.specs.Prelude.{slice_get}
use Rattle.lay_point.specs.Rising.{IsRising}
use Rattle.lay_point.specs.Points.{IsBefore}
use Rattle.snap_slabs.specs.Columns.{is_lesser_point}
use Rattle.snap_slabs.specs.Runs.{no_centre}
use Rattle.snap_slabs.proofs.ColumnLemmas.{left_part, parts_by_neighbours}
use Rattle.snap_slabs.proofs.KeyOrder.{found_behind, points_rising}
use Rattle.snap_slabs.proofs.numbers.Numbers.number.Goals as goal

pub returns : goal.returns
returns c =
    let same = c.centres-centres.ensures.value ∙ c.self.view_is in
    let cs = c.centres-centres.result.now in
    let x = c.args.centre in
    let n = c.partition_from-found.result in
    let up = subst (IsRising IsBefore) (sym c.centres-centres.ensures.value) c.self.invariant.rising in
    let parts = parts_by_neighbours (λ v. is_lesser_point v x) cs (left_part x cs (points_rising cs up)) no_centre n
    c.partition_from-found.ensures.bound
    (λ k next.
    let post = c.partition_from-found.ensures.before k next in
    let t : is_lesser_point (get_or cs k no_centre) x ≡ true = search rules in t)
    (λ less.
    let post = c.partition_from-found.ensures.behind less in
    let t : is_lesser_point (get_or cs n no_centre) x ≡ false = search rules in t) in
    ap (λ l. slice_get l n) (sym same)
    ∙ found_behind cs up x n (subst (λ l. Contains l x) (sym same) c.requires) parts
