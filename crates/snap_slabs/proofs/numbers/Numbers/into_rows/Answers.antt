use Rattle.std.proofs.Common.{◌≡◌, ◌<◌, ◌∙◌, Contains, length, sym, subst}
use Rattle.lay_point.specs.Points.{IsBefore}
use Rattle.lay_point.specs.Rising.{IsRising}
use Rattle.snap_slabs.specs.Runs.{AreByRows, AreRanked, centres_at}
use Rattle.snap_slabs.proofs.RowRuns.{ranked}
use Rattle.snap_slabs.proofs.numbers.Numbers.into_rows.Goals as goal

pub centres_of-requires : goal.centres_of-requires
centres_of-requires c = λ i m.
    subst (λ l. i < length l) (sym c.centres.ensures.value)
    (c.self.invariant.inside i (subst (λ l. Contains l i) c.as_slice.ensures.value m))

pub returns-clause-rising : goal.returns-clause-rising
returns-clause-rising c = subst (IsRising IsBefore) c.self.view_is c.self.invariant.rising

pub returns-clause-ranked : goal.returns-clause-ranked
returns-clause-ranked c =
    let rows = c.self.inside.rows.items in
    let places = c.self.inside.places.items in
    let hot = c.args.self in
    let n = subst (λ l. AreByRows l rows places) c.self.view_is c.self.invariant in
    coe 1 0 (t. AreRanked hot (points t) places) (ranked hot rows places n)
  where
    points : c.in_ok-points.points.items ≡ centres_at c.args.self c.self.inside.rows.items
    points = c.in_ok-points.ensures ∙ (λ t. centres_at ((c.centres.ensures.value ∙ c.self.view_is) t) (c.as_slice.ensures.value t))
