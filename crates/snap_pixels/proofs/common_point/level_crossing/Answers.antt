use Rattle.std.proofs.Common.{◌≡◌, true, false, sym, ◌∙◌, ap}
use Rattle.lay_point.specs.declared.point.Point.{Point}
use Rattle.snap_pixels.proofs.CrossingLemmas.{Crosses-same}
use Rattle.snap_pixels.proofs.StraightLemmas.{Crosses-met, Crosses-missed_x, Crosses-missed_y}
use Rattle.snap_pixels.proofs.common_point.level_crossing.Goals as goal

same_y : (p q p' q' : Point) → p' ≡ p → q' ≡ q → p.y ≡ q.y → p'.y ≡ q'.y
same_y p q p' q' e f h = ap (λ (r : Point). r.y) e ∙ h ∙ sym (ap (λ (r : Point). r.y) f)

same_x : (p q p' q' : Point) → p' ≡ p → q' ≡ q → p.x ≡ q.x → p'.x ≡ q'.x
same_x p q p' q' e f h = ap (λ (r : Point). r.x) e ∙ h ∙ sym (ap (λ (r : Point). r.x) f)

pub returns-then-not-is_between_columns : goal.returns-then-not-is_between_columns
returns-then-not-is_between_columns c =
    Crosses-same _ _ _ _ _ _ _ _ _ c.a-a.ensures c.b-b.ensures c.a-c.ensures c.b-d.ensures
    (Crosses-missed_x _ _ _ _ (same_y _ _ _ _ c.a-a.ensures c.b-b.ensures c.requires.level)
    (same_x _ _ _ _ c.a-c.ensures c.b-d.ensures c.requires.upright)
    (λ h.
    let yes : c.is_between_columns.result ≡ true = c.is_between_columns.ensures.1 h in
    let no : c.is_between_columns.result ≡ false = c.if-not-is_between_columns.true in
    cc))

pub returns-then-not-is_between_rows : goal.returns-then-not-is_between_rows
returns-then-not-is_between_rows c =
    Crosses-same _ _ _ _ _ _ _ _ _ c.a-a.ensures c.b-b.ensures c.a-c.ensures c.b-d.ensures
    (Crosses-missed_y _ _ _ _ (same_y _ _ _ _ c.a-a.ensures c.b-b.ensures c.requires.level)
    (same_x _ _ _ _ c.a-c.ensures c.b-d.ensures c.requires.upright)
    (λ h.
    let yes : c.is_between_rows.result ≡ true = c.is_between_rows.ensures.1 h in
    let no : c.is_between_rows.result ≡ false = c.if-not-is_between_rows.true in
    cc))

pub returns : goal.returns
returns c =
    Crosses-same _ _ _ _ _ _ _ _ _ c.a-a.ensures c.b-b.ensures c.a-c.ensures c.b-d.ensures
    (Crosses-met _ _ _ _ (same_y _ _ _ _ c.a-a.ensures c.b-b.ensures c.requires.level)
    (same_x _ _ _ _ c.a-c.ensures c.b-d.ensures c.requires.upright)
    (λ e. c.args.level.now.differ (sym c.a-a.ensures ∙ e ∙ c.b-b.ensures))
    (λ e. c.args.upright.now.differ (sym c.a-c.ensures ∙ e ∙ c.b-d.ensures))
    (c.is_between_columns.ensures.0 c.if-not-is_between_columns.false)
    (c.is_between_rows.ensures.0 c.if-not-is_between_rows.false)
    c.corner.result c.corner.ensures.x c.corner.ensures.y)
