use Rattle.std.proofs.Common.{◌≡◌, Option, ap, subst, sym, ◌∙◌}
use Rattle.std.specs.Prelude.{IfSome, is_some}
use Rattle.lay_point.specs.declared.point.Point.{Point}
use Rattle.lay_point.specs.Turns.{within_range}
use Rattle.lay_point.specs.Turns.{shifted}
use Rattle.txn_plans.proofs.Shifting.{only_within, some_within, turned-shift}
use Rattle.txn_plans.proofs.changes.moved_point.Goals as goal

pub returns-clause-fits : goal.returns-clause-fits
returns-clause-fits c =
    ap is_some (c.apply.ensures ∙ ap within_range (turned-shift c.args.by c.args.point)) ∙ some_within (shifted c.args.by c.args.point)

pub returns-clause-value : goal.returns-clause-value
returns-clause-value c =
    let is : c.apply.result ≡ within_range (shifted c.args.by c.args.point) =
    c.apply.ensures ∙ ap within_range (turned-shift c.args.by c.args.point) in
    subst (λ (o : Option Point). IfSome o (λ q. q ≡ shifted c.args.by c.args.point)) (sym is) (only_within (shifted c.args.by c.args.point))
