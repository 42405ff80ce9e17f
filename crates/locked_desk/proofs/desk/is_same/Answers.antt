use Rattle.std.proofs.Common.{◌≡◌, ◌∙◌, sym, true, false}
use Rattle.lay_layouts.specs.SameLayout.{layout_eq-Decides}
use Rattle.locked_desk.proofs.desk.is_same.Goals as goal

pub returns-clause-same : goal.returns-clause-same
returns-clause-same c = λ is. (layout_eq-Decides c.args.one.now c.args.other.now).0 (sym c.eq.ensures ∙ is)

never : false ≡ true → ⊥
never e = absurd cc

pub returns-clause-other : goal.returns-clause-other
returns-clause-other c = λ is same. never (sym is ∙ c.eq.ensures ∙ (layout_eq-Decides c.args.one.now c.args.other.now).1 same)
