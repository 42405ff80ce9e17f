use Rattle.std.proofs.Common.{◌∙◌, sym}
use Rattle.std.specs.declared.cmp.Ordering.TheVariants.{Less, Equal, Greater}
use Rattle.std.proofs.lemmas.Cmp.{int_ranked}
use Rattle.snap_pixels.proofs.SideLemmas.{earlier_passes, open_leaves, closed_leaves}
use Rattle.snap_pixels.proofs.span.Span.earlier.Goals as goal

pub returns-in-Less-clause-both : goal.returns-in-Less-clause-both
returns-in-Less-clause-both c = λ k t one.
    let below = int_ranked _ _ Less (sym c.in-Less.is ∙ c.turn.ensures) in
    ((λ h. (h, earlier_passes c.args.first c.args.second k t one c.requires.first c.requires.second below h)), (λ both. both.0))

pub returns-then-first-clause-both : goal.returns-then-first-clause-both
returns-then-first-clause-both c = λ k t one.
    let tied = int_ranked _ _ Equal (sym c.in-Equal.is ∙ c.turn.ensures) in
    ((λ h. (h, open_leaves c.args.first c.args.second k t one c.requires.first c.requires.second tied c.if-first.true h)), (λ both. both.0))

pub returns-else-first-clause-both : goal.returns-else-first-clause-both
returns-else-first-clause-both c = λ k t one.
    let tied = int_ranked _ _ Equal (sym c.in-Equal.is ∙ c.turn.ensures) in (
      (λ h.
          (closed_leaves c.args.first c.args.second k t one c.requires.first c.requires.second tied c.if-first.false h, h)),
      (λ both. both.1),
    )

pub returns-in-Greater-clause-both : goal.returns-in-Greater-clause-both
returns-in-Greater-clause-both c = λ k t one.
    let above = int_ranked _ _ Greater (sym c.in-Greater.is ∙ c.turn.ensures) in
    ((λ h. (earlier_passes c.args.second c.args.first k t one c.requires.second c.requires.first above h, h)), (λ both. both.1))
