-- the head isn't kept; or it is, and the line isn't
use Rattle.std.proofs.Common.{rules, ◌≡◌, ◌∷◌, [], true, false, Err, refl, subst, sym}
use Rattle.live_run.specs.declared.ending.LiveEnd.TheVariants.{Journal}
use Rattle.live_run.specs.Course.{KeepsTo}
use Rattle.live_run.specs.Journal.{as_line, kept_head}
use Rattle.live_run.proofs.KeptLemmas.{kept_part_more, kept_part_then}
use Rattle.live_run.proofs.course.keep_head.Goals as goal

pub returns-in_err-keep : goal.returns-in_err-keep
returns-in_err-keep g c =
    let failed : c.from_residual.result ≡ Err Journal = search rules in
    subst (λ r. KeepsTo g.J.Journal.kept g.J.Journal.losses c.args.journal.now c.keep.new.self
    (kept_head c.args.head.now c.args.line.now) r)
    (sym failed) (
      refl,
      kept_part_more g.J.Journal.kept g.J.Journal.losses c.args.journal.now c.keep.new.self ((as_line c.args.head.now, false) ∷ [])
          ((as_line c.args.line.now, true) ∷ []) c.in_err-keep.ensures.fault,
    )

pub returns-in_err-keep-2 : goal.returns-in_err-keep-2
returns-in_err-keep-2 g c =
    let failed : c.from_residual-in_err-keep-2.result ≡ Err Journal = search rules in
    subst (λ r. KeepsTo g.J.Journal.kept g.J.Journal.losses c.args.journal.now c.keep-2.new.self
    (kept_head c.args.head.now c.args.line.now) r)
    (sym failed) (
      refl,
      kept_part_then g.J.Journal.kept g.J.Journal.losses c.args.journal.now c.keep.new.self c.keep-2.new.self
          ((as_line c.args.head.now, false) ∷ []) ((as_line c.args.line.now, true) ∷ []) c.in_ok-keep.ensures.ok
          c.in_err-keep-2.ensures.fault,
    )
