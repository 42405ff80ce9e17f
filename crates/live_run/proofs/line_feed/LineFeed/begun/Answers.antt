-- it was fed nothing; or the lines of a head; or it runs
use Rattle.std.proofs.Common.{arith, rules, ◌≡◌, ◌+◌, ◌<◌, ℕ, false, Err, ap, refl, subst, sym}
use Rattle.std.proofs.lemmas.Grind.{common_steps}
use Rattle.live_run.specs.declared.course.Course.{Course}
use Rattle.live_run.specs.declared.ending.LiveEnd.TheVariants.{Memory}
use Rattle.live_run.specs.Course.{InSteps, RefusesHead, phase_of}
use Rattle.live_run.specs.Feed.{BegunAt, BegunTo}
use Rattle.live_run.specs.Live.{run_of}
use Rattle.live_run.proofs.line_feed.LineFeed.begun.Goals as goal

pub returns-then-count-eq0 : goal.returns-then-count-eq0
returns-then-count-eq0 c =
    let zero : c.in-Head.count ≡ 0 = search rules in (
      subst (λ (k : Course). BegunAt (phase_of k) (phase_of c.new.result.course)) (sym c.in-Head.is) (zero, c.new.ensures.course),
      c.new.ensures.line,
    )

pub returns-in_err-number-in-Head : goal.returns-in_err-number-in-Head
returns-in_err-number-in-Head c =
    let failed : c.from_residual.result ≡ Err Memory = search rules in
    let some : 0 < c.in-Head.count = grind (arith, common_steps) in
    subst (BegunTo c.args.self) (sym failed) (
      c.in-Head.text.items,
      c.in-Head.count,
      ap phase_of c.in-Head.is,
      λ e. absurd (let none : c.in-Head.count ≡ 0 = e in omega (arith, some, none)),
      tt,
    )

pub returns-in-Head : goal.returns-in-Head
returns-in-Head c =
    let next : c.in_ok-number-in-Head.number ≡ c.in-Head.count + 1 = search rules in
    let some : 0 < c.in-Head.count = grind (arith, common_steps) in (
      c.in-Head.text.items,
      c.in-Head.count,
      ap phase_of c.in-Head.is,
      λ e. absurd (let none : c.in-Head.count ≡ 0 = e in omega (arith, some, none)),
      subst (λ (n : ℕ). RefusesHead false c.in-Head.text.items n c.unopened.result) next c.unopened.ensures,
    )

pub returns : goal.returns
returns c = (
  subst (λ (k : Course). BegunAt (phase_of k) (InSteps (run_of c.in-Steps.live))) (sym c.in-Steps.is) refl,
  c.new-in-Steps.ensures.items,
)
