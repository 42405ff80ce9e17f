use Rattle.std.proofs.Common.{ℕ, List, refl, subst}
use Rattle.live_run.specs.Live.{run_of}
use Rattle.live_run.specs.Course.{BeginsRun}
use Rattle.live_run.specs.Journal.{KeptAll, kept_head}
use Rattle.live_run.proofs.course.feed_live.Goals as goal

pub returns-in_ok-keep_head-in-Ok : goal.returns-in_ok-keep_head-in-Ok
returns-in_ok-keep_head-in-Ok g c = (
  run_of c.in-Ok.live,
  subst (λ (l : List ℕ). BeginsRun c.args.showing l c.args.number (run_of c.in-Ok.live)) c.as_slice.ensures.value c.in-Ok.ensures,
  refl,
  subst (λ (l : List ℕ). KeptAll g.J.Journal.kept g.J.Journal.losses c.args.journal.now c.keep_head.new.journal
      (kept_head l c.args.line.now))
      c.as_slice-in-Ok.ensures.value c.in_ok-keep_head-in-Ok.ensures,
)
