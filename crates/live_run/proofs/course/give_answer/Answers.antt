use Rattle.std.proofs.Common.{◌∙◌, ◌++◌, ℕ, List, ap}
use Rattle.live_run.specs.Live.{run_of, said_of}
use Rattle.live_run.specs.Said.{shown_text}
use Rattle.live_run.proofs.SaidLemmas.{said_by}
use Rattle.live_run.proofs.course.give_answer.Goals as goal

-- all was written; or the device failed
pub returns-in-Ok : goal.returns-in-Ok
returns-in-Ok g c =
    let words = c.as_slice.result.now ++ shown_text c.in_ok-bytes.layout in (
      words,
      said_by (run_of c.args.live.now) (said_of c.args.answer) c.view.result.now c.layout.result.now c.view-2.result.now.names
          c.in_ok-seen.seen
          words c.view.ensures c.layout.ensures (ap (λ v. v.names) c.view-2.ensures) c.in_ok-seen.ensures
          (ap (λ (l : List ℕ). l ++ shown_text c.in_ok-bytes.layout) c.as_slice.ensures.value ∙ c.in_ok-bytes.ensures),
      c.in-Ok.ensures.ok,
      c.in_ok-keep_line.ensures,
    )

pub returns : goal.returns
returns g c =
    let words = c.as_slice.result.now ++ shown_text c.in_ok-bytes.layout in (
      words,
      said_by (run_of c.args.live.now) (said_of c.args.answer) c.view.result.now c.layout.result.now c.view-2.result.now.names
          c.in_ok-seen.seen
          words c.view.ensures c.layout.ensures (ap (λ v. v.names) c.view-2.ensures) c.in_ok-seen.ensures
          (ap (λ (l : List ℕ). l ++ shown_text c.in_ok-bytes.layout) c.as_slice.ensures.value ∙ c.in_ok-bytes.ensures),
      c.in-Err.ensures.fault,
      c.in_ok-keep_line.ensures,
    )
