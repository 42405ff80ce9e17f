-- Where the lines of a live run lead.
use Rattle.std.proofs.Common.{◌≡◌, ℕ, List, [], ◌∷◌, ◌++◌, map, refl, sym, ◌∙◌, append-nil}
use Rattle.std.proofs.lemmas.List.{append_assoc}
use Rattle.session_steps.specs.declared.Step.{Step as StepOf}
use Rattle.session_core.specs.Machine.{after_steps, step_outcome}
use Rattle.job_text.specs.declared.live.LiveLine.{LiveLine}
use Rattle.job_text.specs.declared.live.LiveLine.TheVariants.{Ask, Blank, Unknown, Step, Write}
use Rattle.job_text.specs.Live.{live_line}
use Rattle.job_text.specs.Words.{words_of}
use Rattle.live_run.specs.Live.{LiveRun, after_line, after_lines, after_step, answered, before_first_line, one_more}
use Rattle.live_run.specs.Laws.{LinesAreSteps, steps_in, steps_of}

-- from the first run the steps led to the second
record Leads (run : LiveRun) (steps : List (ℕ × StepOf)) (run' : LiveRun) : Type 0 where
  state : run'.state ≡ (after_steps run.state steps).1
  replies : run'.replies ≡ run.replies ++ (after_steps run.state steps).0
  sessions : run'.sessions ≡ run.sessions ++ map (λ step. step.0) steps

LeadAll : List (List ℕ) → Type 0
LeadAll lines = (run : LiveRun) → Leads run (steps_in lines) (after_lines run lines)

lead_on : (run : LiveRun) (said : LiveLine) (lines : List (List ℕ)) → LeadAll lines
    → Leads run (steps_of said ++ steps_in lines) (after_lines (answered run said).0 lines)
unfolding LeadAll
lead_on run Blank lines more =
    let h = more (one_more run) in record { state = h.state; replies = h.replies; sessions = h.sessions }
lead_on run (Step session step) lines more =
    let h = more (after_step run session step).0 in
    record {
      state = h.state;
      replies = h.replies ∙ append_assoc run.replies ((step_outcome run.state session step).0 ∷ [])
          (after_steps (step_outcome run.state session step).1 (steps_in lines)).0;
      sessions = h.sessions ∙ append_assoc run.sessions (session ∷ []) (map (λ step. step.0) (steps_in lines));
    }
lead_on run Write lines more =
    let h = more (one_more run) in record { state = h.state; replies = h.replies; sessions = h.sessions }
lead_on run (Ask question) lines more =
    let h = more (one_more run) in record { state = h.state; replies = h.replies; sessions = h.sessions }
lead_on run Unknown lines more =
    let h = more (one_more run) in record { state = h.state; replies = h.replies; sessions = h.sessions }

leads : (lines : List (List ℕ)) → LeadAll lines
unfolding LeadAll after_line
leads [] run = record { state = refl; replies = sym (append-nil run.replies); sessions = sym (append-nil run.sessions) }
leads (line ∷ lines) run = lead_on run (live_line (words_of line)) lines (leads lines)

pub lines_lead : LinesAreSteps
unfolding LeadAll
lines_lead view base lines =
    let h = leads lines (before_first_line view base) in record { state = h.state; replies = h.replies; sessions = h.sessions }
