-- The words of the line are those of the step, and they say it.
use Rattle.std.proofs.Common.{◌≡◌, sym, ap, ◌∙◌}
use Rattle.std.specs.Prelude.{Some}
use Rattle.session_steps.specs.declared.Step.{Step}
use Rattle.job_text.specs.Steps.{step_of}
use Rattle.job_text.specs.Words.{words_of}
use Rattle.job_laws.specs.LineLaws.{LinesSayTheirSteps}
use Rattle.job_laws.specs.Written.{step_words}
use Rattle.job_laws.proofs.Joined.{words-line}
use Rattle.job_laws.proofs.Plain.{step_is_words}
use Rattle.job_laws.proofs.Said.{step_said}
use Rattle.job_laws.proofs.line_laws.lines_tell_steps.Goals as goal

said : LinesSayTheirSteps
said step is = ap step_of (words-line (step_words step) (step_is_words step is)) ∙ step_said step is

one_step : (a b : Step) → Some a ≡ Some b → a ≡ b
one_step a b h = cc

pub returns-clause-said : goal.returns-clause-said
returns-clause-said c = said

pub returns-clause-told : goal.returns-clause-told
returns-clause-told c = λ a b first second same.
    one_step a b (sym (said a first) ∙ ap (λ line. step_of (words_of line)) same ∙ said b second)
