-- What holds of every step and its line.
use Rattle.std.specs.Prelude.{◌≡◌, Some}
use Rattle.session_steps.specs.declared.Step.{Step}
use Rattle.job_text.specs.Steps.{step_of}
use Rattle.job_text.specs.Words.{words_of}
use Rattle.job_laws.specs.Written.{CanBeSaid, line_of, step_words}

-- the line of a step says that step
abbrev pub LinesSayTheirSteps : Type 0
LinesSayTheirSteps = (step : Step) → CanBeSaid step → step_of (words_of (line_of (step_words step))) ≡ Some step

-- so steps of the same line are the same
abbrev pub LinesTellSteps : Type 0
LinesTellSteps = (a b : Step) → CanBeSaid a → CanBeSaid b → line_of (step_words a) ≡ line_of (step_words b) → a ≡ b
