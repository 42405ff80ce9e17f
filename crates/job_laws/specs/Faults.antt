-- Which line the fault of a job names: the first that can't come where it is, or the line `%order`.
-- Checked on, with a slash for each newline: `%cif x` names line 1; `%cif/E/%order/1/` and `%cif/E/%sessions/` name line 3; with two
-- steps of session 1 and none of session 2, `%order/1 x 1/` names the second of these lines, `%order/x/1 2/` the first.
use Rattle.std.specs.Prelude.{◌≡◌, ◌⊎◌, ℕ, ◌+◌, ◌<◌, ◌≤◌, List, [], ◌∷◌, ◌++◌, codes, length, true, Err, Some}
use Rattle.std.specs.List.{AllByRecursion}
use Rattle.session_steps.specs.declared.Step.{Step}
use Rattle.job_text.specs.declared.job.JobFault.TheVariants.{Line}
use Rattle.job_text.specs.declared.job.TheConstants.{MAX_JOB}
use Rattle.job_text.specs.Job.{job_of, named_in, total_len}
use Rattle.job_text.specs.Text.{is_section}
use Rattle.byte_io.specs.Lines.{lines}
use Rattle.job_text.specs.Steps.{step_of}
use Rattle.job_text.specs.Words.{words_of}
use Rattle.job_laws.specs.JobLines.{
  AreCounted,
  AreNumbers,
  AreSessions,
  BeginsSections,
  IsBlank,
  IsOfText,
  IsOnly,
  JobLine,
  NamesSession,
}

-- where the lines so far lead: in front of `%cif`, into the text, into the steps of a session, or into the order
pub data Stage : Type 0 where
  Front : Stage
  InText : Stage
  InSession : ℕ → Stage
  InOrder : Stage

-- the line begins the session of this number, or the order
abbrev pub BeginsPart : ℕ → JobLine → Stage → Type 0
BeginsPart session line next =
    (NamesSession session line × (next ≡ InSession session)) ⊎ (IsOnly (codes "%order") line × (next ≡ InOrder))

abbrev pub SaysStep : JobLine → Type 0
SaysStep line = (step : Step) × (step_of (words_of line) ≡ Some step)

-- the line can come at this stage, and leads to the next
abbrev pub LeadsOn : Stage → JobLine → Stage → Type 0
LeadsOn Front line next = (IsBlank line × (next ≡ Front)) ⊎ (IsOnly (codes "%cif") line × (next ≡ InText))
LeadsOn InText line next = (IsOfText line × (next ≡ InText)) ⊎ ((is_section line ≡ true) × BeginsPart 1 line next)
LeadsOn (InSession n) line next = ((IsBlank line ⊎ SaysStep line) × (next ≡ InSession n)) ⊎ BeginsPart (n + 1) line next
LeadsOn InOrder line next = AreNumbers line × (next ≡ InOrder)

-- the lines can come one after the other, from the first stage to the last
abbrev pub LeadAll : Stage → List JobLine → Stage → Type 0
LeadAll first [] last = first ≡ last
LeadAll first (line ∷ more) last = (next : Stage) × LeadsOn first line next × LeadAll next more last

-- Of lines that begin at this stage, the first with this number: the line of that number can't come where it is, and those before
-- it can.
pub record IsFirstOdd (first : Stage) (start : ℕ) (all : List JobLine) (number : ℕ) : Type 0 where
  pub before : List JobLine
  pub line : JobLine
  pub after : List JobLine
  pub stage : Stage
  pub parts : all ≡ before ++ (line ∷ after)
  pub led : LeadAll first before stage
  pub odd : (next : Stage) → LeadsOn stage line next → ⊥
  pub counted : number ≡ start + length before

-- Blanks, `%cif`, the text and the sessions, and then `%order` in the line of this number; but what is named after it isn't each
-- session once for each of its steps.
pub record IsWrongOrder (all : List JobLine) (number : ℕ) : Type 0 where
  pub blanks : List JobLine
  pub head : JobLine
  pub text : List JobLine
  pub sections : List JobLine
  pub scripts : List (List Step)
  pub order : JobLine
  pub after : List JobLine
  pub parts : all ≡ blanks ++ (head ∷ (text ++ sections))
  pub none : AllByRecursion IsBlank blanks
  pub names : IsOnly (codes "%cif") head
  pub plain : AllByRecursion IsOfText text
  pub begins : BeginsSections sections
  pub sessions : AreSessions 1 sections scripts (order ∷ after)
  pub ordered : IsOnly (codes "%order") order
  pub counted : number + length after ≡ length all
  pub wrong : length (named_in after) ≡ total_len scripts → AreCounted 1 scripts (named_in after) → ⊥

-- why a job is refused at the line of this number
pub data IsFaultAt (bytes : List ℕ) (number : ℕ) : Type 0 where
  too_long : MAX_JOB < length bytes → number ≡ 0 → IsFaultAt bytes number
  no_words : AllByRecursion IsBlank (lines bytes) → number ≡ 1 → IsFaultAt bytes number
  first_odd : IsFirstOdd Front 1 (lines bytes) number → IsFaultAt bytes number
  wrong_order : IsWrongOrder (lines bytes) number → IsFaultAt bytes number

-- a line that is named is at fault
abbrev pub FaultsAreAtTheirLines : Type 0
FaultsAreAtTheirLines = (bytes : List ℕ) (number : ℕ) → job_of bytes ≡ Err (Line number) → IsFaultAt bytes number

-- where the order is wrong its first line is named, whatever comes after it
abbrev pub WrongOrdersAreNamed : Type 0
WrongOrdersAreNamed = (bytes : List ℕ) (number : ℕ) → length bytes ≤ MAX_JOB → IsWrongOrder (lines bytes) number
    → job_of bytes ≡ Err (Line number)
