-- What a job is: its lines, each of its kind, in order.
use Rattle.std.specs.Prelude.{◌≡◌, ◌⊎◌, ℕ, ◌+◌, List, [], ◌∷◌, ◌++◌, codes, count_by, length, true, false, ◌==◌, Some}
use Rattle.std.specs.List.{AllByRecursion, list_all}
use Rattle.session_steps.specs.declared.Step.{Step}
use Rattle.job_text.specs.Text.{is_section}
use Rattle.job_text.specs.Job.{named_in, one_by_one, total_len}
use Rattle.job_text.specs.Jobs.{Job}
use Rattle.byte_io.specs.Lines.{lines}
use Rattle.job_text.specs.Steps.{Word, step_of}
use Rattle.byte_io.specs.Numbers.{is_number, parsed_number}
use Rattle.job_text.specs.Words.{words_of}

abbrev pub JobLine : Type 0
JobLine = List ℕ

-- the lines, one after the other
abbrev pub all_of : List JobLine → List ℕ
all_of [] = []
all_of (line ∷ lines) = line ++ all_of lines

-- a line without words
abbrev pub IsBlank : JobLine → Type 0
IsBlank line = words_of line ≡ []

-- the words of the line are this name alone
abbrev pub IsOnly : List ℕ → JobLine → Type 0
IsOnly name line = words_of line ≡ name ∷ []

-- a line of the text: it doesn't begin with `%session` or `%order`
abbrev pub IsOfText : JobLine → Type 0
IsOfText line = is_section line ≡ false

-- where a line comes after the text, it begins so
abbrev pub BeginsSections : List JobLine → Type 0
BeginsSections [] = Unit {0}
BeginsSections (line ∷ lines) = is_section line ≡ true

-- `%session` and the session's number, which is at most 64
pub record NamesSession (session : ℕ) (line : JobLine) : Type 0 where
  pub word : Word
  pub words : words_of line ≡ codes "%session" ∷ word ∷ []
  pub number : parsed_number 64 word ≡ Some session

-- the lines say these steps, one a line, but for lines without words
abbrev pub AreSteps : List JobLine → List Step → Type 0
AreSteps [] steps = steps ≡ []
AreSteps (line ∷ lines) steps =
    (IsBlank line × AreSteps lines steps)
    ⊎ ((step : Step) × (more : List Step) × (steps ≡ step ∷ more) × (step_of (words_of line) ≡ Some step) × AreSteps lines more)

-- the line that names a session, those that say its steps, and what comes after them
pub record BeginsWithSession (session : ℕ) (all : List JobLine) (script : List Step) : Type 0 where
  pub head : JobLine
  pub body : List JobLine
  pub rest : List JobLine
  pub parts : all ≡ head ∷ (body ++ rest)
  pub names : NamesSession session head
  pub steps : AreSteps body script

-- the lines are these sessions, from this number on without a gap, and then the last lines
abbrev pub AreSessions : ℕ → List JobLine → List (List Step) → List JobLine → Type 0
AreSessions session all [] last = all ≡ last
AreSessions session all (script ∷ scripts) last =
    (first : BeginsWithSession session all script) × AreSessions (session + 1) first.rest scripts last

-- each session, from this number on, is in the order as often as it has steps
abbrev pub AreCounted : ℕ → List (List Step) → List ℕ → Type 0
AreCounted session [] order = Unit {0}
AreCounted session (script ∷ scripts) order =
    (count_by (λ n. n == session) order ≡ length script) × AreCounted (session + 1) scripts order

-- a line of the order: all its words are numbers
abbrev pub AreNumbers : JobLine → Type 0
AreNumbers line = list_all is_number (words_of line) ≡ true

-- `%order`, and the sessions that the lines name, each as often as it has steps, and no others
pub record NamesOrder (scripts : List (List Step)) (all : List JobLine) (order : List ℕ) : Type 0 where
  pub head : JobLine
  pub body : List JobLine
  pub parts : all ≡ head ∷ body
  pub names : IsOnly (codes "%order") head
  pub numbers : AllByRecursion AreNumbers body
  pub named : order ≡ named_in body
  pub many : length order ≡ total_len scripts
  pub counted : AreCounted 1 scripts order

-- the order that the last lines name; without them, the sessions one after the other
abbrev pub IsOrder : List (List Step) → List JobLine → List ℕ → Type 0
IsOrder scripts last order = ((last ≡ []) × (order ≡ one_by_one 1 scripts)) ⊎ NamesOrder scripts last order

-- lines without words, `%cif`, the text, the sessions and the order
pub record IsJob (bytes : List ℕ) (job : Job) : Type 0 where
  pub blanks : List JobLine
  pub head : JobLine
  pub text : List JobLine
  pub sections : List JobLine
  pub last : List JobLine
  pub parts : lines bytes ≡ blanks ++ (head ∷ (text ++ sections))
  pub none : AllByRecursion IsBlank blanks
  pub names : IsOnly (codes "%cif") head
  pub plain : AllByRecursion IsOfText text
  pub begins : BeginsSections sections
  pub cif : job.cif ≡ all_of text
  pub sessions : AreSessions 1 sections job.scripts last
  pub ordered : IsOrder job.scripts last job.order
