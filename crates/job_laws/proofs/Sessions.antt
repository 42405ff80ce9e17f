-- The lines of the sessions.
use Rattle.std.proofs.Common.{◌≡◌, ℕ, ◌+◌, false, List, [], ◌∷◌, ◌++◌, length, refl, sym, ap, subst, ◌∙◌, arith}
use Rattle.std.proofs.Common.{append_assoc, append-nil, inl, inr}
use Rattle.std.specs.Prelude.{codes, if◌then◌else◌, Result, Ok, Err, Some}
use Rattle.std.proofs.lemmas.List.{length-append}
use Rattle.session_steps.specs.declared.Step.{Step}
use Rattle.job_text.specs.declared.job.JobFault.{JobFault}
use Rattle.job_text.specs.declared.job.JobFault.TheVariants.{Line as FaultLine}
use Rattle.job_text.specs.Job.{◌>>=◌, Sections, is_only, is_session_line, scripts_of, sections_at, steps_with}
use Rattle.job_text.specs.Steps.{Word, step_of}
use Rattle.job_text.specs.Words.{words_of}
use Rattle.job_laws.specs.JobLines.{AreSessions, AreSteps, IsBlank, IsOnly, JobLine, NamesSession}
use Rattle.job_laws.proofs.Choices.{AreSession, choose, is_the_session, not_err, ok_same, only_is, session_is, step_no_order}
use Rattle.job_laws.proofs.Choices.{step_no_session, stepped, with_some}

-- there is no line, or the first is `%order`
abbrev pub BeginsOrder : List JobLine → Type 0
BeginsOrder [] = Unit {0}
BeginsOrder (line ∷ more) = IsOnly (codes "%order") line

-- the lines of a session that has these steps so far, and of those after it, up to the order
record AreScripts (done : List (List Step)) (steps : List Step) (all : List JobLine) (res : Sections) : Type 0 where
  body : List JobLine
  rest : List JobLine
  script : List Step
  later : List (List Step)
  parts : all ≡ body ++ rest
  said : AreSteps body script
  scripts : res.0 ≡ done ++ ((steps ++ script) ∷ later)
  sessions : AreSessions (length done + 2) rest later res.1.1
  ended : BeginsOrder res.1.1

-- the session ends, and the sessions too
last_script : (done : List (List Step)) (steps : List Step) (n : ℕ) (all : List JobLine) (res : Sections) → BeginsOrder all →
    (done ++ (steps ∷ []), (n, all)) ≡ res → AreScripts done steps all res
last_script done steps n all res ends is =
    subst (AreScripts done steps all) is
    (record {
      body = [];
      rest = all;
      script = [];
      later = [];
      parts = refl;
      said = refl;
      scripts = ap (λ s. done ++ (s ∷ [])) (sym (append-nil steps));
      sessions = refl;
      ended = ends;
    })

one_more : (done : List (List Step)) (steps : List Step) → length (done ++ (steps ∷ [])) + 2 ≡ length done + 2 + 1
one_more done steps = omega (arith, length-append done (steps ∷ []))

names : (session : ℕ) (line : JobLine) → AreSession session (words_of line) → NamesSession session line
names session line is = record { word = is.word; words = is.words; number = is.number }

are : (session : ℕ) (line : JobLine) → NamesSession session line → AreSession session (words_of line)
are session line is = record { word = is.word; words = is.words; number = is.number }

-- another session begins
next_script : (done : List (List Step)) (steps : List Step) (line : JobLine) (more : List JobLine) (res : Sections) →
    NamesSession (length done + 2) line → AreScripts (done ++ (steps ∷ [])) [] more res → AreScripts done steps (line ∷ more) res
next_script done steps line more res named next = record {
  body = [];
  rest = line ∷ more;
  script = [];
  later = next.script ∷ next.later;
  parts = refl;
  said = refl;
  scripts = next.scripts ∙ append_assoc done (steps ∷ []) (next.script ∷ next.later)
      ∙ ap (λ s. done ++ (s ∷ next.script ∷ next.later)) (sym (append-nil steps));
  sessions = (
    record { head = line; body = next.body; rest = next.rest; parts = ap (λ l. line ∷ l) next.parts; names = named; steps = next.said },
    subst (λ s. AreSessions s next.rest next.later res.1.1) (one_more done steps) next.sessions,
  );
  ended = next.ended;
}

-- a line without words
blank_line : (done : List (List Step)) (steps : List Step) (line : JobLine) (more : List JobLine) (res : Sections) → IsBlank line →
    AreScripts done steps more res → AreScripts done steps (line ∷ more) res
blank_line done steps line more res blank next = record {
  body = line ∷ next.body;
  rest = next.rest;
  script = next.script;
  later = next.later;
  parts = ap (λ l. line ∷ l) next.parts;
  said = inl (blank, next.said);
  scripts = next.scripts;
  sessions = next.sessions;
  ended = next.ended;
}

-- a line that says a step
step_line : (done : List (List Step)) (steps : List Step) (line : JobLine) (more : List JobLine) (res : Sections) (step : Step) →
    step_of (words_of line) ≡ Some step → AreScripts done (steps ++ (step ∷ [])) more res → AreScripts done steps (line ∷ more) res
step_line done steps line more res step says next = record {
  body = line ∷ next.body;
  rest = next.rest;
  script = step ∷ next.script;
  later = next.later;
  parts = ap (λ l. line ∷ l) next.parts;
  said = inr (step, next.script, refl, says, next.said);
  scripts = next.scripts ∙ ap (λ s. done ++ (s ∷ next.later)) (append_assoc steps (step ∷ []) next.script);
  sessions = next.sessions;
  ended = next.ended;
}

scripts_sound : (done : List (List Step)) (steps : List Step) (n : ℕ) (all : List JobLine) (res : Sections) →
    scripts_of done steps n all ≡ Ok res → AreScripts done steps all res
scripts_sound done steps n [] res h = last_script done steps n [] res tt (ok_same (done ++ (steps ∷ []), (n, [])) res h)
scripts_sound done steps n (line ∷ more) res h =
    let ws = words_of line in
    let goes_on = λ (next : List Step). scripts_of done next (n + 1) more in
    choose (is_only (codes "%order") ws) (Ok (done ++ (steps ∷ []), (n, line ∷ more)))
    (if is_session_line (length done + 2) ws then scripts_of (done ++ (steps ∷ [])) [] (n + 1) more
    else (steps_with steps n ws >>= goes_on))
    (Ok res) h
    (λ e same.
    last_script done steps n (line ∷ more) res (only_is (codes "%order") ws e)
    (ok_same (done ++ (steps ∷ []), (n, line ∷ more)) res same))
    (λ e same.
    choose (is_session_line (length done + 2) ws) (scripts_of (done ++ (steps ∷ [])) [] (n + 1) more)
    (steps_with steps n ws >>= goes_on) (Ok res) same
    (λ named more_of.
    next_script done steps line more res (names (length done + 2) line (session_is (length done + 2) ws named))
    (scripts_sound (done ++ (steps ∷ [])) [] (n + 1) more res more_of))
    (λ other this.
    stepped steps n ws goes_on res this
    (λ blank more_of. blank_line done steps line more res blank (scripts_sound done steps (n + 1) more res more_of))
    (λ step says more_of.
    step_line done steps line more res step says (scripts_sound done (steps ++ (step ∷ [])) (n + 1) more res more_of))))

-- ---- and back

-- the sections are read so, whatever the number of the last lines is
abbrev ReadAs : Result Sections JobFault → List (List Step) → List JobLine → Type 0
ReadAs read scripts last = (m : ℕ) × (read ≡ Ok (scripts, (m, last)))

after_blank : (done : List (List Step)) (steps : List Step) (n : ℕ) (line : JobLine) (more : List JobLine) → IsBlank line →
    scripts_of done steps n (line ∷ more) ≡ scripts_of done steps (n + 1) more
unfolding steps_with
after_blank done steps n line more blank =
    ap (λ ws. if is_only (codes "%order") ws then Ok (done ++ (steps ∷ []), (n, line ∷ more))
    else if is_session_line (length done + 2) ws then scripts_of (done ++ (steps ∷ [])) [] (n + 1) more
    else (steps_with steps n ws >>= λ next. scripts_of done next (n + 1) more)) blank

after_step : (done : List (List Step)) (steps : List Step) (n : ℕ) (line : JobLine) (more : List JobLine) (step : Step) →
    step_of (words_of line) ≡ Some step →
    scripts_of done steps n (line ∷ more) ≡ scripts_of done (steps ++ (step ∷ [])) (n + 1) more
after_step done steps n line more step says =
    let ws = words_of line in
    let goes_on = λ (next : List Step). scripts_of done next (n + 1) more in
    ap (λ t. if t then Ok (done ++ (steps ∷ []), (n, line ∷ more))
    else if is_session_line (length done + 2) ws then scripts_of (done ++ (steps ∷ [])) [] (n + 1) more
    else (steps_with steps n ws >>= goes_on)) (step_no_order ws step says)
    ∙ ap (λ t. if t then scripts_of (done ++ (steps ∷ [])) [] (n + 1) more else (steps_with steps n ws >>= goes_on))
    (step_no_session (length done + 2) ws step says)
    ∙ ap (λ r. r >>= goes_on) (with_some steps n ws step says)

at_order : (done : List (List Step)) (steps : List Step) (n : ℕ) (all : List JobLine) → BeginsOrder all →
    scripts_of done steps n all ≡ Ok (done ++ (steps ∷ []), (n, all))
at_order done steps n [] ends = refl
at_order done steps n (line ∷ more) ends =
    ap (λ t. if t then Ok (done ++ (steps ∷ []), (n, line ∷ more))
    else if is_session_line (length done + 2) (words_of line) then scripts_of (done ++ (steps ∷ [])) [] (n + 1) more
    else (steps_with steps n (words_of line) >>= λ next. scripts_of done next (n + 1) more)) (ap (is_only (codes "%order")) ends)

no_order : (session : ℕ) (ws : List Word) → AreSession session ws → is_only (codes "%order") ws ≡ false
no_order session ws is = ap (is_only (codes "%order")) is.words

at_session : (done : List (List Step)) (steps : List Step) (n : ℕ) (line : JobLine) (more : List JobLine) →
    AreSession (length done + 2) (words_of line) →
    scripts_of done steps n (line ∷ more) ≡ scripts_of (done ++ (steps ∷ [])) [] (n + 1) more
at_session done steps n line more is =
    let ws = words_of line in
    let goes_on = λ (next : List Step). scripts_of done next (n + 1) more in
    ap (λ t. if t then Ok (done ++ (steps ∷ []), (n, line ∷ more))
    else if is_session_line (length done + 2) ws then scripts_of (done ++ (steps ∷ [])) [] (n + 1) more
    else (steps_with steps n ws >>= goes_on)) (no_order (length done + 2) ws is)
    ∙ ap (λ t. if t then scripts_of (done ++ (steps ∷ [])) [] (n + 1) more else (steps_with steps n ws >>= goes_on))
    (is_the_session (length done + 2) ws is)

-- the lines of a session, and then what comes after them
body_read : (done : List (List Step)) (steps : List Step) (n : ℕ) (body : List JobLine) (script : List Step) (rest last : List JobLine)
    (all : List (List Step)) → AreSteps body script → ((m : ℕ) → ReadAs (scripts_of done (steps ++ script) m rest) all last) →
    ReadAs (scripts_of done steps n (body ++ rest)) all last
body_read done steps n [] script rest last all said more =
    subst (λ s. ReadAs (scripts_of done s n rest) all last) (ap (λ s. steps ++ s) said ∙ append-nil steps) (more n)
body_read done steps n (line ∷ body) script rest last all (inl blank) more =
    let next = body_read done steps (n + 1) body script rest last all blank.1 more in
    (next.0, after_blank done steps n line (body ++ rest) blank.0 ∙ next.1)
body_read done steps n (line ∷ body) script rest last all (inr says) more =
    let step = says.0 in
    let whole : (steps ++ (step ∷ [])) ++ says.1 ≡ steps ++ script =
    append_assoc steps (step ∷ []) says.1 ∙ ap (λ s. steps ++ s) (sym says.2) in
    let next = body_read done (steps ++ (step ∷ [])) (n + 1) body says.1 rest last all says.4
    (λ m. subst (λ s. ReadAs (scripts_of done s m rest) all last) (sym whole) (more m)) in
    (next.0, after_step done steps n line (body ++ rest) step says.3 ∙ next.1)

-- the lines of the sessions that are left, where the one before has these steps
rest_read : (later : List (List Step)) (done : List (List Step)) (steps : List Step) (n : ℕ) (all last : List JobLine) →
    AreSessions (length done + 2) all later last → BeginsOrder last → ReadAs (scripts_of done steps n all) (done ++ (steps ∷ later)) last
rest_read [] done steps n all last same ends =
    (n, ap (scripts_of done steps n) same ∙ at_order done steps n last ends)
rest_read (script ∷ later) done steps n all last sessions ends =
    let first = sessions.0 in
    let scripts = (done ++ (steps ∷ [])) ++ (script ∷ later) in
    let next = body_read (done ++ (steps ∷ [])) [] (n + 1) first.body script first.rest last scripts first.steps
    (λ m.
    rest_read later (done ++ (steps ∷ [])) script m first.rest last
    (subst (λ s. AreSessions s first.rest later last) (sym (one_more done steps)) sessions.1) ends) in (
      next.0,
      ap (scripts_of done steps n) first.parts
          ∙ at_session done steps n first.head (first.body ++ first.rest) (are (length done + 2) first.head first.names)
          ∙ next.1 ∙ ap (λ s. Ok (s, (next.0, last))) (append_assoc done (steps ∷ []) (script ∷ later)),
    )

-- ---- from the first section on

pub record AreRead (all : List JobLine) (res : Sections) : Type 0 where
  pub sessions : AreSessions 1 all res.0 res.1.1
  pub ended : BeginsOrder res.1.1

first_script : (line : JobLine) (more : List JobLine) (res : Sections) → NamesSession 1 line → AreScripts [] [] more res →
    AreRead (line ∷ more) res
first_script line more res named next = record {
  sessions = subst (λ s. AreSessions 1 (line ∷ more) s res.1.1) (sym next.scripts) (
    record { head = line; body = next.body; rest = next.rest; parts = ap (λ l. line ∷ l) next.parts; names = named; steps = next.said },
    next.sessions,
  );
  ended = next.ended;
}

pub sections_sound : (n : ℕ) (all : List JobLine) (res : Sections) → sections_at (n, all) ≡ Ok res → AreRead all res
unfolding sections_at
sections_sound n [] res h = subst (AreRead []) (ok_same ([], (n, [])) res h) (record { sessions = refl; ended = tt })
sections_sound n (line ∷ more) res h =
    let ws = words_of line in
    choose (is_only (codes "%order") ws) (Ok ([], (n, line ∷ more)))
    (if is_session_line 1 ws then scripts_of [] [] (n + 1) more else Err (FaultLine n)) (Ok res) h
    (λ e same.
    subst (AreRead (line ∷ more)) (ok_same ([], (n, line ∷ more)) res same)
    (record { sessions = refl; ended = only_is (codes "%order") ws e }))
    (λ e same.
    choose (is_session_line 1 ws) (scripts_of [] [] (n + 1) more) (Err (FaultLine n)) (Ok res) same
    (λ named more_of.
    first_script line more res (names 1 line (session_is 1 ws named)) (scripts_sound [] [] (n + 1) more res more_of))
    (λ other refused. not_err res (FaultLine n) refused))

order_at_once : (n : ℕ) (all : List JobLine) → BeginsOrder all → sections_at (n, all) ≡ Ok ([], (n, all))
unfolding sections_at
order_at_once n [] ends = refl
order_at_once n (line ∷ more) ends =
    ap (λ t. if t then Ok ([], (n, line ∷ more))
    else if is_session_line 1 (words_of line) then scripts_of [] [] (n + 1) more else Err (FaultLine n))
    (ap (is_only (codes "%order")) ends)

first_session : (n : ℕ) (line : JobLine) (more : List JobLine) → AreSession 1 (words_of line) →
    sections_at (n, line ∷ more) ≡ scripts_of [] [] (n + 1) more
unfolding sections_at
first_session n line more is =
    let ws = words_of line in
    ap (λ t. if t then Ok ([], (n, line ∷ more)) else if is_session_line 1 ws then scripts_of [] [] (n + 1) more else Err (FaultLine n))
    (no_order 1 ws is)
    ∙ ap (λ t. if t then scripts_of [] [] (n + 1) more else Err (FaultLine n)) (is_the_session 1 ws is)

pub sections_complete : (n : ℕ) (all : List JobLine) (scripts : List (List Step)) (last : List JobLine) → AreSessions 1 all scripts last →
    BeginsOrder last → (m : ℕ) × (sections_at (n, all) ≡ Ok (scripts, (m, last)))
sections_complete n all [] last same ends = (n, ap (λ l. sections_at (n, l)) same ∙ order_at_once n last ends)
sections_complete n all (script ∷ later) last sessions ends =
    let first = sessions.0 in
    let next = body_read [] [] (n + 1) first.body script first.rest last (script ∷ later) first.steps
    (λ m. rest_read later [] script m first.rest last sessions.1 ends) in (
      next.0,
      ap (λ l. sections_at (n, l)) first.parts
          ∙ first_session n first.head (first.body ++ first.rest) (are 1 first.head first.names) ∙ next.1,
    )
