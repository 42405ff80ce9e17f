-- Which line is named by what is read.
use Rattle.std.proofs.Common.{◌≡◌, ℕ, ◌+◌, Bool, true, false, List, [], ◌∷◌, ◌++◌, length, refl, sym, ap, subst, ◌∙◌, arith}
use Rattle.std.proofs.Common.{append_assoc, inl, inr, ◌⊎◌}
use Rattle.std.specs.Prelude.{codes, if◌then◌else◌, Option, None, Result, Ok, Err, Some}
use Rattle.std.specs.List.{AllByRecursion, list_all}
use Rattle.std.specs.Option.{ok_or}
use Rattle.std.proofs.lemmas.List.{length-append}
use Rattle.session_steps.specs.declared.Step.{Step}
use Rattle.job_text.specs.declared.job.JobFault.{JobFault}
use Rattle.job_text.specs.declared.job.JobFault.TheVariants.{Line as FaultLine}
use Rattle.job_text.specs.Job.{
  ◌>>=◌,
  Sections,
  head_of,
  is_none_of,
  is_only,
  is_session_line,
  odd_line,
  scripts_of,
  sections_at,
  steps_with,
}
use Rattle.job_text.specs.Steps.{Word, step_of}
use Rattle.job_text.specs.Text.{is_section, sections_of}
use Rattle.byte_io.specs.Numbers.{is_number}
use Rattle.job_text.specs.Words.{words_of}
use Rattle.job_laws.specs.JobLines.{BeginsSections, IsBlank, IsOnly, JobLine, NamesSession}
use Rattle.job_laws.specs.Faults.{BeginsPart, IsFirstOdd, LeadAll, LeadsOn, Stage}
use Rattle.job_laws.specs.Faults.Stage.{Front, InOrder, InSession, InText}
use Rattle.job_laws.proofs.Choices.{choose, is_the_session, none_is, not_err, ok_same, only_is, session_is}
use Rattle.lay_point.proofs.BoolLaws.{true_false}

-- ---- lines that lead from one stage to another

-- from these lines, the first with this number, those in front of the rest lead to this stage, and the rest begins with that number
pub record Reaches (first : Stage) (start : ℕ) (all : List JobLine) (stage : Stage) (number : ℕ) (rest : List JobLine) : Type 0 where
  pub before : List JobLine
  pub parts : all ≡ before ++ rest
  pub led : LeadAll first before stage
  pub counted : number ≡ start + length before

here : (stage : Stage) (n : ℕ) (all : List JobLine) → Reaches stage n all stage n all
here stage n all = record { before = []; parts = refl; led = refl; counted = omega (arith) }

past : (first next stage : Stage) (n : ℕ) (line : JobLine) (more : List JobLine) (m : ℕ) (rest : List JobLine) → LeadsOn first line next
    → Reaches next (n + 1) more stage m rest → Reaches first n (line ∷ more) stage m rest
past first next stage n line more m rest leads reaches = record {
  before = line ∷ reaches.before;
  parts = ap (λ l. line ∷ l) reaches.parts;
  led = (next, leads, reaches.led);
  counted = omega (arith, reaches.counted);
}

odd_here : (stage : Stage) (n : ℕ) (line : JobLine) (more : List JobLine) (k : ℕ) → ((next : Stage) → LeadsOn stage line next → ⊥)
    → n ≡ k → IsFirstOdd stage n (line ∷ more) k
odd_here stage n line more k odd same = record {
  before = [];
  line = line;
  after = more;
  stage = stage;
  parts = refl;
  led = refl;
  odd = odd;
  counted = omega (arith, same);
}

odd_past : (first next : Stage) (n : ℕ) (line : JobLine) (more : List JobLine) (k : ℕ) → LeadsOn first line next
    → IsFirstOdd next (n + 1) more k → IsFirstOdd first n (line ∷ more) k
odd_past first next n line more k leads odd = record {
  before = line ∷ odd.before;
  line = odd.line;
  after = odd.after;
  stage = odd.stage;
  parts = ap (λ l. line ∷ l) odd.parts;
  led = (next, leads, odd.led);
  odd = odd.odd;
  counted = omega (arith, odd.counted);
}

lead_joined : (first middle last : Stage) (before behind : List JobLine) → LeadAll first before middle → LeadAll middle behind last
    → LeadAll first (before ++ behind) last
lead_joined first middle last [] behind same led = subst (λ s. LeadAll s behind last) (sym same) led
lead_joined first middle last (line ∷ before) behind first_led led =
    (first_led.0, first_led.1, lead_joined first_led.0 middle last before behind first_led.2 led)

pub reach_joined : (first middle last : Stage) (n : ℕ) (all : List JobLine) (m : ℕ) (rest : List JobLine) (k : ℕ) (end : List JobLine)
    → Reaches first n all middle m rest → Reaches middle m rest last k end → Reaches first n all last k end
reach_joined first middle last n all m rest k end one two = record {
  before = one.before ++ two.before;
  parts = one.parts ∙ ap (λ l. one.before ++ l) two.parts ∙ sym (append_assoc one.before two.before end);
  led = lead_joined first middle last one.before two.before one.led two.led;
  counted = omega (arith, one.counted, two.counted, length-append one.before two.before);
}

pub odd_behind : (first middle : Stage) (n : ℕ) (all : List JobLine) (m : ℕ) (rest : List JobLine) (k : ℕ)
    → Reaches first n all middle m rest → IsFirstOdd middle m rest k → IsFirstOdd first n all k
odd_behind first middle n all m rest k one odd = record {
  before = one.before ++ odd.before;
  line = odd.line;
  after = odd.after;
  stage = odd.stage;
  parts = one.parts ∙ ap (λ l. one.before ++ l) odd.parts ∙ sym (append_assoc one.before odd.before (odd.line ∷ odd.after));
  led = lead_joined first middle odd.stage one.before odd.before one.led odd.led;
  odd = odd.odd;
  counted = omega (arith, one.counted, odd.counted, length-append one.before odd.before);
}

-- the lines that are left have as many numbers as there are
pub all_counted : (first stage : Stage) (n : ℕ) (all : List JobLine) (m : ℕ) (rest : List JobLine) → Reaches first n all stage m rest
    → m + length rest ≡ n + length all
all_counted first stage n all m rest is =
    omega (arith, is.counted, ap length is.parts, length-append is.before rest)

-- ---- results

pub err_same : {A : Type 0} (n k : ℕ) → ◌≡◌ {A = Result A JobFault} (Err (FaultLine n)) (Err (FaultLine k)) → n ≡ k
err_same n k h = cc

pub not_ok : {A P : Type 0} (a : A) (e : JobFault) → ◌≡◌ {A = Result A JobFault} (Ok a) (Err e) → P
not_ok a e h = absurd (cc)

-- a fault of what is bound is that of the one or of the other
pub bind_err : {A B P : Type 0} (r : Result A JobFault) (f : A → Result B JobFault) (e : JobFault) → (r >>= f) ≡ Err e
    → (r ≡ Err e → P) → ((a : A) → r ≡ Ok a → f a ≡ Err e → P) → P
bind_err {A} (Ok a) f e h one other = other a refl h
bind_err {A} (Err d) f e h one other = one (err_of d e h) where
  err_of : {A B : Type 0} (d e : JobFault) → ◌≡◌ {A = Result B JobFault} (Err d) (Err e) → ◌≡◌ {A = Result A JobFault} (Err d) (Err e)
  err_of d e h = cc

is_none : (ws : List Word) → ws ≡ [] → is_none_of ws ≡ true
is_none ws h = ap is_none_of h

-- ---- in front of the text

cif_only : (ws : List Word) → ws ≡ codes "%cif" ∷ [] → is_only (codes "%cif") ws ≡ true
cif_only ws h = ap (is_only (codes "%cif")) h

order_only : (ws : List Word) → ws ≡ codes "%order" ∷ [] → is_only (codes "%order") ws ≡ true
order_only ws h = ap (is_only (codes "%order")) h

pub head_reaches : (n : ℕ) (all : List JobLine) (m : ℕ) (others : List JobLine) → head_of n all ≡ Ok (m, others)
    → Reaches Front n all InText m others
head_reaches n [] m others h = absurd (cc)
head_reaches n (line ∷ more) m others h =
    choose (is_none_of (words_of line)) (head_of (n + 1) more)
    (if is_only (codes "%cif") (words_of line) then Ok (n + 1, more) else Err (FaultLine n)) (Ok (m, others)) h
    (λ e same.
    past Front Front InText n line more m others (inl (none_is (words_of line) e, refl)) (head_reaches (n + 1) more m others same))
    (λ e same.
    choose (is_only (codes "%cif") (words_of line)) (Ok (n + 1, more)) (Err (FaultLine n)) (Ok (m, others)) same
    (λ named found.
    let ends = ok_same (n + 1, more) (m, others) found in
    past Front InText InText n line more m others (inr (only_is (codes "%cif") (words_of line) named, refl))
    (subst (λ p. Reaches InText (n + 1) more InText p.0 p.1) ends (here InText (n + 1) more)))
    (λ other refused. absurd (cc)))

no_front : (line : JobLine) → is_none_of (words_of line) ≡ false → is_only (codes "%cif") (words_of line) ≡ false
    → (next : Stage) → LeadsOn Front line next → ⊥
no_front line some other next (inl blank) = true_false (is_none_of (words_of line)) (is_none (words_of line) blank.0) some
no_front line some other next (inr named) = true_false (is_only (codes "%cif") (words_of line)) (cif_only (words_of line) named.0) other

-- no line has words, and 1 is named; or a line is odd
abbrev pub NamesFront : ℕ → List JobLine → ℕ → Type 0
NamesFront n all k = (AllByRecursion IsBlank all × (k ≡ 1)) ⊎ IsFirstOdd Front n all k

front_past : (n : ℕ) (line : JobLine) (more : List JobLine) (k : ℕ) → IsBlank line → NamesFront (n + 1) more k
    → NamesFront n (line ∷ more) k
front_past n line more k blank (inl none) = inl ((blank, none.0), none.1)
front_past n line more k blank (inr odd) = inr (odd_past Front Front n line more k (inl (blank, refl)) odd)

pub head_odd : (n : ℕ) (all : List JobLine) (k : ℕ) → head_of n all ≡ Err (FaultLine k) → NamesFront n all k
head_odd n [] k h = inl (tt, sym (err_same 1 k h))
head_odd n (line ∷ more) k h =
    choose (is_none_of (words_of line)) (head_of (n + 1) more)
    (if is_only (codes "%cif") (words_of line) then Ok (n + 1, more) else Err (FaultLine n)) (Err (FaultLine k)) h
    (λ e same. front_past n line more k (none_is (words_of line) e) (head_odd (n + 1) more k same))
    (λ some same.
    choose (is_only (codes "%cif") (words_of line)) (Ok (n + 1, more)) (Err (FaultLine n)) (Err (FaultLine k)) same
    (λ named found. not_ok (n + 1, more) (FaultLine k) found)
    (λ other refused. inr (odd_here Front n line more k (no_front line some other) (err_same n k refused))))

-- ---- the text

text_step : (n : ℕ) (line : JobLine) (more : List JobLine) (t : Bool) → is_section line ≡ t
    → Reaches InText (n + 1) more InText (sections_of (n + 1) more).0 (sections_of (n + 1) more).1
    → Reaches InText n (line ∷ more) InText (if t then (n, line ∷ more) else sections_of (n + 1) more).0
    (if t then (n, line ∷ more) else sections_of (n + 1) more).1
text_step n line more true e reaches = here InText n (line ∷ more)
text_step n line more false e reaches =
    past InText InText InText n line more (sections_of (n + 1) more).0 (sections_of (n + 1) more).1 (inl (e, refl)) reaches

pub text_reaches : (n : ℕ) (all : List JobLine) → Reaches InText n all InText (sections_of n all).0 (sections_of n all).1
text_reaches n [] = here InText n []
text_reaches n (line ∷ more) = text_step n line more (is_section line) refl (text_reaches (n + 1) more)

-- ---- the sessions

names : (session : ℕ) (line : JobLine) → is_session_line session (words_of line) ≡ true → NamesSession session line
names session line h =
    let is = session_is session (words_of line) h in
    record { word = is.word; words = is.words; number = is.number }

named : (session : ℕ) (line : JobLine) → NamesSession session line → is_session_line session (words_of line) ≡ true
named session line is =
    is_the_session session (words_of line) (record { word = is.word; words = is.words; number = is.number })

no_part : (session : ℕ) (line : JobLine) → is_only (codes "%order") (words_of line) ≡ false
    → is_session_line session (words_of line) ≡ false → (next : Stage) → BeginsPart session line next → ⊥
no_part session line no_order no_session next (inl is) =
    true_false (is_session_line session (words_of line)) (named session line is.0) no_session
no_part session line no_order no_session next (inr is) =
    true_false (is_only (codes "%order") (words_of line)) (order_only (words_of line) is.0) no_order

next_length : (done : List (List Step)) (steps : List Step) → InSession (length (done ++ (steps ∷ [])) + 1) ≡ InSession (length done + 2)
next_length done steps =
    let same : length (done ++ (steps ∷ [])) + 1 ≡ length done + 2 = omega (arith, length-append done (steps ∷ [])) in
    ap InSession same

later : (done : List (List Step)) → InSession (length done + 2) ≡ InSession (length done + 1 + 1)
later done =
    let same : length done + 2 ≡ length done + 1 + 1 = omega (arith) in
    ap InSession same

-- the line of the session that comes next leads into it
next_session : (done : List (List Step)) (line : JobLine) → is_session_line (length done + 2) (words_of line) ≡ true
    → LeadsOn (InSession (length done + 1)) line (InSession (length done + 2))
next_session done line h =
    let same : length done + 2 ≡ length done + 1 + 1 = omega (arith) in
    inr (inl (subst (λ s. NamesSession s line) same (names (length done + 2) line h), later done))

-- what a line does to the steps so far, where a fault comes of it
step_odd : {B P : Type 0} (steps : List Step) (n : ℕ) (line : JobLine) (f : List Step → Result B JobFault) (r : Result B JobFault)
    → (steps_with steps n (words_of line) >>= f) ≡ r → (IsBlank line → f steps ≡ r → P)
    → ((step : Step) → step_of (words_of line) ≡ Some step → f (steps ++ step ∷ []) ≡ r → P)
    → (is_none_of (words_of line) ≡ false → step_of (words_of line) ≡ None → Err (FaultLine n) ≡ r → P) → P
unfolding steps_with
step_odd {B} {P} steps n line f r h blank said odd = by_words (is_none_of (words_of line)) refl h where
  by_step : (o : Option Step) → step_of (words_of line) ≡ o → is_none_of (words_of line) ≡ false
      → ((ok_or o (FaultLine n) >>= λ step. Ok (steps ++ step ∷ [])) >>= f) ≡ r → P
  by_step None is some g = odd some is g
  by_step (Some step) is some g = said step is g

  by_words : (t : Bool) → is_none_of (words_of line) ≡ t
      → ((if t then Ok steps else (ok_or (step_of (words_of line)) (FaultLine n) >>= λ step. Ok (steps ++ step ∷ []))) >>= f) ≡ r → P
  by_words true e g = blank (none_is (words_of line) e) g
  by_words false e g = by_step (step_of (words_of line)) refl e g

no_step : (s : ℕ) (line : JobLine) → is_none_of (words_of line) ≡ false → step_of (words_of line) ≡ None
    → ((next : Stage) → BeginsPart (s + 1) line next → ⊥) → (next : Stage) → LeadsOn (InSession s) line next → ⊥
no_step s line some none never next (inl (inl blank, same)) = true_false (is_none_of (words_of line)) (is_none (words_of line) blank) some
no_step s line some none never next (inl (inr says, same)) = absurd (none_some (step_of (words_of line)) says.0 none says.1) where
  none_some : (o : Option Step) (step : Step) → o ≡ None → o ≡ Some step → ⊥
  none_some o step a b = cc
no_step s line some none never next (inr part) = never next part

pub scripts_odd : (done : List (List Step)) (steps : List Step) (n : ℕ) (all : List JobLine) (k : ℕ)
    → scripts_of done steps n all ≡ Err (FaultLine k) → IsFirstOdd (InSession (length done + 1)) n all k
scripts_odd done steps n [] k h = not_ok (done ++ steps ∷ [], (n, [])) (FaultLine k) h
scripts_odd done steps n (line ∷ more) k h =
    let ws = words_of line in
    let stage = InSession (length done + 1) in
    let goes_on = λ (next : List Step). scripts_of done next (n + 1) more in
    choose (is_only (codes "%order") ws) (Ok (done ++ (steps ∷ []), (n, line ∷ more)))
    (if is_session_line (length done + 2) ws then scripts_of (done ++ (steps ∷ [])) [] (n + 1) more
    else (steps_with steps n ws >>= goes_on))
    (Err (FaultLine k)) h
    (λ e same. not_ok (done ++ (steps ∷ []), (n, line ∷ more)) (FaultLine k) same)
    (λ no_order same.
    choose (is_session_line (length done + 2) ws) (scripts_of (done ++ (steps ∷ [])) [] (n + 1) more)
    (steps_with steps n ws >>= goes_on) (Err (FaultLine k)) same
    (λ names_next more_of.
    odd_past stage (InSession (length done + 2)) n line more k (next_session done line names_next)
    (subst (λ s. IsFirstOdd s (n + 1) more k) (next_length done steps) (scripts_odd (done ++ (steps ∷ [])) [] (n + 1) more k more_of)))
    (λ no_session this.
    step_odd steps n line goes_on (Err (FaultLine k)) this
    (λ blank more_of. odd_past stage stage n line more k (inl (inl blank, refl)) (scripts_odd done steps (n + 1) more k more_of))
    (λ step says more_of.
    odd_past stage stage n line more k (inl (inr (step, says), refl)) (scripts_odd done (steps ++ (step ∷ [])) (n + 1) more k more_of))
    (λ some none refused.
    odd_here stage n line more k (no_step (length done + 1) line some none (no_next done line no_order no_session))
    (err_same n k refused)))) where
      no_next : (done : List (List Step)) (line : JobLine) → is_only (codes "%order") (words_of line) ≡ false
          → is_session_line (length done + 2) (words_of line) ≡ false → (next : Stage) → BeginsPart (length done + 1 + 1) line next → ⊥
      no_next done line no_order no_session next part =
          let same : length done + 1 + 1 ≡ length done + 2 = omega (arith) in
          no_part (length done + 2) line no_order no_session next (subst (λ s. BeginsPart s line next) same part)

pub scripts_reach : (done : List (List Step)) (steps : List Step) (n : ℕ) (all : List JobLine) (res : Sections)
    → scripts_of done steps n all ≡ Ok res
    → (s : ℕ) × Reaches (InSession (length done + 1)) n all (InSession s) res.1.0 res.1.1
scripts_reach done steps n [] res h =
    subst (λ r. (s : ℕ) × Reaches (InSession (length done + 1)) n [] (InSession s) r.1.0 r.1.1) (ok_same (
      done ++ (steps ∷ []),
      (n, []),
    ) res h)
    (length done + 1, here (InSession (length done + 1)) n [])
scripts_reach done steps n (line ∷ more) res h =
    let ws = words_of line in
    let stage = InSession (length done + 1) in
    let goes_on = λ (next : List Step). scripts_of done next (n + 1) more in
    choose (is_only (codes "%order") ws) (Ok (done ++ (steps ∷ []), (n, line ∷ more)))
    (if is_session_line (length done + 2) ws then scripts_of (done ++ (steps ∷ [])) [] (n + 1) more
    else (steps_with steps n ws >>= goes_on))
    (Ok res) h
    (λ e same.
    subst (λ r. (s : ℕ) × Reaches stage n (line ∷ more) (InSession s) r.1.0 r.1.1)
    (ok_same (done ++ (steps ∷ []), (n, line ∷ more)) res same) (length done + 1, here stage n (line ∷ more)))
    (λ no_order same.
    choose (is_session_line (length done + 2) ws) (scripts_of (done ++ (steps ∷ [])) [] (n + 1) more)
    (steps_with steps n ws >>= goes_on) (Ok res) same
    (λ names_next more_of.
    let next = scripts_reach (done ++ (steps ∷ [])) [] (n + 1) more res more_of in (
      next.0,
      past stage (InSession (length done + 2)) (InSession next.0) n line more res.1.0 res.1.1 (next_session done line names_next)
          (subst (λ s. Reaches s (n + 1) more (InSession next.0) res.1.0 res.1.1) (next_length done steps) next.1),
    ))
    (λ no_session this.
    step_odd steps n line goes_on (Ok res) this
    (λ blank more_of.
    let next = scripts_reach done steps (n + 1) more res more_of in
    (next.0, past stage stage (InSession next.0) n line more res.1.0 res.1.1 (inl (inl blank, refl)) next.1))
    (λ step says more_of.
    let next = scripts_reach done (steps ++ (step ∷ [])) (n + 1) more res more_of in
    (next.0, past stage stage (InSession next.0) n line more res.1.0 res.1.1 (inl (inr (step, says), refl)) next.1))
    (λ some none refused. absurd (err_not_ok (FaultLine n) res refused)))) where
      err_not_ok : (e : JobFault) (res : Sections) → ◌≡◌ {A = Result Sections JobFault} (Err e) (Ok res) → ⊥
      err_not_ok e res h = cc

-- ---- from the first section on

pub sections_odd : (n : ℕ) (all : List JobLine) (k : ℕ) → BeginsSections all → sections_at (n, all) ≡ Err (FaultLine k)
    → IsFirstOdd InText n all k
unfolding sections_at
sections_odd n [] k begins h = not_ok {A = Sections} ([], (n, [])) (FaultLine k) h
sections_odd n (line ∷ more) k begins h =
    let ws = words_of line in
    choose (is_only (codes "%order") ws) (Ok ([], (n, line ∷ more)))
    (if is_session_line 1 ws then scripts_of [] [] (n + 1) more else Err (FaultLine n)) (Err (FaultLine k)) h
    (λ e same. not_ok {A = Sections} ([], (n, line ∷ more)) (FaultLine k) same)
    (λ no_order same.
    choose (is_session_line 1 ws) (scripts_of [] [] (n + 1) more) (Err (FaultLine n)) (Err (FaultLine k)) same
    (λ is more_of.
    odd_past InText (InSession 1) n line more k (inr (begins, inl (names 1 line is, refl))) (scripts_odd [] [] (n + 1) more k more_of))
    (λ no_session refused.
    odd_here InText n line more k (no_text line begins no_order no_session) (err_same n k refused))) where
      no_text : (line : JobLine) → is_section line ≡ true → is_only (codes "%order") (words_of line) ≡ false
          → is_session_line 1 (words_of line) ≡ false → (next : Stage) → LeadsOn InText line next → ⊥
      no_text line begins no_order no_session next (inl plain) = true_false (is_section line) begins plain.0
      no_text line begins no_order no_session next (inr part) = no_part 1 line no_order no_session next part.1

-- the lines of the sessions lead to a stage after which an order can come
pub record ReachesOrder (n : ℕ) (all : List JobLine) (res : Sections) : Type 0 where
  pub stage : Stage
  pub reaches : Reaches InText n all stage res.1.0 res.1.1
  pub order : (line : JobLine) (more : List JobLine) → res.1.1 ≡ line ∷ more → IsOnly (codes "%order") line → LeadsOn stage line InOrder

section : (all : List JobLine) (line : JobLine) (more : List JobLine) → BeginsSections all → all ≡ line ∷ more
    → IsOnly (codes "%order") line → LeadsOn InText line InOrder
section [] line more begins is named = absurd (cc)
section (first ∷ others) line more begins is named =
    let same : first ≡ line = cc in
    inr (ap is_section (sym same) ∙ begins, inr (named, refl))

at_once : (n : ℕ) (all : List JobLine) → BeginsSections all → ReachesOrder n all ([], (n, all))
at_once n all begins = record {
  stage = InText;
  reaches = here InText n all;
  order = λ line more is named. section all line more begins is named;
}

in_session : (n : ℕ) (line : JobLine) (more : List JobLine) (res : Sections) → is_section line ≡ true → NamesSession 1 line
    → ((s : ℕ) × Reaches (InSession 1) (n + 1) more (InSession s) res.1.0 res.1.1) → ReachesOrder n (line ∷ more) res
in_session n line more res begins is next = record {
  stage = InSession next.0;
  reaches = past InText (InSession 1) (InSession next.0) n line more res.1.0 res.1.1 (inr (begins, inl (is, refl))) next.1;
  order = λ line more is named. inr (inr (named, refl));
}

pub sections_reach : (n : ℕ) (all : List JobLine) (res : Sections) → BeginsSections all → sections_at (n, all) ≡ Ok res
    → ReachesOrder n all res
unfolding sections_at
sections_reach n [] res begins h = subst (ReachesOrder n []) (ok_same ([], (n, [])) res h) (at_once n [] begins)
sections_reach n (line ∷ more) res begins h =
    let ws = words_of line in
    choose (is_only (codes "%order") ws) (Ok ([], (n, line ∷ more)))
    (if is_session_line 1 ws then scripts_of [] [] (n + 1) more else Err (FaultLine n)) (Ok res) h
    (λ e same. subst (ReachesOrder n (line ∷ more)) (ok_same ([], (n, line ∷ more)) res same) (at_once n (line ∷ more) begins))
    (λ no_order same.
    choose (is_session_line 1 ws) (scripts_of [] [] (n + 1) more) (Err (FaultLine n)) (Ok res) same
    (λ is more_of. in_session n line more res begins (names 1 line is) (scripts_reach [] [] (n + 1) more res more_of))
    (λ no_session refused. not_err res (FaultLine n) refused))

-- ---- the order

no_numbers : (line : JobLine) → list_all is_number (words_of line) ≡ false → (next : Stage) → LeadsOn InOrder line next → ⊥
no_numbers line other next leads = true_false (list_all is_number (words_of line)) leads.0 other

some_same : (n k : ℕ) → ◌≡◌ {A = Option ℕ} (Some n) (Some k) → n ≡ k
some_same n k h = cc

pub order_odd : (n : ℕ) (all : List JobLine) (k : ℕ) → odd_line n all ≡ Some k → IsFirstOdd InOrder n all k
order_odd n [] k h = absurd (cc)
order_odd n (line ∷ more) k h =
    choose (list_all is_number (words_of line)) (odd_line (n + 1) more) (Some n) (Some k) h
    (λ e same. odd_past InOrder InOrder n line more k (e, refl) (order_odd (n + 1) more k same))
    (λ e same. odd_here InOrder n line more k (no_numbers line e) (some_same n k same))

-- the first odd line of an order that has this first line
pub odd_in_order : (stage : Stage) (n : ℕ) (line : JobLine) (more : List JobLine) (k : ℕ) → LeadsOn stage line InOrder
    → odd_line (n + 1) more ≡ Some k → IsFirstOdd stage n (line ∷ more) k
odd_in_order stage n line more k leads odd = odd_past stage InOrder n line more k leads (order_odd (n + 1) more k odd)
