-- Tests on words, and results by cases.
use Rattle.std.proofs.Common.{◌≡◌, ℕ, Bool, true, false, List, [], ◌∷◌, ◌++◌, refl, ap, ◌∙◌, arith}
use Rattle.std.specs.Prelude.{◌&&◌, codes, if◌then◌else◌, nat_eq, Option, None, Some, Result, Ok, Err}
use Rattle.std.specs.Option.{ok_or, option_eq}
use Rattle.std.specs.Str.{bytes_eq}
use Rattle.std.proofs.lemmas.Bool.{and_parts, false_from_ne_true}
use Rattle.std.proofs.lemmas.Bool.Decides.{nat_tests}
use Rattle.std.proofs.lemmas.Slice.Eq.{bytes_eq-Decides}
use Rattle.lay_cells.proofs.BeforeLemmas.{same_itself}
use Rattle.session_steps.specs.declared.Step.{Step}
use Rattle.job_text.specs.declared.job.JobFault.{JobFault}
use Rattle.job_text.specs.declared.job.JobFault.TheVariants.{Line}
use Rattle.job_text.specs.Job.{◌>>=◌, is_none_of, is_only, is_only_number, is_session_line, is_session_number, steps_with}
use Rattle.job_text.specs.Steps.{Word, command_named, op_of, short_command, step_named, step_of}
use Rattle.byte_io.specs.Numbers.{parsed_number}

-- the result of an `if`, by what it comes from
pub choose : {A P : Type 0} (b : Bool) (x y r : A) → (if b then x else y) ≡ r → (b ≡ true → x ≡ r → P) → (b ≡ false → y ≡ r → P) → P
choose true x y r h first second = first refl h
choose false x y r h first second = second refl h

pub ok_same : {A : Type 0} (a b : A) → ◌≡◌ {A = Result A JobFault} (Ok a) (Ok b) → a ≡ b
ok_same a b h = cc

pub not_err : {A P : Type 0} (a : A) (e : JobFault) → ◌≡◌ {A = Result A JobFault} (Err e) (Ok a) → P
not_err a e h = absurd (cc)

-- what is bound is there
pub bind_ok : {A B P : Type 0} (r : Result A JobFault) (f : A → Result B JobFault) (b : B) → (r >>= f) ≡ Ok b
    → ((a : A) → r ≡ Ok a → f a ≡ Ok b → P) → P
bind_ok (Ok a) f b h more = more a refl h
bind_ok (Err e) f b h more = not_err b e h

pub none_is : (ws : List Word) → is_none_of ws ≡ true → ws ≡ []
none_is [] h = refl
none_is (w ∷ ws) h = absurd (cc)

two_same : (w name : Word) (ws : List Word) → w ≡ name → ws ≡ [] → w ∷ ws ≡ name ∷ []
two_same w name ws first rest = cc

pub only_is : (name : Word) (ws : List Word) → is_only name ws ≡ true → ws ≡ name ∷ []
only_is name [] h = absurd (cc)
only_is name (w ∷ ws) h =
    let parts = and_parts (bytes_eq w name) (is_none_of ws) h in
    two_same w name ws ((bytes_eq-Decides w name).0 parts.0) (none_is ws parts.1)

number_is : (o : Option ℕ) (n : ℕ) → option_eq nat_eq o (Some n) ≡ true → o ≡ Some n
number_is None n h = absurd (cc)
number_is (Some m) n h =
    let same : m ≡ n = grind (arith, nat_tests) in
    ap Some same

-- the words are `%session` and this number
pub record AreSession (session : ℕ) (ws : List Word) : Type 0 where
  pub word : Word
  pub words : ws ≡ codes "%session" ∷ word ∷ []
  pub number : parsed_number 64 word ≡ Some session

three_same : (v w name : Word) (ws : List Word) → v ≡ name → ws ≡ [] → v ∷ w ∷ ws ≡ name ∷ w ∷ []
three_same v w name ws first rest = cc

pub session_is : (session : ℕ) (ws : List Word) → is_session_line session ws ≡ true → AreSession session ws
session_is session [] h = absurd (cc)
session_is session (v ∷ []) h = absurd (no_and (bytes_eq v (codes "%session")) h) where
  no_and : (b : Bool) → (b && false) ≡ true → ⊥
  no_and true e = cc
  no_and false e = cc
session_is session (v ∷ w ∷ ws) h =
    let parts = and_parts (bytes_eq v (codes "%session")) (is_only_number session (w ∷ ws)) h in
    let more = and_parts (is_session_number session w) (is_none_of ws) parts.1 in
    record {
      word = w;
      words = three_same v w (codes "%session") ws ((bytes_eq-Decides v (codes "%session")).0 parts.0) (none_is ws more.1);
      number = number_is (parsed_number 64 w) session more.0;
    }

pub is_the_session : (session : ℕ) (ws : List Word) → AreSession session ws → is_session_line session ws ≡ true
is_the_session session ws is =
    let word = is.word in
    ap (is_session_line session) is.words
    ∙ ap (λ o. option_eq nat_eq o (Some session) && true) is.number
    ∙ ap (λ t. t && true) (same_itself session)

-- ---- steps

no_step : {P : Type 0} (ws : List Word) (step : Step) → step_of ws ≡ None → step_of ws ≡ Some step → P
no_step ws step none some = absurd (cc)

order_no_step : step_of (codes "%order" ∷ []) ≡ None
unfolding step_of step_named command_named short_command op_of
order_no_step = refl

session_no_step : (word : Word) → step_of (codes "%session" ∷ word ∷ []) ≡ None
unfolding step_of step_named command_named short_command op_of
session_no_step word = refl

pub step_no_order : (ws : List Word) (step : Step) → step_of ws ≡ Some step → is_only (codes "%order") ws ≡ false
step_no_order ws step h =
    false_from_ne_true (is_only (codes "%order") ws) λ is.
    no_step ws step (ap step_of (only_is (codes "%order") ws is) ∙ order_no_step) h

pub step_no_session : (session : ℕ) (ws : List Word) (step : Step) → step_of ws ≡ Some step → is_session_line session ws ≡ false
step_no_session session ws step h =
    false_from_ne_true (is_session_line session ws) λ is.
    let named = session_is session ws is in
    no_step ws step (ap step_of named.words ∙ session_no_step named.word) h

none_no_step : step_of [] ≡ None
unfolding step_of
none_no_step = refl

pub step_some : (ws : List Word) (step : Step) → step_of ws ≡ Some step → is_none_of ws ≡ false
step_some [] step h = no_step [] step none_no_step h
step_some (w ∷ ws) step h = refl

by_step : {B P : Type 0} (steps : List Step) (n : ℕ) (f : List Step → Result B JobFault) (b : B) (o : Option Step) →
    ((ok_or o (Line n) >>= λ step. Ok (steps ++ step ∷ [])) >>= f) ≡ Ok b →
    ((step : Step) → o ≡ Some step → f (steps ++ step ∷ []) ≡ Ok b → P)
    → P
by_step steps n f b None h said = not_err b (Line n) h
by_step steps n f b (Some step) h said = said step refl h

by_words : {B P : Type 0} (steps : List Step) (n : ℕ) (ws : List Word) (f : List Step → Result B JobFault) (b : B) (t : Bool) →
    ((if t then Ok steps else (ok_or (step_of ws) (Line n) >>= λ step. Ok (steps ++ step ∷ []))) >>= f) ≡ Ok b
    → (t ≡ true → f steps ≡ Ok b → P) → ((step : Step) → step_of ws ≡ Some step → f (steps ++ step ∷ []) ≡ Ok b → P) → P
by_words steps n ws f b true h blank said = blank refl h
by_words steps n ws f b false h blank said = by_step steps n f b (step_of ws) h said

-- what a line does to the steps so far
pub stepped : {B P : Type 0} (steps : List Step) (n : ℕ) (ws : List Word) (f : List Step → Result B JobFault) (b : B)
    → (steps_with steps n ws >>= f) ≡ Ok b → (ws ≡ [] → f steps ≡ Ok b → P)
    → ((step : Step) → step_of ws ≡ Some step → f (steps ++ step ∷ []) ≡ Ok b → P) → P
unfolding steps_with
stepped steps n ws f b h blank said = by_words steps n ws f b (is_none_of ws) h (λ e. blank (none_is ws e)) said

pub with_some : (steps : List Step) (n : ℕ) (ws : List Word) (step : Step) → step_of ws ≡ Some step
    → steps_with steps n ws ≡ Ok (steps ++ step ∷ [])
unfolding steps_with
with_some steps n ws step h =
    ap (λ t. if t then Ok steps else (ok_or (step_of ws) (Line n) >>= λ s. Ok (steps ++ s ∷ []))) (step_some ws step h)
    ∙ ap (λ o. ok_or o (Line n) >>= λ s. Ok (steps ++ s ∷ [])) h
