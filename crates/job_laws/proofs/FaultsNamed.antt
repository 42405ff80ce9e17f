-- The line that a job's fault names is at fault.
use Rattle.std.proofs.Common.{
  ◌≡◌,
  ℕ,
  ◌+◌,
  ◌<◌,
  ◌≤◌,
  Bool,
  false,
  true,
  inl,
  inr,
  List,
  [],
  ◌∷◌,
  ◌++◌,
  length,
  refl,
  sym,
  ap,
  subst,
  ◌∙◌,
  arith,
}
use Rattle.std.specs.Prelude.{if◌then◌else◌, nat_lt, Option, None, Ok, Err, Some}
use Rattle.std.proofs.lemmas.Bool.Decides.{nat_tests}
use Rattle.session_steps.specs.declared.Step.{Step}
use Rattle.job_text.specs.declared.job.JobFault.TheVariants.{Line as FaultLine}
use Rattle.job_text.specs.Text.{Place, sections_of, text_of}
use Rattle.job_text.specs.Job.{
  ◌>>=◌,
  Sections,
  head_of,
  job_of,
  named_in,
  named_order,
  odd_line,
  order_at,
  order_fits,
  sections_at,
  sections_job,
  total_len,
  unless_odd,
}
use Rattle.job_text.specs.Jobs.{Job}
use Rattle.byte_io.specs.Lines.{lines}
use Rattle.job_laws.specs.JobLines.{AreCounted, JobLine}
use Rattle.job_laws.specs.Faults.{IsFaultAt, IsFirstOdd, IsWrongOrder}
use Rattle.job_laws.specs.Faults.IsFaultAt.{first_odd, no_words, too_long, wrong_order}
use Rattle.job_laws.specs.Faults.Stage.{Front, InText}
use Rattle.job_laws.proofs.Choices.{choose}
use Rattle.job_laws.proofs.FaultLines.{
  NamesFront,
  Reaches,
  all_counted,
  bind_err,
  err_same,
  head_odd,
  head_reaches,
  not_ok,
  odd_behind,
  odd_in_order,
  reach_joined,
  sections_odd,
  sections_reach,
  text_reaches,
}
use Rattle.job_laws.proofs.Heads.{head_complete, head_sound, text_complete, text_sound}
use Rattle.job_laws.proofs.Orders.{fits_complete, fits_sound}
use Rattle.job_laws.proofs.Sessions.{sections_complete, sections_sound}
use Rattle.job_laws.proofs.Whole.{short}

-- from the first line to the first section
to_sections : (bytes : List ℕ) (head : Place) → head_of 1 (lines bytes) ≡ Ok head
    → Reaches Front 1 (lines bytes) InText (sections_of head.0 head.1).0 (sections_of head.0 head.1).1
to_sections bytes head h =
    let rest = sections_of head.0 head.1 in
    reach_joined Front InText InText 1 (lines bytes) head.0 head.1 rest.0 rest.1 (head_reaches 1 (lines bytes) head.0 head.1 h)
    (text_reaches head.0 head.1)

-- the order is wrong, which begins with this line
wrong_at : (bytes : List ℕ) (head : Place) (sections : Sections) (n : ℕ) (line : JobLine) (body : List JobLine)
    → head_of 1 (lines bytes) ≡ Ok head → sections_at (sections_of head.0 head.1) ≡ Ok sections
    → sections.1 ≡ (n, line ∷ body) → order_fits sections.0 (named_in body) ≡ false → IsWrongOrder (lines bytes) n
wrong_at bytes head sections n line body first second is other =
    let begins = head_sound 1 (lines bytes) head.0 head.1 first in
    let text = text_sound head.0 head.1 in
    let rest = sections_of head.0 head.1 in
    let read = sections_sound rest.0 rest.1 sections second in
    let led = sections_reach rest.0 rest.1 sections text.begins second in
    let all = reach_joined Front InText led.stage 1 (lines bytes) rest.0 rest.1 sections.1.0 sections.1.1
    (to_sections bytes head first) led.reaches in
    let here = ap (λ p. p.1) is in
    record {
      blanks = begins.blanks;
      head = begins.head;
      text = text.text;
      sections = rest.1;
      scripts = sections.0;
      order = line;
      after = body;
      parts = begins.parts ∙ ap (λ l. begins.blanks ++ (begins.head ∷ l)) text.parts;
      none = begins.none;
      names = begins.names;
      plain = text.plain;
      begins = text.begins;
      sessions = rw here at read.sessions;
      ordered = rw here at read.ended;
      counted = counted (lines bytes) sections.1.0 n sections.1.1 line body (ap (λ p. p.0) is) here
          (all_counted Front led.stage 1 (lines bytes) sections.1.0 sections.1.1 all);
      wrong = λ many counted. no_fit (order_fits sections.0 (named_in body)) other (fits_complete sections.0 (named_in body) many counted);
    } where
      counted : (all : List JobLine) (m n : ℕ) (rest : List JobLine) (line : JobLine) (body : List JobLine) → m ≡ n → rest ≡ line ∷ body
          → m + length rest ≡ 1 + length all → n + length body ≡ length all
      counted all m n rest line body same is h = omega (arith, same, ap length is, h)

      no_fit : (b : Bool) → b ≡ false → b ≡ true → ⊥
      no_fit b first second = cc

-- a fault of the order
order_fault : (bytes : List ℕ) (head : Place) (sections : Sections) (k : ℕ) (last : Place) → sections.1 ≡ last
    → head_of 1 (lines bytes) ≡ Ok head → sections_at (sections_of head.0 head.1) ≡ Ok sections
    → order_at sections.0 last ≡ Err (FaultLine k) → IsFaultAt bytes k
unfolding order_at named_order
order_fault bytes head sections k (n, []) is first second h = not_ok _ (FaultLine k) h
order_fault bytes head sections k (n, line ∷ body) is first second h =
    choose (order_fits sections.0 (named_in body)) (unless_odd (odd_line (n + 1) body) (named_in body)) (Err (FaultLine n))
    (Err (FaultLine k)) h
    (λ fit same. first_odd (behind bytes head sections n line body k is first second (odd_of (odd_line (n + 1) body)
    (named_in body) k same)))
    (λ other refused.
    wrong_order (subst (IsWrongOrder (lines bytes)) (err_same n k refused)
    (wrong_at bytes head sections n line body first second is other))) where
      odd_of : (o : Option ℕ) (order : List ℕ) (k : ℕ) → unless_odd o order ≡ Err (FaultLine k) → o ≡ Some k
      odd_of None order k h = not_ok order (FaultLine k) h
      odd_of (Some m) order k h = ap Some (err_same m k h)

      behind : (bytes : List ℕ) (head : Place) (sections : Sections) (n : ℕ) (line : JobLine) (body : List JobLine) (k : ℕ)
          → sections.1 ≡ (n, line ∷ body) → head_of 1 (lines bytes) ≡ Ok head → sections_at (sections_of head.0 head.1) ≡ Ok sections
          → odd_line (n + 1) body ≡ Some k → IsFirstOdd Front 1 (lines bytes) k
      behind bytes head sections n line body k is first second odd =
          let text = text_sound head.0 head.1 in
          let rest = sections_of head.0 head.1 in
          let read = sections_sound rest.0 rest.1 sections second in
          let led = sections_reach rest.0 rest.1 sections text.begins second in
          let here = ap (λ p. p.1) is in
          let names = rw here at read.ended in
          let leads = led.order line body here names in
          let all = reach_joined Front InText led.stage 1 (lines bytes) rest.0 rest.1 sections.1.0 sections.1.1
          (to_sections bytes head first) led.reaches in
          odd_behind Front led.stage 1 (lines bytes) n (line ∷ body) k
          (subst (λ p. Reaches Front 1 (lines bytes) led.stage p.0 p.1) is all) (odd_in_order led.stage n line body k leads odd)

sections_fault : (bytes : List ℕ) (head : Place) (k : ℕ) → head_of 1 (lines bytes) ≡ Ok head
    → sections_at (sections_of head.0 head.1) ≡ Err (FaultLine k) → IsFirstOdd Front 1 (lines bytes) k
sections_fault bytes head k first second =
    let text = text_sound head.0 head.1 in
    let rest = sections_of head.0 head.1 in
    odd_behind Front InText 1 (lines bytes) rest.0 rest.1 k (to_sections bytes head first) (sections_odd rest.0 rest.1 k text.begins second)

front_fault : (bytes : List ℕ) (k : ℕ) → NamesFront 1 (lines bytes) k → IsFaultAt bytes k
front_fault bytes k (inl none) = no_words none.0 none.1
front_fault bytes k (inr odd) = first_odd odd

pub job_fault : (bytes : List ℕ) (k : ℕ) → sections_job bytes ≡ Err (FaultLine k) → IsFaultAt bytes k
unfolding sections_job
job_fault bytes k h =
    bind_err (head_of 1 (lines bytes))
    (λ head. sections_at (sections_of head.0 head.1) >>= λ sections.
    order_at sections.0 sections.1 >>= λ order. Ok (record { cif = text_of head.1; scripts = sections.0; order = order })) (FaultLine k) h
    (λ first. front_fault bytes k (head_odd 1 (lines bytes) k first))
    (λ head first more.
    bind_err (sections_at (sections_of head.0 head.1))
    (λ sections. order_at sections.0 sections.1 >>= λ order. Ok (record { cif = text_of head.1; scripts = sections.0; order = order }))
    (FaultLine k) more
    (λ second. first_odd (sections_fault bytes head k first second))
    (λ sections second left.
    bind_err (order_at sections.0 sections.1) (λ order. Ok (record { cif = text_of head.1; scripts = sections.0; order = order }))
    (FaultLine k) left
    (λ third. order_fault bytes head sections k sections.1 refl first second third)
    (λ order third last. not_ok (record { cif = text_of head.1; scripts = sections.0; order = order }) (FaultLine k) last)))

long : (n : ℕ) → nat_lt 16777216 n ≡ true → 16777216 < n
long n h = grind (arith, nat_tests)

pub faults_named : (bytes : List ℕ) (k : ℕ) → job_of bytes ≡ Err (FaultLine k) → IsFaultAt bytes k
unfolding job_of
faults_named bytes k h =
    choose (nat_lt 16777216 (length bytes)) (Err (FaultLine 0)) (sections_job bytes) (Err (FaultLine k)) h
    (λ e refused. too_long (long (length bytes) e) (sym (err_same {A = Job} 0 k refused)))
    (λ e read. job_fault bytes k read)

-- ---- and back: a wrong order is named

-- the parts, read one after the other
read_so : (bytes : List ℕ) (head : Place) (sections : Sections) (k : ℕ) → head_of 1 (lines bytes) ≡ Ok head
    → sections_at (sections_of head.0 head.1) ≡ Ok sections → order_at sections.0 sections.1 ≡ Err (FaultLine k)
    → sections_job bytes ≡ Err (FaultLine k)
unfolding sections_job
read_so bytes head sections k first second third =
    ap (λ r. r >>= λ head. sections_at (sections_of head.0 head.1) >>= λ sections.
    order_at sections.0 sections.1 >>= λ order. Ok (record { cif = text_of head.1; scripts = sections.0; order = order })) first
    ∙ ap (λ r. r >>= λ sections. order_at sections.0 sections.1 >>= λ order.
    Ok (record { cif = text_of head.1; scripts = sections.0; order = order })) second
    ∙ ap (λ r. r >>= λ order. Ok (record { cif = text_of head.1; scripts = sections.0; order = order })) third

by_fit : (scripts : List (List Step)) (order : List ℕ) (b : Bool) → order_fits scripts order ≡ b
    → (length order ≡ total_len scripts → AreCounted 1 scripts order → ⊥) → order_fits scripts order ≡ false
by_fit scripts order true e wrong =
    let fits = fits_sound scripts order e in
    absurd (wrong fits.0 fits.1)
by_fit scripts order false e wrong = e

order_wrong : (scripts : List (List Step)) (n : ℕ) (line : JobLine) (body : List JobLine)
    → (length (named_in body) ≡ total_len scripts → AreCounted 1 scripts (named_in body) → ⊥)
    → order_at scripts (n, line ∷ body) ≡ Err (FaultLine n)
unfolding order_at named_order
order_wrong scripts n line body wrong =
    ap (λ t. if t then unless_odd (odd_line (n + 1) body) (named_in body) else Err (FaultLine n))
    (by_fit scripts (named_in body) (order_fits scripts (named_in body)) refl wrong)

wrong_read : (bytes : List ℕ) (k : ℕ) → IsWrongOrder (lines bytes) k → sections_job bytes ≡ Err (FaultLine k)
wrong_read bytes k is =
    let others = is.text ++ is.sections in
    let last = is.order ∷ is.after in
    let head = head_complete 1 is.blanks is.head others is.none is.names in
    let first = ap (head_of 1) is.parts ∙ head.1 in
    let text = text_complete head.0 is.text is.sections is.plain is.begins in
    let read = sections_complete text.0 is.sections is.scripts last is.sessions is.ordered in
    let second = ap sections_at text.1 ∙ read.1 in
    let same : read.0 ≡ k = omega (arith, number bytes (head.0, others) (is.scripts, (read.0, last)) first second, is.counted) in
    read_so bytes (head.0, others) (is.scripts, (read.0, last)) k first second
    (order_wrong is.scripts read.0 is.order is.after is.wrong ∙ ap (λ n. Err (FaultLine n)) same) where
      number : (bytes : List ℕ) (head : Place) (sections : Sections) → head_of 1 (lines bytes) ≡ Ok head
          → sections_at (sections_of head.0 head.1) ≡ Ok sections → sections.1.0 + length sections.1.1 ≡ 1 + length (lines bytes)
      number bytes head sections first second =
          let text = text_sound head.0 head.1 in
          let rest = sections_of head.0 head.1 in
          let led = sections_reach rest.0 rest.1 sections text.begins second in
          all_counted Front led.stage 1 (lines bytes) sections.1.0 sections.1.1
          (reach_joined Front InText led.stage 1 (lines bytes) rest.0 rest.1 sections.1.0 sections.1.1
          (to_sections bytes head first) led.reaches)

pub wrong_named : (bytes : List ℕ) (k : ℕ) → length bytes ≤ 16777216 → IsWrongOrder (lines bytes) k → job_of bytes ≡ Err (FaultLine k)
unfolding job_of
wrong_named bytes k few is =
    ap (λ t. if t then Err (FaultLine 0) else sections_job bytes) (short (length bytes) few) ∙ wrong_read bytes k is
