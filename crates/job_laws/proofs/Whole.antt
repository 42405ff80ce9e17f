-- A text is read as a job exactly where its lines are those of the job.
use Rattle.std.proofs.Common.{◌≡◌, ℕ, ◌≤◌, false, List, ◌∷◌, ◌++◌, length, refl, sym, ap, subst, ◌∙◌, arith}
use Rattle.std.specs.Prelude.{if◌then◌else◌, nat_lt, Ok, Err}
use Rattle.std.proofs.lemmas.Bool.Decides.{nat_tests}
use Rattle.job_text.specs.declared.job.JobFault.TheVariants.{Line as FaultLine}
use Rattle.job_text.specs.Text.{Place, sections_of, text_of}
use Rattle.job_text.specs.Job.{◌>>=◌, Sections, head_of, job_of, order_at, sections_at, sections_job}
use Rattle.job_text.specs.Jobs.{Job}
use Rattle.byte_io.specs.Lines.{lines}
use Rattle.job_laws.specs.JobLines.{IsJob}
use Rattle.job_laws.proofs.Choices.{bind_ok, choose, not_err, ok_same}
use Rattle.job_laws.proofs.Heads.{head_complete, head_sound, text_complete, text_sound}
use Rattle.job_laws.proofs.Orders.{begins_order, order_complete, order_sound}
use Rattle.job_laws.proofs.Sessions.{sections_complete, sections_sound}

job_from : (bytes : List ℕ) (head : Place) (sections : Sections) (order : List ℕ) → head_of 1 (lines bytes) ≡ Ok head →
    sections_at (sections_of head.0 head.1) ≡ Ok sections → order_at sections.0 sections.1 ≡ Ok order →
    IsJob bytes (record { cif = text_of head.1; scripts = sections.0; order = order })
job_from bytes head sections order first second third =
    let begins = head_sound 1 (lines bytes) head.0 head.1 first in
    let text = text_sound head.0 head.1 in
    let rest = sections_of head.0 head.1 in
    let read = sections_sound rest.0 rest.1 sections second in
    record {
      blanks = begins.blanks;
      head = begins.head;
      text = text.text;
      sections = rest.1;
      last = sections.1.1;
      parts = begins.parts ∙ ap (λ l. begins.blanks ++ (begins.head ∷ l)) text.parts;
      none = begins.none;
      names = begins.names;
      plain = text.plain;
      begins = text.begins;
      cif = text.same;
      sessions = read.sessions;
      ordered = order_sound sections.0 sections.1.0 sections.1.1 order read.ended third;
    }

sections_job_sound : (bytes : List ℕ) (job : Job) → sections_job bytes ≡ Ok job → IsJob bytes job
unfolding sections_job
sections_job_sound bytes job h =
    bind_ok (head_of 1 (lines bytes))
    (λ head. sections_at (sections_of head.0 head.1) >>= λ sections.
    order_at sections.0 sections.1 >>= λ order. Ok (record { cif = text_of head.1; scripts = sections.0; order = order })) job h
    (λ head first more.
    bind_ok (sections_at (sections_of head.0 head.1))
    (λ sections. order_at sections.0 sections.1 >>= λ order. Ok (record { cif = text_of head.1; scripts = sections.0; order = order }))
    job more
    (λ sections second left.
    bind_ok (order_at sections.0 sections.1) (λ order. Ok (record { cif = text_of head.1; scripts = sections.0; order = order })) job left
    (λ order third last.
    subst (IsJob bytes) (ok_same (record { cif = text_of head.1; scripts = sections.0; order = order }) job last)
    (job_from bytes head sections order first second third))))

-- the parts, read one after the other
read_so : (bytes : List ℕ) (head : Place) (sections : Sections) (order : List ℕ) (job : Job) → head_of 1 (lines bytes) ≡ Ok head →
    sections_at (sections_of head.0 head.1) ≡ Ok sections → order_at sections.0 sections.1 ≡ Ok order →
    text_of head.1 ≡ job.cif → sections.0 ≡ job.scripts → order ≡ job.order → sections_job bytes ≡ Ok job
unfolding sections_job
read_so bytes head sections order job first second third cif scripts same =
    ap (λ r. r >>= λ head. sections_at (sections_of head.0 head.1) >>= λ sections.
    order_at sections.0 sections.1 >>= λ order. Ok (record { cif = text_of head.1; scripts = sections.0; order = order })) first
    ∙ ap (λ r. r >>= λ sections. order_at sections.0 sections.1 >>= λ order.
    Ok (record { cif = text_of head.1; scripts = sections.0; order = order })) second
    ∙ ap (λ r. r >>= λ order. Ok (record { cif = text_of head.1; scripts = sections.0; order = order })) third
    ∙ ap (λ t. Ok (record { cif = t; scripts = sections.0; order = order })) cif
    ∙ ap (λ t. Ok (record { cif = job.cif; scripts = t; order = order })) scripts
    ∙ ap (λ t. Ok (record { cif = job.cif; scripts = job.scripts; order = t })) same

sections_job_complete : (bytes : List ℕ) (job : Job) → IsJob bytes job → sections_job bytes ≡ Ok job
sections_job_complete bytes job is =
    let others = is.text ++ is.sections in
    let head = head_complete 1 is.blanks is.head others is.none is.names in
    let text = text_complete head.0 is.text is.sections is.plain is.begins in
    let ends = begins_order job.scripts is.last job.order is.ordered in
    let read = sections_complete text.0 is.sections job.scripts is.last is.sessions ends in
    read_so bytes (head.0, others) (job.scripts, (read.0, is.last)) job.order job
    (ap (head_of 1) is.parts ∙ head.1) (ap sections_at text.1 ∙ read.1)
    (order_complete job.scripts read.0 is.last job.order is.ordered) (text.2 ∙ sym is.cif) refl refl

pub short : (n : ℕ) → n ≤ 16777216 → nat_lt 16777216 n ≡ false
short n h = grind (arith, nat_tests)

not_long : (n : ℕ) → nat_lt 16777216 n ≡ false → n ≤ 16777216
not_long n h = grind (arith, nat_tests)

pub jobs_read : (bytes : List ℕ) (job : Job) → length bytes ≤ 16777216 → IsJob bytes job → job_of bytes ≡ Ok job
unfolding job_of
jobs_read bytes job few is =
    ap (λ t. if t then Err (FaultLine 0) else sections_job bytes) (short (length bytes) few) ∙ sections_job_complete bytes job is

pub only_jobs_read : (bytes : List ℕ) (job : Job) → job_of bytes ≡ Ok job → (length bytes ≤ 16777216) × IsJob bytes job
unfolding job_of
only_jobs_read bytes job h =
    choose (nat_lt 16777216 (length bytes)) (Err (FaultLine 0)) (sections_job bytes) (Ok job) h
    (λ e refused. not_err job (FaultLine 0) refused)
    (λ e read. (not_long (length bytes) e, sections_job_sound bytes job read))
