-- The lines in front of the live line, and those behind it, as lines come.
use Rattle.std.proofs.Common.{◌≡◌, ℕ, ◌+◌, List, [], ◌∷◌, ◌++◌, length, Bool, true, false, cond, Option, None, Some, refl, sym, ap, ◌∙◌}
use Rattle.std.proofs.Common.{append_assoc, append-nil}
use Rattle.std.specs.Prelude.{is_some, Result}
use Rattle.std.proofs.Common.{length-append}
use Rattle.std.specs.List.{concat}
use Rattle.job_text.specs.declared.job.JobFault.{JobFault}
use Rattle.job_text.specs.Job.{job_of}
use Rattle.live_run.specs.Live.{LiveRun, after_line, after_lines}
use Rattle.live_run.specs.Cif.{before, behind, cif_from, cif_of, is_live}
use Rattle.live_run.specs.Said.{AreAnswered, IsSaidText}

no_live : (t : Bool) (lines : List (List ℕ)) (rest : Option (List (List ℕ))) → cond t (Some lines) rest ≡ None → (t ≡ false) × (rest ≡ None)
no_live true lines rest h = absurd (let e = h in cc)
no_live false lines rest h = (refl, h)

-- ---- no line is live

pub before_none : (seen more : List (List ℕ)) → behind seen ≡ None → before (seen ++ more) ≡ seen ++ before more
before_none [] more h = refl
before_none (line ∷ seen) more h =
    let (other, rest) = no_live (is_live line) seen (behind seen) h in
    ap (λ (t : Bool). cond t [] (line ∷ before (seen ++ more))) other ∙ ap (λ (ls : List (List ℕ)). line ∷ ls) (before_none seen more rest)

pub behind_none : (seen more : List (List ℕ)) → behind seen ≡ None → behind (seen ++ more) ≡ behind more
behind_none [] more h = refl
behind_none (line ∷ seen) more h =
    let (other, rest) = no_live (is_live line) seen (behind seen) h in
    ap (λ (t : Bool). cond t (Some (seen ++ more)) (behind (seen ++ more))) other ∙ behind_none seen more rest

-- ---- one is

pub before_live : (line : List ℕ) (more : List (List ℕ)) → is_live line ≡ true → before (line ∷ more) ≡ []
before_live line more is = ap (λ (t : Bool). cond t [] (line ∷ before more)) is

pub behind_live : (line : List ℕ) (more : List (List ℕ)) → is_live line ≡ true → behind (line ∷ more) ≡ Some more
behind_live line more is = ap (λ (t : Bool). cond t (Some more) (behind more)) is

abbrev Goes : List (List ℕ) → List (List ℕ) → List (List ℕ) → Type 0
Goes seen fed more = (before (seen ++ more) ≡ before seen) × (behind (seen ++ more) ≡ Some (fed ++ more))

goes_by : (t : Bool) (line : List ℕ) (seen fed more : List (List ℕ)) → (behind seen ≡ Some fed → Goes seen fed more)
    → cond t (Some seen) (behind seen) ≡ Some fed
    → (cond t [] (line ∷ before (seen ++ more)) ≡ cond t [] (line ∷ before seen))
    × (cond t (Some (seen ++ more)) (behind (seen ++ more)) ≡ Some (fed ++ more))
goes_by true line seen fed more on h = (refl, let e : seen ≡ fed = cc in ap (λ (ls : List (List ℕ)). Some (ls ++ more)) e)
goes_by false line seen fed more on h = let (front, back) = on h in (ap (λ (ls : List (List ℕ)). line ∷ ls) front, back)

pub goes_on : (seen fed more : List (List ℕ)) → behind seen ≡ Some fed → Goes seen fed more
goes_on [] fed more h = absurd (let e = h in cc)
goes_on (line ∷ seen) fed more h = goes_by (is_live line) line seen fed more (goes_on seen fed more) h

-- ---- the CIF text

abbrev cif_by : List (List ℕ) → Option (List (List ℕ)) → Result (List ℕ) JobFault
cif_by front rest = cif_from (length front + 1) (is_some rest) (job_of (concat front))

pub cif_more : (seen fed more : List (List ℕ)) → behind seen ≡ Some fed → cif_of (seen ++ more) ≡ cif_of seen
cif_more seen fed more h =
    let (front, back) = goes_on seen fed more h in
    ap (λ (ls : List (List ℕ)). cif_by ls (behind (seen ++ more))) front ∙ ap (cif_by (before seen)) back
    ∙ sym (ap (cif_by (before seen)) h)

pub before_at : (seen : List (List ℕ)) (line : List ℕ) (more : List (List ℕ)) → behind seen ≡ None → is_live line ≡ true
    → before (seen ++ line ∷ more) ≡ seen
before_at seen line more h is =
    before_none seen (line ∷ more) h ∙ ap (λ (ls : List (List ℕ)). seen ++ ls) (before_live line more is) ∙ append-nil seen

pub behind_at : (seen : List (List ℕ)) (line : List ℕ) (more : List (List ℕ)) → behind seen ≡ None → is_live line ≡ true
    → behind (seen ++ line ∷ more) ≡ Some more
behind_at seen line more h is = behind_none seen (line ∷ more) h ∙ behind_live line more is

pub cif_at : (seen : List (List ℕ)) (line : List ℕ) (more : List (List ℕ)) → behind seen ≡ None → is_live line ≡ true
    → cif_of (seen ++ line ∷ more) ≡ cif_from (length seen + 1) true (job_of (concat seen))
cif_at seen line more h is =
    ap (λ (ls : List (List ℕ)). cif_by ls (behind (seen ++ line ∷ more))) (before_at seen line more h is)
    ∙ ap (cif_by seen) (behind_at seen line more h is)

pub before_all : (seen : List (List ℕ)) → behind seen ≡ None → before seen ≡ seen
before_all seen h = ap before (sym (append-nil seen)) ∙ before_none seen [] h ∙ append-nil seen

pub cif_none : (seen : List (List ℕ)) → behind seen ≡ None → cif_of seen ≡ cif_from (length seen + 1) false (job_of (concat seen))
cif_none seen h = ap (λ (ls : List (List ℕ)). cif_by ls (behind seen)) (before_all seen h) ∙ ap (cif_by seen) h

-- ---- what is said

pub after_more : (run : LiveRun) (fed : List (List ℕ)) (line : List ℕ)
    → after_lines run (fed ++ line ∷ []) ≡ (after_line (after_lines run fed) line).0
after_more run [] line = refl
after_more run (first ∷ fed) line = after_more (after_line run first).0 fed line

pub answers_more : (run : LiveRun) (fed : List (List ℕ)) (line said more : List ℕ) → AreAnswered run fed said
    → IsSaidText (after_line (after_lines run fed) line) more → AreAnswered run (fed ++ line ∷ []) (said ++ more)
answers_more run [] line said more none is = (more, [], is, refl, ap (λ (l : List ℕ). l ++ more) none ∙ sym (append-nil more))
answers_more run (first ∷ fed) line said more (one, rest, so, are, joined) is = (
  one,
  rest ++ more,
  so,
  answers_more (after_line run first).0 fed line rest more are is,
  ap (λ (l : List ℕ). l ++ more) joined ∙ append_assoc one rest more,
)

pub concat_more : (seen : List (List ℕ)) (line : List ℕ) → concat (seen ++ line ∷ []) ≡ concat seen ++ line
concat_more [] line = append-nil line
concat_more (first ∷ seen) line = ap (λ (l : List ℕ). first ++ l) (concat_more seen line) ∙ sym (append_assoc first (concat seen) line)

pub length_more : (seen : List (List ℕ)) (line : List ℕ) → length (seen ++ line ∷ []) ≡ length seen + 1
length_more seen line = length-append seen (line ∷ [])

pub behind_other : (line : List ℕ) → is_live line ≡ false → behind (line ∷ []) ≡ None
behind_other line is = ap (λ (t : Bool). cond {A = Option (List (List ℕ))} t (Some []) None) is

pub behind_more : (seen fed more : List (List ℕ)) → behind seen ≡ Some fed → behind (seen ++ more) ≡ Some (fed ++ more)
behind_more seen fed more h = (goes_on seen fed more h).1
