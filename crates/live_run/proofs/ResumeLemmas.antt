-- The lines of a journal, and where they lead.
use Rattle.std.proofs.Common.{
  ◌≡◌,
  ℕ,
  ◌+◌,
  List,
  [],
  ◌∷◌,
  ◌++◌,
  length,
  Bool,
  true,
  false,
  cond,
  Option,
  None,
  Some,
  refl,
  sym,
  ap,
  ◌∙◌,
  subst,
}
use Rattle.std.proofs.Common.{append_assoc, append-nil, slice_index, slice_set}
use Rattle.std.specs.Prelude.{filter, is_some}
use Rattle.std.specs.List.{concat, list_all}
use Rattle.session_steps.specs.declared.Step.{Step as StepOf}
use Rattle.session_core.specs.Machine.{State, step_outcome}
use Rattle.job_text.specs.declared.live.LiveLine.{LiveLine}
use Rattle.job_text.specs.declared.live.LiveLine.TheVariants.{Ask, Blank, Unknown, Step, Write}
use Rattle.job_text.specs.Job.{job_of}
use Rattle.job_text.specs.Live.{live_line}
use Rattle.job_text.specs.Words.{words_of}
use Rattle.live_run.specs.Cif.{before, behind, cif_from, cif_of, is_ended, is_live, whole}
use Rattle.live_run.specs.Feed.{is_not_newline}
use Rattle.live_run.specs.Journal.{KeptText, bytes_of, as_line, entries_by, kept_since, kept_in, kept_lines, keeping_of, first_live}
use Rattle.live_run.specs.Laws.{AreWholeLines, IsWholeLine, JournalsResume, SameSteps}
use Rattle.live_run.specs.Live.{LiveRun, after_line, after_lines, after_step, answered, one_more}
use Rattle.live_run.specs.Said.{IsFirstRun}
use Rattle.live_run.proofs.CifLemmas.{behind_at, cif_at}
use Rattle.live_run.proofs.CutLemmas.{ended_line, no_whole, with_newline}

-- ---- the lines of bytes

ended_same : (text : List ℕ) → is_ended text ≡ true → as_line text ≡ text
ended_same [] h = refl
ended_same (b ∷ text) h = ap (λ (t : Bool). cond t (b ∷ text) ((b ∷ text) ++ 10 ∷ [])) h

line_same : (line : List ℕ) → IsWholeLine line → as_line line ≡ line
line_same line (body, inside, is) =
    ended_same line (subst (λ (l : List ℕ). is_ended l ≡ true) (sym is) (with_newline body))

-- lines end with the newline of the last
abbrev Last : List ℕ → Type 0
Last text = (body : List ℕ) × (text ≡ body ++ 10 ∷ [])

last_of : (line : List ℕ) (more : List (List ℕ)) → IsWholeLine line → AreWholeLines more → Last (line ++ concat more)
last_of line [] (body, inside, is) all = (body, append-nil line ∙ is)
last_of line (next ∷ more) is (first, rest) =
    let (body, ends) = last_of next more first rest in
    (line ++ body, ap (λ (l : List ℕ). line ++ l) ends ∙ sym (append_assoc line body (10 ∷ [])))

lines_same : (front : List (List ℕ)) → AreWholeLines front → as_line (concat front) ≡ concat front
lines_same [] all = refl
lines_same (line ∷ front) (is, all) =
    let (body, ends) = last_of line front is all in
    ended_same (line ++ concat front) (subst (λ (l : List ℕ). is_ended l ≡ true) (sym ends) (with_newline body))

whole_by : (line rest : List ℕ) → IsWholeLine line → whole (line ++ rest) ≡ line ∷ whole rest
whole_by line rest (body, inside, is) =
    ap (λ (l : List ℕ). whole (l ++ rest)) is ∙ ap whole (append_assoc body (10 ∷ []) rest)
    ∙ ap (filter is_ended) (ended_line body rest inside)
    ∙ ap (λ (t : Bool). cond t ((body ++ 10 ∷ []) ∷ whole rest) (whole rest)) (with_newline body)
    ∙ ap (λ (l : List ℕ). l ∷ whole rest) (sym is)

whole_concat : (all : List (List ℕ)) (cut : List ℕ) → AreWholeLines all → list_all is_not_newline cut ≡ true → whole (concat all ++ cut)
    ≡ all
whole_concat [] cut are inside = no_whole cut inside
whole_concat (line ∷ all) cut (is, are) inside =
    ap whole (append_assoc line (concat all) cut) ∙ whole_by line (concat all ++ cut) is
    ∙ ap (λ (ls : List (List ℕ)). line ∷ ls) (whole_concat all cut are inside)

concat_two : (front back : List (List ℕ)) → concat (front ++ back) ≡ concat front ++ concat back
concat_two [] back = refl
concat_two (line ∷ front) back =
    ap (λ (l : List ℕ). line ++ l) (concat_two front back) ∙ sym (append_assoc line (concat front) (concat back))

lines_two : (front back : List (List ℕ)) → AreWholeLines front → AreWholeLines back → AreWholeLines (front ++ back)
lines_two [] back all more = more
lines_two (line ∷ front) back (is, all) more = (is, lines_two front back all more)

-- ---- the parts of lines

record Parts (all fed : List (List ℕ)) : Type 0 where
  front : AreWholeLines (before all)
  at : IsWholeLine (first_live all)
  back : AreWholeLines fed
  live : is_live (first_live all) ≡ true
  none : behind (before all) ≡ None

parts_by : (t : Bool) (line : List ℕ) (all fed : List (List ℕ)) → is_live line ≡ t → IsWholeLine line → AreWholeLines all
    → (behind all ≡ Some fed → Parts all fed) → cond t (Some all) (behind all) ≡ Some fed
    → AreWholeLines (cond t [] (line ∷ before all)) × IsWholeLine (cond t line (first_live all)) × AreWholeLines fed
    × (is_live (cond t line (first_live all)) ≡ true) × (behind (cond t [] (line ∷ before all)) ≡ None)
parts_by true line all fed is one are on h =
    let same : all ≡ fed = cc in
    (tt, one, subst AreWholeLines same are, is, refl)
parts_by false line all fed is one are on h =
    let p = on h in (
      (one, p.front),
      p.at,
      p.back,
      p.live,
      ap (λ (t : Bool). cond t (Some (before all)) (behind (before all))) is ∙ p.none,
    )

parts_of : (all fed : List (List ℕ)) → AreWholeLines all → behind all ≡ Some fed → Parts all fed
parts_of [] fed are h = absurd (let e = h in cc)
parts_of (line ∷ all) fed (one, are) h =
    let (front, at, back, live, none) = parts_by (is_live line) line all fed refl one are (parts_of all fed are) h in
    record { front = front; at = at; back = back; live = live; none = none }

-- ---- the lines that are kept

abbrev kept_by : Option Bool → List ℕ → List (List ℕ)
kept_by None line = []
kept_by (Some flushed) line = line ∷ []

abbrev stepping : List (List ℕ) → List (List ℕ)
stepping [] = []
stepping (line ∷ more) = kept_by (keeping_of (live_line (words_of line))) line ++ stepping more

bytes_two : (es fs : List KeptText) → bytes_of (es ++ fs) ≡ bytes_of es ++ bytes_of fs
bytes_two [] fs = refl
bytes_two (e ∷ es) fs = ap (λ (l : List ℕ). e.0 ++ l) (bytes_two es fs) ∙ sym (append_assoc e.0 (bytes_of es) (bytes_of fs))

entry_bytes : (keeping : Option Bool) (line : List ℕ) → IsWholeLine line → bytes_of (entries_by keeping line)
    ≡ concat (kept_by keeping line)
entry_bytes None line is = refl
entry_bytes (Some flushed) line is = ap (λ (l : List ℕ). l ++ []) (line_same line is)

kept_are : (keeping : Option Bool) (line : List ℕ) → IsWholeLine line → AreWholeLines (kept_by keeping line)
kept_are None line is = tt
kept_are (Some flushed) line is = (is, tt)

stepping_bytes : (fed : List (List ℕ)) → AreWholeLines fed → bytes_of (kept_lines fed) ≡ concat (stepping fed)
stepping_bytes [] all = refl
stepping_bytes (line ∷ fed) (is, all) =
    let keeping = keeping_of (live_line (words_of line)) in
    bytes_two (entries_by keeping line) (kept_lines fed)
    ∙ ap (λ (l : List ℕ). l ++ bytes_of (kept_lines fed)) (entry_bytes keeping line is)
    ∙ ap (λ (l : List ℕ). concat (kept_by keeping line) ++ l) (stepping_bytes fed all)
    ∙ sym (concat_two (kept_by keeping line) (stepping fed))

stepping_are : (fed : List (List ℕ)) → AreWholeLines fed → AreWholeLines (stepping fed)
stepping_are [] all = tt
stepping_are (line ∷ fed) (is, all) =
    let keeping = keeping_of (live_line (words_of line)) in
    lines_two (kept_by keeping line) (stepping fed) (kept_are keeping line is) (stepping_are fed all)

-- ---- where they lead

Alike : List (List ℕ) → Type 0
Alike fed = (a b : LiveRun) → SameSteps a b → SameSteps (after_lines a (stepping fed)) (after_lines b fed)

step_alike : (a b : LiveRun) (session : ℕ) (step : StepOf) → SameSteps a b
    → SameSteps (after_step a session step).0 (after_step b session step).0
step_alike a b session step h = record {
  state = ap (λ (s : State). (step_outcome s session step).1) h.state;
  sessions = ap (λ (l : List ℕ). l ++ session ∷ []) h.sessions;
  replies = ap (λ l. l ++ (step_outcome a.state session step).0 ∷ []) h.replies
      ∙ ap (λ (s : State). b.replies ++ (step_outcome s session step).0 ∷ []) h.state;
  taken = ap (λ (l : List ℕ). slice_set l session (slice_index l session + 1)) h.taken;
}

alike_on : (said : LiveLine) (line : List ℕ) (fed : List (List ℕ)) (a b : LiveRun) → live_line (words_of line) ≡ said → Alike fed
    → SameSteps a b → SameSteps (after_lines a (kept_by (keeping_of said) line ++ stepping fed)) (after_lines (answered b said).0 fed)
unfolding Alike after_line
alike_on Blank line fed a b is on h =
    on a (one_more b) (record { state = h.state; sessions = h.sessions; replies = h.replies; taken = h.taken })
alike_on (Step session step) line fed a b is on h =
    subst (λ (r : LiveRun). SameSteps (after_lines r (stepping fed)) (after_lines (after_step b session step).0 fed))
    (sym (ap (λ (s : LiveLine). (answered a s).0) is))
    (on (after_step a session step).0 (after_step b session step).0 (step_alike a b session step h))
alike_on Write line fed a b is on h =
    on a (one_more b) (record { state = h.state; sessions = h.sessions; replies = h.replies; taken = h.taken })
alike_on (Ask question) line fed a b is on h =
    on a (one_more b) (record { state = h.state; sessions = h.sessions; replies = h.replies; taken = h.taken })
alike_on Unknown line fed a b is on h =
    on a (one_more b) (record { state = h.state; sessions = h.sessions; replies = h.replies; taken = h.taken })

alike : (fed : List (List ℕ)) → Alike fed
unfolding Alike after_line
alike [] a b h = h
alike (line ∷ fed) a b h = alike_on (live_line (words_of line)) line fed a b refl (alike fed) h

-- ---- the law

pub journals_lead : JournalsResume
unfolding Alike
journals_lead showing all fed first cut are h (cif, file, is, means, begun) inside =
    let p = parts_of all fed are h in
    let front = before all in
    let line = first_live all in
    let kept = front ++ line ∷ stepping fed in
    let same : bytes_of (kept_in all) ≡ concat kept =
    ap (λ rest. bytes_of (kept_since all rest)) h
    ∙ ap (λ (l : List ℕ). l ++ (as_line line ++ bytes_of (kept_lines fed))) (lines_same front p.front)
    ∙ ap (λ (l : List ℕ). concat front ++ (l ++ bytes_of (kept_lines fed))) (line_same line p.at)
    ∙ ap (λ (l : List ℕ). concat front ++ (line ++ l)) (stepping_bytes fed p.back)
    ∙ sym (concat_two front (line ∷ stepping fed)) in
    let lines_are : AreWholeLines kept = lines_two front (line ∷ stepping fed) p.front (p.at, stepping_are fed p.back) in
    let wholes : whole (bytes_of (kept_in all) ++ cut) ≡ kept =
    ap (λ (l : List ℕ). whole (l ++ cut)) same ∙ whole_concat kept cut lines_are inside in
    let text : cif_of kept ≡ cif_of all = cif_at front line (stepping fed) p.none p.live
    ∙ ap (λ rest. cif_from (length front + 1) (is_some rest) (job_of (concat front))) (sym h) in (
      stepping fed,
      ap behind wholes ∙ behind_at front line (stepping fed) p.none p.live,
      subst (λ (ls : List (List ℕ)). IsFirstRun showing ls first) (sym wholes) (cif, file, text ∙ is, means, begun),
      alike fed first first (record { state = refl; sessions = refl; replies = refl; taken = refl }),
    )
