-- Where a run stands after a line, and how it stops.
use Rattle.std.proofs.Common.{◌≡◌, ℕ, ◌+◌, ◌⊎◌, List, [], ◌∷◌, ◌++◌, length, Bool, true, false, Option, None, Some, Ok, Err}
use Rattle.std.proofs.Common.{inl, inr, refl, sym, ap, ◌∙◌, subst, append_assoc, append-nil}
use Rattle.std.specs.Prelude.{⊤, is_some}
use Rattle.std.specs.List.{concat}
use Rattle.std.proofs.KnownBytes.{Appends-nil}
use Rattle.byte_io.specs.Device.{WroteAll, WrotePrefix}
use Rattle.byte_io.proofs.BufferedLemmas.{WroteAll-then, WrotePrefix-behind}
use Rattle.cif_read.specs.declared.fault.CifFault.{CifFault}
use Rattle.cif_read.specs.Meaning.{IsMeaning}
use Rattle.job_text.specs.declared.job.JobFault.TheVariants.{Line}
use Rattle.job_text.specs.Job.{job_of}
use Rattle.live_run.specs.declared.showing.Showing.{Showing}
use Rattle.live_run.specs.Live.{LiveRun, after_line, after_lines, has_refused}
use Rattle.live_run.specs.declared.course.Course.{Course}
use Rattle.live_run.specs.declared.ending.LiveEnd.{LiveEnd}
use Rattle.live_run.specs.declared.ending.LiveEnd.TheVariants.{Cif, Device, Done, Job, Journal, Memory}
use Rattle.live_run.specs.Cif.{behind, cif_from, cif_of, is_live}
use Rattle.live_run.specs.Said.{
  AreAnswered,
  HaveRefused,
  IsClosing,
  IsFirstRun,
  IsNotedClosing,
  IsNotedWhole,
  IsSaid,
  IsSaidBehind,
  IsSaidText,
  first_run,
}
use Rattle.live_run.specs.Ending.{
  Does,
  HasCifFault,
  HasJobFault,
  IsStop,
  KeepsPart,
  Past,
  Tells,
  WritesPart,
  all_lines,
  no_past,
  whole_lines,
}
use Rattle.live_run.specs.Journal.{KeptText, KeptAll, KeptPart, kept_head, kept_in, kept_line}
use Rattle.live_run.specs.Course.{ClosesTo, HeadTo, FeedsTo, InHead, InSteps, LiveTo, Phase, RefusesHead, RunCloses, phase_of}
use Rattle.live_run.specs.Feed.{IsAt}
use Rattle.live_run.proofs.CifLemmas.{after_more, answers_more, before_all, before_at, behind_at, behind_none, cif_at, cif_more}
use Rattle.live_run.proofs.CifLemmas.{cif_none, concat_more}
use Rattle.live_run.proofs.CifLemmas.{behind_more, behind_other, length_more}
use Rattle.live_run.proofs.KeptLemmas.{kept_at, kept_more, kept_none, kept_nothing, kept_part_then, kept_then}

-- a run begins so behind more lines too
first_more : (showing : Showing) (seen fed more : List (List ℕ)) (first : LiveRun) → behind seen ≡ Some fed
    → IsFirstRun showing seen first → IsFirstRun showing (seen ++ more) first
first_more showing seen fed more first h (cif, file, is, means, same) = (cif, file, cif_more seen fed more h ∙ is, means, same)

-- these lines, and one that ends up among all lines or among the whole ones
abbrev pub Holds : Past → Type 0 → List ℕ → List (List ℕ) → List ℕ → Type 0
Holds past ended given seen line = (more : List (List ℕ))
    × ((seen ++ line ∷ more ≡ whole_lines past given) ⊎ (ended × (seen ++ line ∷ more ≡ all_lines past given)))

told_by : (past : Past) (ended : Type 0) (given : List ℕ) (seen : List (List ℕ)) (line : List ℕ) (more : List (List ℕ))
    → behind seen ≡ None → is_live line ≡ true
    → ((seen ++ line ∷ more ≡ whole_lines past given) ⊎ (ended × (seen ++ line ∷ more ≡ all_lines past given)))
    → Tells past given ended (seen ++ line ∷ more)
told_by past ended given seen line more none live (inl is) = inl (is, ap is_some (behind_at seen line more none live))
told_by past ended given seen line more none live (inr all) = inr all

-- where no run begins at a live line
pub refused_job : (seen : List (List ℕ)) (line head : List ℕ) (count n : ℕ) (text : List ℕ) (more : List (List ℕ)) → is_live line ≡ true
    → behind seen ≡ None → head ≡ concat seen → count ≡ length seen
    → cif_from (count + 1) true (job_of head) ≡ Err (Line n) → text ≡ head → HasJobFault (seen ++ line ∷ more) n text
refused_job seen line head count n text more live none joined counted fault is =
    let at : cif_of (seen ++ line ∷ more) ≡ cif_from (count + 1) true (job_of head) = cif_at seen line more none live
    ∙ ap (λ (k : ℕ). cif_from (k + 1) true (job_of (concat seen))) (sym counted)
    ∙ ap (λ (l : List ℕ). cif_from (count + 1) true (job_of l)) (sym joined) in
    (at ∙ fault, is ∙ joined ∙ ap concat (sym (before_at seen line more none live)))

pub refused_cif : (seen : List (List ℕ)) (line head : List ℕ) (count : ℕ) (fault : CifFault) (text : List ℕ) (more : List (List ℕ))
    → is_live line ≡ true → behind seen ≡ None → head ≡ concat seen → count ≡ length seen → (cif : List ℕ)
    → cif_from (count + 1) true (job_of head) ≡ Ok cif → IsMeaning cif (Err fault) → text ≡ head
    → HasCifFault (seen ++ line ∷ more) fault text
refused_cif seen line head count fault text more live none joined counted cif from means is =
    let at : cif_of (seen ++ line ∷ more) ≡ cif_from (count + 1) true (job_of head) = cif_at seen line more none live
    ∙ ap (λ (k : ℕ). cif_from (k + 1) true (job_of (concat seen))) (sym counted)
    ∙ ap (λ (l : List ℕ). cif_from (count + 1) true (job_of l)) (sym joined) in
    (cif, at ∙ from, means, is ∙ joined ∙ ap concat (sym (before_at seen line more none live)))

-- where none begins, since there is no live line
pub unopened_job : (seen : List (List ℕ)) (head : List ℕ) (count n : ℕ) (text : List ℕ) → behind seen ≡ None → head ≡ concat seen
    → count ≡ length seen → cif_from (count + 1) false (job_of head) ≡ Err (Line n) → text ≡ head → HasJobFault seen n text
unopened_job seen head count n text none joined counted fault is = (
  cif_none seen none ∙ ap (λ (k : ℕ). cif_from (k + 1) false (job_of (concat seen))) (sym counted)
      ∙ ap (λ (l : List ℕ). cif_from (count + 1) false (job_of l)) (sym joined) ∙ fault,
  is ∙ joined ∙ ap concat (sym (before_all seen none)),
)

pub unopened_cif : (seen : List (List ℕ)) (head : List ℕ) (count : ℕ) (fault : CifFault) (text : List ℕ) → behind seen ≡ None
    → head ≡ concat seen → count ≡ length seen → (cif : List ℕ) → cif_from (count + 1) false (job_of head) ≡ Ok cif
    → IsMeaning cif (Err fault) → text ≡ head → HasCifFault seen fault text
unopened_cif seen head count fault text none joined counted cif from means is = (
  cif,
  cif_none seen none ∙ ap (λ (k : ℕ). cif_from (k + 1) false (job_of (concat seen))) (sym counted)
      ∙ ap (λ (l : List ℕ). cif_from (count + 1) false (job_of l)) (sym joined) ∙ from,
  means,
  is ∙ joined ∙ ap concat (sym (before_all seen none)),
)

said_nothing : (showing : Showing) (seen : List (List ℕ)) → behind seen ≡ None → IsSaid showing seen []
said_nothing showing seen none = subst (λ rest. IsSaidBehind showing seen rest []) (sym none) refl

pub said_answers : (showing : Showing) (seen fed : List (List ℕ)) (first : LiveRun) (said : List ℕ) → behind seen ≡ Some fed
    → IsFirstRun showing seen first → AreAnswered first fed said → IsSaid showing seen said
said_answers showing seen fed first said h is are =
    subst (λ rest. IsSaidBehind showing seen rest said) (sym h) (first, is, are)

module _ {O J : Type 0} (showing : Showing) (written : O → Option (List ℕ)) (failures : O → ℕ) (kept : J → Option (List KeptText))
    (losses : J → ℕ) (past : Past)
  where
    wrote_none : (a b : O) → b ≡ a → WroteAll written failures a b []
    wrote_none a b same =
        subst (λ (o : O). WroteAll written failures a o []) (sym same) (record { all = Appends-nil (written a); unfailing = refl })

    -- ---- what was done, and more

    -- nothing was done by a run without a past
    pub does_none : (a b : O × J) → past ≡ no_past → b.0 ≡ a.0 → b.1 ≡ a.1 → Does written failures kept losses past a b [] []
    does_none a b fresh said same = (
      [],
      [],
      ap (λ (p : Past). p.said ++ []) fresh,
      ap (λ (p : Past). p.entries ++ []) fresh,
      wrote_none a.0 b.0 said,
      kept_nothing kept losses a.1 b.1 same,
    )

    does_then : (a b c : O × J) (s t : List ℕ) (e f : List KeptText) → Does written failures kept losses past a b s e
        → WroteAll written failures b.0 c.0 t → KeptAll kept losses b.1 c.1 f
        → Does written failures kept losses past a c (s ++ t) (e ++ f)
    does_then a b c s t e f (more, fresh, is, are, wrote, keeps) put keep = (
      more ++ t,
      fresh ++ f,
      sym (append_assoc past.said more t) ∙ ap (λ (l : List ℕ). l ++ t) is,
      sym (append_assoc past.entries fresh f) ∙ ap (λ (l : List KeptText). l ++ f) are,
      WroteAll-then wrote put,
      kept_then kept losses a.1 b.1 c.1 fresh f keeps keep,
    )

    part_then : (a b c : O × J) (s t : List ℕ) (e f : List KeptText) → Does written failures kept losses past a b s e
        → WrotePrefix written failures b.0 c.0 t → KeptAll kept losses b.1 c.1 f
        → WritesPart written failures kept losses past a c (s ++ t) (e ++ f)
    part_then a b c s t e f (more, fresh, is, are, wrote, keeps) put keep = (
      more ++ t,
      fresh ++ f,
      sym (append_assoc past.said more t) ∙ ap (λ (l : List ℕ). l ++ t) is,
      sym (append_assoc past.entries fresh f) ∙ ap (λ (l : List KeptText). l ++ f) are,
      WrotePrefix-behind wrote put,
      kept_then kept losses a.1 b.1 c.1 fresh f keeps keep,
    )

    lost_then : (a b c : O × J) (s : List ℕ) (e f : List KeptText) → Does written failures kept losses past a b s e
        → c.0 ≡ b.0 → KeptPart kept losses b.1 c.1 f → KeepsPart written failures kept losses past a c s (e ++ f)
    lost_then a b c s e f (more, fresh, is, are, wrote, keeps) same lost = (
      more,
      fresh ++ f,
      is,
      sym (append_assoc past.entries fresh f) ∙ ap (λ (l : List KeptText). l ++ f) are,
      subst (λ (o : O). WroteAll written failures a.0 o more) (sym same) wrote,
      kept_part_then kept losses a.1 b.1 c.1 fresh f keeps lost,
    )

    pub does_same : (a b c : O × J) (s : List ℕ) (e : List KeptText) → c.0 ≡ b.0 → c.1 ≡ b.1
        → Does written failures kept losses past a b s e → Does written failures kept losses past a c s e
    does_same a b c s e said same h =
        subst (λ (d : O × J). Does written failures kept losses past a d s e) (sym (λ i. (said i, same i))) h

    -- what was done where a run stands
    pub said_at : (base out : O × J) (seen : List (List ℕ)) (phase : Phase) → IsAt showing written failures kept losses past base out
        seen phase
        → (said : List ℕ) × IsSaid showing seen said × Does written failures kept losses past base out said (kept_in seen)
    said_at base out seen (InHead head count) (none, joined, counted, fresh, same) = (
      [],
      said_nothing showing seen none,
      subst (Does written failures kept losses past base out []) (sym (kept_none seen none))
          (does_none base out fresh (ap (λ (d : O × J). d.0) same) (ap (λ (d : O × J). d.1) same)),
    )
    said_at base out seen (InSteps run) (fed, first, h, is, ran, said, are, did) =
        (said, said_answers showing seen fed first said h is are, did)

    -- ---- a line is fed

    opened : (base out' : O × J) (seen : List (List ℕ)) (line head : List ℕ) (count : ℕ) (t : Bool) (course : Course) → is_live line ≡ t
        → behind seen ≡ None → head ≡ concat seen → count ≡ length seen → past ≡ no_past → out'.0 ≡ base.0
        → HeadTo showing kept losses base.1 out'.1 t head count line (Ok course)
        → IsAt showing written failures kept losses past base out' (seen ++ line ∷ []) (phase_of course)
    opened base out' seen line head count false course live none joined counted fresh said (is, same) =
        subst (IsAt showing written failures kept losses past base out' (seen ++ line ∷ [])) (sym is) (
          behind_none seen (line ∷ []) none ∙ behind_other line live,
          ap (λ (l : List ℕ). l ++ line) joined ∙ sym (concat_more seen line),
          ap (λ n. n + 1) counted ∙ sym (length_more seen line),
          fresh,
          λ i. (said i, same i),
        )
    opened base out' seen line head count true course live none joined counted fresh said
        (run, (cif, file, from, means, begins), is, keeps) =
        let from' : cif_from (length seen + 1) true (job_of (concat seen)) ≡ Ok cif =
        sym (ap (λ (n : ℕ). cif_from (n + 1) true (job_of (concat seen))) counted)
        ∙ sym (ap (λ (l : List ℕ). cif_from (count + 1) true (job_of l)) joined) ∙ from in
        let all : KeptAll kept losses base.1 out'.1 (kept_in (seen ++ line ∷ [])) =
        subst (KeptAll kept losses base.1 out'.1)
        (ap (λ (l : List ℕ). kept_head l line) joined ∙ sym (kept_at seen line none live)) keeps in
        subst (IsAt showing written failures kept losses past base out' (seen ++ line ∷ [])) (sym is) (
          [],
          first_run showing cif file,
          behind_at seen line [] none live,
          (cif, file, cif_at seen line [] none live ∙ from', means, refl),
          begins,
          [],
          refl,
          (
            [],
            kept_in (seen ++ line ∷ []),
            ap (λ (p : Past). p.said ++ []) fresh,
            ap (λ (p : Past). p.entries ++ kept_in (seen ++ line ∷ [])) fresh,
            wrote_none base.0 out'.0 said,
            all,
          ),
        )

    pub fed_line : (base out out' : O × J) (seen : List (List ℕ)) (line : List ℕ) (phase : Phase) (course : Course)
        → IsAt showing written failures kept losses past base out seen phase
        → FeedsTo showing written failures kept losses out out' phase line (Ok course)
        → IsAt showing written failures kept losses past base out' (seen ++ line ∷ []) (phase_of course)
    fed_line base out out' seen line (InHead head count) course (none, joined, counted, fresh, same) (still, to) =
        opened base out' seen line head count (is_live line) course refl none joined counted fresh
        (still ∙ ap (λ (d : O × J). d.0) same)
        (subst (λ (d : O × J). HeadTo showing kept losses d.1 out'.1 (is_live line) head count line (Ok course)) same to)
    fed_line base out out' seen line (InSteps run) course (fed, first, h, is, ran, said, are, did) (led, (text, so, put, keep)) =
        let took = after_line (after_lines first fed) line in
        let led' : phase_of course ≡ InSteps took.0 = led ∙ ap (λ (r : LiveRun). InSteps (after_line r line).0) ran in
        let so' : IsSaidText took text = subst (λ (r : LiveRun). IsSaidText (after_line r line) text) ran so in
        let did' = does_then base out out' said text (kept_in seen) (kept_line line) did put keep in
        subst (IsAt showing written failures kept losses past base out' (seen ++ line ∷ [])) (sym led') (
          fed ++ line ∷ [],
          first,
          behind_more seen fed (line ∷ []) h,
          first_more showing seen fed (line ∷ []) first h is,
          sym (after_more first fed line),
          said ++ text,
          answers_more first fed line said text are so',
          subst (Does written failures kept losses past base out' (said ++ text)) (sym (kept_more seen fed line h)) did',
        )

    -- ---- a run stops at a line

    -- a run that is refused memory has answered what it fed
    pub stops_memory : (ended : Type 0) (base out out' : O × J) (seen : List (List ℕ)) (phase : Phase) (given : List ℕ)
        (unseen : List (List ℕ))
        → all_lines past given ≡ seen ++ unseen → IsAt showing written failures kept losses past base out seen phase → out'.0 ≡ out.0
        → out'.1 ≡ out.1 → IsStop showing written failures kept losses past base out' given ended Memory
    stops_memory ended base out out' seen phase given unseen all at still same =
        let (said, is, did) = said_at base out seen phase at in
        (seen, unseen, said, sym all, is, does_same base out out' said (kept_in seen) still same did)

    -- a head that is refused at a live line
    refused : (ended : Type 0) (base out' : O × J) (seen : List (List ℕ)) (line head : List ℕ) (count : ℕ) (given : List ℕ)
        (unseen : List (List ℕ)) (end : LiveEnd) → all_lines past given ≡ seen ++ line ∷ unseen → Holds past ended given seen line
        → is_live line ≡ true
        → behind seen ≡ None → head ≡ concat seen → count ≡ length seen → past ≡ no_past → out'.0 ≡ base.0
        → LiveTo showing kept losses base.1 out'.1 head (count + 1) line (Err end)
        → IsStop showing written failures kept losses past base out' given ended end
    refused ended base out' seen line head count given unseen (Done any notes) all holds live none joined counted fresh said r = absurd r.0
    refused ended base out' seen line head count given unseen (Job n text) all (more, where_told) live none joined counted fresh said
        ((fault, is), same) = (
          seen ++ line ∷ more,
          told_by past ended given seen line more none live where_told,
          refused_job seen line head count n text.items more live none joined counted fault is,
          λ i. (said i, same i),
        )
    refused ended base out' seen line head count given unseen (Cif fault text) all (more, where_told) live none joined counted fresh said
        ((cif, from, means, is), same) = (
          seen ++ line ∷ more,
          told_by past ended given seen line more none live where_told,
          refused_cif seen line head count fault text.items more live none joined counted cif from means is,
          λ i. (said i, same i),
        )
    refused ended base out' seen line head count given unseen Device all holds live none joined counted fresh said r = absurd r.0
    refused ended base out' seen line head count given unseen Journal all holds live none joined counted fresh said r = (
      seen,
      unseen,
      line,
      [],
      sym all,
      said_nothing showing seen none,
      subst (KeepsPart written failures kept losses past base out' [])
          (ap (λ (l : List ℕ). kept_head l line) joined ∙ sym (kept_at seen line none live))
          (lost_then base base out' [] [] (kept_head head line) (does_none base base fresh refl refl) said r),
    )
    refused ended base out' seen line head count given unseen Memory all holds live none joined counted fresh said (r, same) = (
      seen,
      line ∷ unseen,
      [],
      sym all,
      said_nothing showing seen none,
      subst (Does written failures kept losses past base out' []) (sym (kept_none seen none)) (does_none base out' fresh said same),
    )

    head_stops : (ended : Type 0) (base out' : O × J) (seen : List (List ℕ)) (line head : List ℕ) (count : ℕ) (given : List ℕ)
        (unseen : List (List ℕ)) (t : Bool) (end : LiveEnd) → all_lines past given ≡ seen ++ line ∷ unseen
        → Holds past ended given seen line → is_live line ≡ t
        → behind seen ≡ None → head ≡ concat seen → count ≡ length seen → past ≡ no_past → out'.0 ≡ base.0
        → HeadTo showing kept losses base.1 out'.1 t head count line (Err end)
        → IsStop showing written failures kept losses past base out' given ended end
    head_stops ended base out' seen line head count given unseen false end all holds live none joined counted fresh said (is, same) =
        subst (IsStop showing written failures kept losses past base out' given ended) (sym is) (
          seen,
          line ∷ unseen,
          [],
          sym all,
          said_nothing showing seen none,
          subst (Does written failures kept losses past base out' []) (sym (kept_none seen none)) (does_none base out' fresh said same),
        )
    head_stops ended base out' seen line head count given unseen true end all holds live none joined counted fresh said r =
        refused ended base out' seen line head count given unseen end all holds live none joined counted fresh said r

    run_stops : (ended : Type 0) (base out out' : O × J) (seen : List (List ℕ)) (line : List ℕ) (run : LiveRun) (given : List ℕ)
        (unseen : List (List ℕ)) (end : LiveEnd) → all_lines past given ≡ seen ++ line ∷ unseen
        → IsAt showing written failures kept losses past base out seen (InSteps run)
        → FeedsTo showing written failures kept losses out out' (InSteps run) line (Err end)
        → IsStop showing written failures kept losses past base out' given ended end
    run_stops ended base out out' seen line run given unseen (Done any notes) all at r = absurd r
    run_stops ended base out out' seen line run given unseen (Job n text) all at r = absurd r
    run_stops ended base out out' seen line run given unseen (Cif fault text) all at r = absurd r
    run_stops ended base out out' seen line run given unseen Device all (fed, first, h, is, ran, said, are, did) (text, so, r, keep) =
        let so' : IsSaidText (after_line (after_lines first fed) line) text =
        subst (λ (r : LiveRun). IsSaidText (after_line r line) text) ran so in
        let did' = part_then base out out' said text (kept_in seen) (kept_line line) did r keep in (
          seen ++ line ∷ [],
          unseen,
          said ++ text,
          append_assoc seen (line ∷ []) unseen ∙ sym all,
          inl (said_answers showing (seen ++ line ∷ []) (fed ++ line ∷ []) first (said ++ text) (behind_more seen fed (line ∷ []) h)
              (first_more showing seen fed (line ∷ []) first h is) (answers_more first fed line said text are so')),
          subst (WritesPart written failures kept losses past base out' (said ++ text)) (sym (kept_more seen fed line h)) did',
        )
    run_stops ended base out out' seen line run given unseen Journal all (fed, first, h, is, ran, said, are, did) (still, lost) = (
      seen,
      unseen,
      line,
      said,
      sym all,
      said_answers showing seen fed first said h is are,
      subst (KeepsPart written failures kept losses past base out' said) (sym (kept_more seen fed line h))
          (lost_then base out out' said (kept_in seen) (kept_line line) did still lost),
    )
    run_stops ended base out out' seen line run given unseen Memory all at (still, same) =
        stops_memory ended base out out' seen (InSteps run) given (line ∷ unseen) all at still same

    pub stops_line : (ended : Type 0) (base out out' : O × J) (seen : List (List ℕ)) (line : List ℕ) (phase : Phase) (given : List ℕ)
        (unseen : List (List ℕ)) (end : LiveEnd) → all_lines past given ≡ seen ++ line ∷ unseen → Holds past ended given seen line
        → IsAt showing written failures kept losses past base out seen phase → FeedsTo showing written failures kept losses out out'
        phase line (Err end)
        → IsStop showing written failures kept losses past base out' given ended end
    stops_line ended base out out' seen line (InHead head count) given unseen end all holds (none, joined, counted, fresh, same)
        (still, to) =
        head_stops ended base out' seen line head count given unseen (is_live line) end all holds refl none joined counted fresh
        (still ∙ ap (λ (d : O × J). d.0) same)
        (subst (λ (d : O × J). HeadTo showing kept losses d.1 out'.1 (is_live line) head count line (Err end)) same to)
    stops_line ended base out out' seen line (InSteps run) given unseen end all holds at r =
        run_stops ended base out out' seen line run given unseen end all at r

    -- ---- a run ends with its input

    head_closes : (base out' : O × J) (seen : List (List ℕ)) (head : List ℕ) (count : ℕ) (given : List ℕ) (end : LiveEnd)
        → all_lines past given ≡ seen → behind seen ≡ None → head ≡ concat seen → count ≡ length seen → past ≡ no_past
        → out'.0 ≡ base.0 → out'.1 ≡ base.1 → RefusesHead false head (count + 1) end
        → IsStop showing written failures kept losses past base out' given ⊤ end
    head_closes base out' seen head count given (Done any notes) all none joined counted fresh said same r = absurd r
    head_closes base out' seen head count given (Job n text) all none joined counted fresh said same (fault, is) = (
      seen,
      inr (tt, sym all),
      unopened_job seen head count n text.items none joined counted fault is,
      λ i. (said i, same i),
    )
    head_closes base out' seen head count given (Cif fault text) all none joined counted fresh said same (cif, from, means, is) = (
      seen,
      inr (tt, sym all),
      unopened_cif seen head count fault text.items none joined counted cif from means is,
      λ i. (said i, same i),
    )
    head_closes base out' seen head count given Device all none joined counted fresh said same r = absurd r
    head_closes base out' seen head count given Journal all none joined counted fresh said same r = absurd r
    head_closes base out' seen head count given Memory all none joined counted fresh said same r = (
      seen,
      [],
      [],
      append-nil seen ∙ sym all,
      said_nothing showing seen none,
      subst (Does written failures kept losses past base out' []) (sym (kept_none seen none)) (does_none base out' fresh said same),
    )

    run_closes : (base out out' : O × J) (seen : List (List ℕ)) (run : LiveRun) (given : List ℕ) (end : LiveEnd)
        → all_lines past given ≡ seen → IsAt showing written failures kept losses past base out seen (InSteps run)
        → RunCloses written failures out.0 out'.0 run end → out'.1 ≡ out.1
        → IsStop showing written failures kept losses past base out' given ⊤ end
    run_closes base out out' seen run given (Done any notes) all (fed, first, h, is, ran, said, are, did) (last, so, put, flag) same =
        let so' : IsNotedClosing (after_lines first fed) notes last = subst (λ (r : LiveRun). IsNotedClosing r notes last) ran so in
        let did' = does_then base out out' said last (kept_in seen) [] did put (kept_nothing kept losses out.1 out'.1 same) in (
          tt,
          said ++ last,
          subst (λ (ls : List (List ℕ)). IsNotedWhole showing ls notes (said ++ last)) (sym all)
              (fed, first, h, is, said, last, are, so', refl),
          subst (λ (ls : List (List ℕ)). HaveRefused showing ls any) (sym all)
              (fed, first, h, is, flag ∙ ap has_refused ran),
          subst (Does written failures kept losses past base out' (said ++ last))
              (append-nil (kept_in seen) ∙ ap kept_in (sym all)) did',
        )
    run_closes base out out' seen run given (Job n text) all at r same = absurd r
    run_closes base out out' seen run given (Cif fault text) all at r same = absurd r
    run_closes base out out' seen run given Device all (fed, first, h, is, ran, said, are, did) (last, so, put) same =
        let so' : IsClosing (after_lines first fed) last = subst (λ (r : LiveRun). IsClosing r last) ran so in
        let did' = part_then base out out' said last (kept_in seen) [] did put (kept_nothing kept losses out.1 out'.1 same) in (
          seen,
          [],
          said ++ last,
          append-nil seen ∙ sym all,
          inr ((fed, first, h, is, said, last, are, so', refl), refl),
          subst (WritesPart written failures kept losses past base out' (said ++ last)) (append-nil (kept_in seen)) did',
        )
    run_closes base out out' seen run given Journal all at r same = absurd r
    run_closes base out out' seen run given Memory all at r same =
        stops_memory ⊤ base out out' seen (InSteps run) given [] (all ∙ sym (append-nil seen)) at r same

    pub closes : (base out out' : O × J) (seen : List (List ℕ)) (phase : Phase) (given : List ℕ) (end : LiveEnd)
        → all_lines past given ≡ seen → IsAt showing written failures kept losses past base out seen phase
        → ClosesTo written failures out.0 out'.0 phase end → out'.1 ≡ out.1
        → IsStop showing written failures kept losses past base out' given ⊤ end
    closes base out out' seen (InHead head count) given end all (none, joined, counted, fresh, is) (still, r) same =
        head_closes base out' seen head count given end all none joined counted fresh (still ∙ ap (λ (d : O × J). d.0) is)
        (same ∙ ap (λ (d : O × J). d.1) is) r
    closes base out out' seen (InSteps run) given end all at r same = run_closes base out out' seen run given end all at r same
