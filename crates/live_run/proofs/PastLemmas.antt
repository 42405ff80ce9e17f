-- Where a run begins behind the lines of its journal.
use Rattle.std.proofs.Common.{◌≡◌, ◌≢◌, ℕ, ◌+◌, List, [], ◌∷◌, true, false, Option, Some, Result}
use Rattle.std.proofs.Common.{Ok, Err, inl, inr, refl, sym, ap, ◌∙◌, subst}
use Rattle.std.proofs.Common.{append-nil, length}
use Rattle.std.proofs.lemmas.List.{nil_from_length}
use Rattle.std.proofs.KnownBytes.{Appends-nil}
use Rattle.std.specs.Prelude.{is_some}
use Rattle.byte_io.specs.Device.{WroteAll}
use Rattle.live_run.specs.declared.showing.Showing.{Showing}
use Rattle.live_run.specs.Live.{after_lines}
use Rattle.live_run.specs.declared.line_feed.LineFeed.{LineFeed}
use Rattle.live_run.specs.declared.ending.LiveEnd.{LiveEnd}
use Rattle.live_run.specs.declared.ending.LiveEnd.TheVariants.{Cif, Device, Done, Job, Journal, Memory}
use Rattle.live_run.specs.Cif.{behind, whole}
use Rattle.live_run.specs.Said.{IsSaid}
use Rattle.live_run.specs.Course.{InHead, InSteps, Phase, RefusesHead, phase_of}
use Rattle.live_run.specs.Devices.{Devices, Observed, devices}
use Rattle.live_run.specs.Ending.{HasCifFault, HasJobFault, IsJournaled, IsPast, IsStop, Past, Unbegun, can_begin, no_past}
use Rattle.live_run.specs.Feed.{BeginsBehind, BegunAt, BegunTo, EndTo, FedAll, Feeds, IsAt, StandsBehind}
use Rattle.live_run.specs.Journal.{KeptText, kept_in}
use Rattle.live_run.proofs.CutLemmas.{cut_none, cut_whole}
use Rattle.live_run.proofs.KeptLemmas.{kept_nothing}
use Rattle.live_run.proofs.RunLemmas.{feeds_none, run_ended}
use Rattle.live_run.proofs.StopLemmas.{said_answers, unopened_cif, unopened_job}

can_behind : (lines fed : List (List ℕ)) → behind lines ≡ Some fed → can_begin lines ≡ true
can_behind [] fed h = absurd (let e = h in cc)
can_behind (line ∷ lines) fed h = ap is_some h

past_of_none : (showing : Showing) (lines : List (List ℕ)) → lines ≡ [] → IsPast showing lines no_past
past_of_none showing lines none = record {
  lines = sym none;
  said = subst (λ (ls : List (List ℕ)). IsSaid showing ls []) (sym none) refl;
  entries = sym (ap kept_in none);
}

module _ {O J : Type 0} (showing : Showing) (written : O → Option (List ℕ)) (failures : O → ℕ) (kept : J → Option (List KeptText))
    (losses : J → ℕ) where
  -- a run behind the lines of its journal stands in front of the first byte of its input
  pub behind_journal : (lines : List (List ℕ)) (phase : Phase) (out : O × J) (line : List ℕ) → StandsBehind showing lines phase → line ≡ []
      → (past : Past) × (can_begin lines ≡ true) × IsPast showing lines past × Feeds showing written failures kept losses past out out []
      phase line
  behind_journal lines phase out line (inl (none, is)) empty = (
    no_past,
    ap can_begin none,
    past_of_none showing lines none,
    feeds_none showing written failures kept losses no_past out phase line refl is empty,
  )
  behind_journal lines phase out line (inr (fed, first, h, begun, is, said, are)) empty =
      let past : Past = record { lines = lines; said = said; entries = kept_in lines } in
      let wrote : WroteAll written failures out.0 out.0 [] = record { all = Appends-nil (written out.0); unfailing = refl } in
      let at : IsAt showing written failures kept losses past out out lines (InSteps (after_lines first fed)) = (
        fed,
        first,
        h,
        begun,
        refl,
        said,
        are,
        ([], [], append-nil said, append-nil (kept_in lines), wrote, kept_nothing kept losses out.1 out.1 refl),
      ) in (
        past,
        can_behind lines fed h,
        record { lines = refl; said = said_answers showing lines fed first said h begun are; entries = refl },
        subst (λ (p : Phase). Feeds showing written failures kept losses past out out [] p line) (sym is)
            (subst (λ (l : List ℕ). Feeds showing written failures kept losses past out out [] (InSteps (after_lines first fed)) l)
            (sym empty) (
              [],
              cut_none,
              subst (λ (ls : List (List ℕ)). IsAt showing written failures kept losses past out out ls
                  (InSteps (after_lines first fed))) (sym (append-nil lines)) at,
            )),
      )

  -- ---- the lines of a journal were fed

  stands : (base out : O × J) (seen : List (List ℕ)) (phase begun : Phase) → IsAt showing written failures kept losses no_past base out
      seen phase
      → BegunAt phase begun → StandsBehind showing seen begun
  stands base out seen (InHead head count) begun (none, joined, counted, fresh, same) (zero, is) =
      inl (nil_from_length seen (sym counted ∙ zero), is)
  stands base out seen (InSteps run) begun (fed, first, h, is, ran, said, are, did) same =
      inr (fed, first, h, is, same ∙ ap InSteps ran, said, are)

  unbegun : (base out : O × J) (seen : List (List ℕ)) (head : List ℕ) (count : ℕ) (end : LiveEnd)
      → IsAt showing written failures kept losses no_past base out seen (InHead head count) → count ≢ 0 → RefusesHead false head
      (count + 1) end
      → Unbegun seen end
  unbegun base out seen head count (Done refused notes) at some r = absurd r
  unbegun base out seen head count (Job n text) (none, joined, counted, fresh, same) some (fault, is) =
      (λ e. some (counted ∙ ap length e), unopened_job seen head count n text.items none joined counted fault is)
  unbegun base out seen head count (Cif fault text) (none, joined, counted, fresh, same) some (cif, from, means, is) =
      unopened_cif seen head count fault text.items none joined counted cif from means is
  unbegun base out seen head count Device at some r = absurd r
  unbegun base out seen head count Journal at some r = absurd r
  unbegun base out seen head count Memory at some r = tt

  pub begins : (base out : O × J) (journal : List ℕ) (line_feed : LineFeed) (result : Result LineFeed LiveEnd)
      → Feeds showing written failures kept losses no_past base out journal (phase_of line_feed.course) line_feed.line.items
      → BegunTo line_feed result → BeginsBehind showing journal result
  begins base out journal line_feed (Ok begun) (seen, cut, at) (to, empty) = (
    subst (λ (ls : List (List ℕ)). StandsBehind showing ls (phase_of begun.course)) (sym (cut_whole journal seen line_feed.line.items cut))
        (stands base out seen (phase_of line_feed.course) (phase_of begun.course) at to),
    empty,
  )
  begins base out journal line_feed (Err end) (seen, cut, at) (head, count, is, some, refuses) =
      subst (λ (ls : List (List ℕ)). Unbegun ls end) (sym (cut_whole journal seen line_feed.line.items cut))
      (unbegun base out seen head count end (subst (IsAt showing written failures kept losses no_past base out seen) is at) some refuses)

-- lines of which one is live are some
not_none : (told : List (List ℕ)) → is_some (behind told) ≡ true → told ≢ []
not_none [] some none = absurd (let e = some in cc)
not_none (line ∷ told) some none = absurd (let e = none in cc)

-- a run over devices that never fail stopped in the lines of its journal
pub stopped_in : {O J : Type 0} (showing : Showing) (written : O → Option (List ℕ)) (kept : J → Option (List KeptText))
    (base out : O × J) (journal : List ℕ)
    (end : LiveEnd) → IsStop showing written (λ d. 0) kept (λ d. 0) no_past base out journal ⊥ end → Unbegun (whole journal) end
stopped_in showing written kept base out journal (Done refused notes) stop = absurd stop.0
stopped_in showing written kept base out journal (Job n text) (told, inl (is, some), fault, same) =
    subst (λ (ls : List (List ℕ)). (ls ≢ []) × HasJobFault ls n text.items) is (not_none told some, fault)
stopped_in showing written kept base out journal (Job n text) (told, inr (ended, all), fault, same) = absurd ended
stopped_in showing written kept base out journal (Cif fault text) (told, inl (is, some), has, same) =
    subst (λ (ls : List (List ℕ)). HasCifFault ls fault text.items) is has
stopped_in showing written kept base out journal (Cif fault text) (told, inr (ended, all), has, same) = absurd ended
stopped_in showing written kept base out journal Device (seen, unseen, said, all, is, (more, fresh, a, b, part, keep)) =
    absurd (let none : 0 ≡ 1 = part.failed in cc)
stopped_in showing written kept base out journal Journal (seen, unseen, line, said, all, is, (more, fresh, a, b, wrote, part)) =
    absurd (let none : 0 ≡ 1 = part.failed in cc)
stopped_in showing written kept base out journal Memory stop = tt

module _ {I O J : Type 0} (showing : Showing) (observed : Observed I O J) where
  -- a run that began from its journal and stopped before its input ended
  pub journal_stopped : (journal : List ℕ) (line_feed : LineFeed) (before after : Devices I O J) (end : LiveEnd)
      → BeginsBehind showing journal (Ok line_feed) → FedAll showing observed line_feed before after (Err end)
      → IsJournaled showing observed journal before after end
  journal_stopped journal line_feed before after end (stands, empty) fed =
      let (past, can, is, feeds) =
      behind_journal showing observed.written observed.failures observed.kept observed.losses (whole journal) (phase_of line_feed.course)
      (before.out, before.journal) line_feed.line.items stands empty in
      let (given, gone, ends) = fed past feeds in
      record { by = inl (past, given, can, is, gone, ends) }

  -- a run that began from its journal, and whose input ended
  pub journal_ended : (journal : List ℕ) (line_feed last : LineFeed) (before mid : Devices I O J) (out : O) (book : J) (end : LiveEnd)
      → BeginsBehind showing journal (Ok line_feed) → FedAll showing observed line_feed before mid (Ok last)
      → EndTo showing observed.written observed.failures observed.kept observed.losses (mid.out, mid.journal) (out, book) last end
      → IsJournaled showing observed journal before (devices mid.input out book) end
  journal_ended journal line_feed last before mid out book end (stands, empty) (given, gone, ended, to) closes =
      let (past, can, is, feeds) =
      behind_journal showing observed.written observed.failures observed.kept observed.losses (whole journal) (phase_of line_feed.course)
      (before.out, before.journal) line_feed.line.items stands empty in
      let stop = closes past (before.out, before.journal) given (to past (before.out, before.journal) [] feeds) in
      record {
        by = inl (
          past,
          given,
          can,
          is,
          gone,
          run_ended showing observed.written observed.failures observed.kept observed.losses past observed.counts before.input mid.input
              (before.out, before.journal) (out, book) given end ended stop,
        );
      }

  -- no run began
  pub journal_unbegun : (journal : List ℕ) (before : Devices I O J) (end : LiveEnd) → BeginsBehind showing journal (Err end)
      → IsJournaled showing observed journal before before end
  journal_unbegun journal before end un = record { by = inr (un, refl) }
