-- How a live run ends.
use Rattle.std.specs.Prelude.{◌≡◌, ◌≢◌, ℕ, ◌+◌, ◌⊎◌, ⊤, List, [], ◌∷◌, ◌++◌, Bool, true, Option, None, is_some, Ok, Err}
use Rattle.std.specs.List.{concat}
use Rattle.std.specs.Io.KnownBytes.{Consumes}
use Rattle.byte_io.specs.Device.{WroteAll, WrotePrefix}
use Rattle.byte_io.specs.Input.{Counts}
use Rattle.cif_read.specs.declared.fault.CifFault.{CifFault}
use Rattle.cif_read.specs.Meaning.{IsMeaning}
use Rattle.job_text.specs.declared.job.JobFault.TheVariants.{Line}
use Rattle.byte_io.specs.Lines.{lines}
use Rattle.live_run.specs.declared.ending.LiveEnd.{LiveEnd}
use Rattle.live_run.specs.declared.ending.LiveEnd.TheVariants.{Cif, Device, Done, Job, Journal, Memory}
use Rattle.live_run.specs.declared.journal.NoJournal.{NoJournal}
use Rattle.live_run.specs.declared.showing.Showing.{Showing}
use Rattle.live_run.specs.Cif.{before, behind, cif_of, whole}
use Rattle.live_run.specs.Devices.{Devices, Observed, devices, observed_by}
use Rattle.live_run.specs.Journal.{KeptText, KeptAll, KeptPart, kept_in}
use Rattle.live_run.specs.Said.{HaveRefused, IsNotedWhole, IsSaid, IsWhole}

-- the input came to its end, and didn't fail
abbrev pub IsEnded : Counts → Counts → Type 0
IsEnded old new = (new.ends ≡ old.ends + 1) × (new.failures ≡ old.failures)

-- the input failed, or gave bytes as often as it may be read
abbrev pub IsBroken : Counts → Counts → Type 0
IsBroken old new =
    (new.ends ≡ old.ends)
    × ((new.failures ≡ old.failures + 1) ⊎ ((new.failures ≡ old.failures) × (new.nonempty_reads ≡ old.nonempty_reads + 33554432)))

-- what was before a run: the lines of its journal, what they were answered, and what was kept of them
pub record Past : Type 0 where
  pub lines : List (List ℕ)
  pub said : List ℕ
  pub entries : List KeptText

-- nothing was before it
abbrev pub no_past : Past
no_past = record { lines = []; said = []; entries = [] }

-- these lines were before it
pub record IsPast (showing : Showing) (journal : List (List ℕ)) (past : Past) : Type 0 where
  pub lines : past.lines ≡ journal
  pub said : IsSaid showing journal past.said
  pub entries : past.entries ≡ kept_in journal

-- the lines of the past and of the bytes that were given
abbrev pub all_lines : Past → List ℕ → List (List ℕ)
all_lines past given = past.lines ++ lines given

-- those of them that ended
abbrev pub whole_lines : Past → List ℕ → List (List ℕ)
whole_lines past given = past.lines ++ whole given

-- The lines that tell which CIF text there is: the whole ones, once the live line is among them; or all, where the input has
-- ended.
abbrev pub Tells : Past → List ℕ → Type 0 → List (List ℕ) → Type 0
Tells past given ended told =
    ((told ≡ whole_lines past given) × (is_some (behind told) ≡ true)) ⊎ (ended × (told ≡ all_lines past given))

-- the lines up to the live line, or all where there is none, have a fault at this line of the job
abbrev pub HasJobFault : List (List ℕ) → ℕ → List ℕ → Type 0
HasJobFault told line text = (cif_of told ≡ Err (Line line)) × (text ≡ concat (before told))

-- the CIF text of the lines has this fault
abbrev pub HasCifFault : List (List ℕ) → CifFault → List ℕ → Type 0
HasCifFault told fault text = (cif : List ℕ) × (cif_of told ≡ Ok cif) × IsMeaning cif (Err fault) × (text ≡ concat (before told))

module _ {O J : Type 0} (written : O → Option (List ℕ)) (failures : O → ℕ) (kept : J → Option (List KeptText)) (losses : J → ℕ)
    (past : Past) (out out' : O × J) where
  -- with what was before, this was written and this kept, and neither device failed
  abbrev pub Does : List ℕ → List KeptText → Type 0
  Does said entries = (more : List ℕ) × (fresh : List KeptText) × (past.said ++ more ≡ said) × (past.entries ++ fresh ≡ entries)
      × WroteAll written failures out.0 out'.0 more × KeptAll kept losses out.1 out'.1 fresh

  -- the same, but the output failed in what it was to write
  abbrev pub WritesPart : List ℕ → List KeptText → Type 0
  WritesPart said entries = (more : List ℕ) × (fresh : List KeptText) × (past.said ++ more ≡ said) × (past.entries ++ fresh ≡ entries)
      × WrotePrefix written failures out.0 out'.0 more × KeptAll kept losses out.1 out'.1 fresh

  -- the same, but the journal failed in what it was to keep
  abbrev pub KeepsPart : List ℕ → List KeptText → Type 0
  KeepsPart said entries = (more : List ℕ) × (fresh : List KeptText) × (past.said ++ more ≡ said) × (past.entries ++ fresh ≡ entries)
      × WroteAll written failures out.0 out'.0 more × KeptPart kept losses out.1 out'.1 fresh

module _ {O J : Type 0} (showing : Showing) (written : O → Option (List ℕ)) (failures : O → ℕ) (kept : J → Option (List KeptText))
    (losses : J → ℕ) (past : Past) (out out' : O × J) (given : List ℕ) where
  -- the bytes that were given tell of a fault at this line of the job in front of the live line; nothing was written or kept
  abbrev pub IsJobEnd : Type 0 → ℕ → List ℕ → Type 0
  IsJobEnd ended line text = (told : List (List ℕ)) × Tells past given ended told × HasJobFault told line text × (out' ≡ out)

  -- the same of this fault of the CIF text
  abbrev pub IsCifEnd : Type 0 → CifFault → List ℕ → Type 0
  IsCifEnd ended fault text = (told : List (List ℕ)) × Tells past given ended told × HasCifFault told fault text × (out' ≡ out)

  -- some first lines were kept and answered, each of them, and nothing else was written or kept
  abbrev pub IsMemoryEnd : Type 0
  IsMemoryEnd = (seen unseen : List (List ℕ)) × (said : List ℕ) × (seen ++ unseen ≡ all_lines past given) × IsSaid showing seen said
      × Does written failures kept losses past out out' said (kept_in seen)

  -- the output failed in the answers of some first lines, which were kept, or in what is said in all
  abbrev pub IsCutOff : Type 0
  IsCutOff = (seen unseen : List (List ℕ)) × (said : List ℕ) × (seen ++ unseen ≡ all_lines past given)
      × (IsSaid showing seen said ⊎ (IsWhole showing seen said × (unseen ≡ [])))
      × WritesPart written failures kept losses past out out' said (kept_in seen)

  -- the journal failed in the keeping of a line, and those in front of it were kept and answered
  abbrev pub IsLost : Type 0
  IsLost = (seen unseen : List (List ℕ)) × (line said : List ℕ) × (seen ++ line ∷ unseen ≡ all_lines past given) × IsSaid showing seen said
      × KeepsPart written failures kept losses past out out' said (kept_in (seen ++ line ∷ []))

  -- each whole line was kept and answered, and nothing else was written or kept
  abbrev pub IsAnswered : Type 0
  IsAnswered = (said : List ℕ) × IsSaid showing (whole_lines past given) said
      × Does written failures kept losses past out out' said (kept_in (whole_lines past given))

  -- a run that ended so, and not for its input: where it is done, the input has ended, all is said, and noted of the layout
  abbrev pub IsStop : Type 0 → LiveEnd → Type 0
  IsStop ended (Done refused notes) =
      ended × (said : List ℕ) × IsNotedWhole showing (all_lines past given) notes said × HaveRefused showing (all_lines past given) refused
      × Does written failures kept losses past out out' said (kept_in (all_lines past given))
  IsStop ended (Job line text) = IsJobEnd ended line text.items
  IsStop ended (Cif fault text) = IsCifEnd ended fault text.items
  IsStop ended Device = IsCutOff
  IsStop ended Journal = IsLost
  IsStop ended Memory = IsMemoryEnd

  -- the same, or the input is broken and each whole line of it was answered
  abbrev pub IsEnd : Counts → Counts → LiveEnd → Type 0
  IsEnd old new end = IsStop (IsEnded old new) end ⊎ ((end ≡ Device) × IsBroken old new × IsAnswered)

-- whether a run can begin from these lines of its journal: there are none, or one of them is live
abbrev pub can_begin : List (List ℕ) → Bool
can_begin [] = true
can_begin (line ∷ lines) = is_some (behind (line ∷ lines))

-- no run begins from these lines of its journal: there are some and none is live, they have a fault, or memory was refused
abbrev pub Unbegun : List (List ℕ) → LiveEnd → Type 0
Unbegun told (Done refused notes) = ⊥
Unbegun told (Job line text) = (told ≢ []) × HasJobFault told line text.items
Unbegun told (Cif fault text) = HasCifFault told fault text.items
Unbegun told Device = ⊥
Unbegun told Journal = ⊥
Unbegun told Memory = ⊤

module _ {I O J : Type 0} (showing : Showing) (observed : Observed I O J) (journal : List ℕ) (before after : Devices I O J)
    (end : LiveEnd) where
  -- From the devices before to those after, a run over the lines that this journal has whole and then those of the input: what the
  -- lines of the journal are answered isn't said again, nor are they kept again.
  abbrev pub Resumes : Type 0
  Resumes =
      (past : Past) × (given : List ℕ) × (can_begin (whole journal) ≡ true) × IsPast showing (whole journal) past
      × Consumes (observed.remaining before.input) (observed.remaining after.input) given
      × IsEnd showing observed.written observed.failures observed.kept observed.losses past (before.out, before.journal)
      (after.out, after.journal) given (observed.counts before.input) (observed.counts after.input) end

  -- the same, or no run began, and nothing was read, written or kept
  pub record IsJournaled : Type 0 where
    pub by : Resumes ⊎ (Unbegun (whole journal) end × (after ≡ before))

-- from the old input and output device to the new, a run without a journal ended so
abbrev pub IsLiveRun : {I O : Type 0} → Showing → (I → Option (List ℕ)) → (I → Counts) → (O → Option (List ℕ)) → (O → ℕ)
    → I → I → O → O → LiveEnd → Type 0
IsLiveRun showing remaining counts written failures input input' out out' end =
    IsJournaled {J = NoJournal} showing (observed_by remaining counts written failures (λ j. None) (λ j. 0)) []
    (devices input out (record {})) (devices input' out' (record {})) end
