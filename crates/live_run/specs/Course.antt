-- Where a live run stands between two lines, and what the next line leads to.
use Rattle.std.specs.Prelude.{◌≡◌, ℕ, ◌+◌, ◌⊎◌, ⊤, List, ◌++◌, Bool, true, false, Option, Result, Ok, Err, Vec}
use Rattle.byte_io.specs.Device.{WroteAll, WrotePrefix}
use Rattle.std.specs.declared.alloc.Global.{Global}
use Rattle.cif_read.specs.declared.fault.CifFault.{CifFault}
use Rattle.cif_read.specs.declared.fault.FaultKind.{FaultKind}
use Rattle.cif_read.specs.declared.fault.FaultKind.TheVariants.{NoMemory as CifMemory}
use Rattle.cif_read.specs.Contents.{Contents}
use Rattle.cif_read.specs.Meaning.{IsMeaning}
use Rattle.cif_write.specs.declared.writer.WriteFault.{WriteFault}
use Rattle.cif_write.specs.declared.writer.WriteFault.TheVariants.{Device as DeviceFault, NoMemory}
use Rattle.cif_layout.specs.FromCif.{layout_of}
use Rattle.lay_layouts.specs.Layout.{Layout}
use Rattle.job_text.specs.declared.job.JobFault.{JobFault}
use Rattle.job_text.specs.declared.job.JobFault.TheVariants.{Line, NoMemory as JobMemory}
use Rattle.job_text.specs.Job.{job_of}
use Rattle.live_run.specs.declared.live.Live.{Live}
use Rattle.live_run.specs.declared.showing.Showing.{Showing}
use Rattle.live_run.specs.declared.showing.View.{View}
use Rattle.live_run.specs.Live.{LiveRun, Said, after_line, has_refused, run_of}
use Rattle.live_run.specs.declared.base.HeadFault.{HeadFault}
use Rattle.live_run.specs.declared.base.HeadFault.TheVariants.{Cif as CifHead, Job as JobHead, Memory as MemoryHead}
use Rattle.live_run.specs.declared.course.Course.{Course}
use Rattle.live_run.specs.declared.course.Course.TheVariants.{Head, Steps}
use Rattle.live_run.specs.declared.ending.EndNotes.{EndNotes}
use Rattle.live_run.specs.declared.ending.LiveEnd.{LiveEnd}
use Rattle.live_run.specs.declared.ending.LiveEnd.TheVariants.{Cif, Device, Done, Job, Journal, Memory}
use Rattle.live_run.specs.Cif.{cif_from, is_live}
use Rattle.live_run.specs.Journal.{KeptText, KeptAll, KeptPart, kept_head, kept_line}
use Rattle.live_run.specs.Said.{IsClosing, IsNotedClosing, IsSaidText, first_run}
use Rattle.live_run.specs.Shown.{view_of}

-- before the live line, the lines so far, joined, and how many they are; behind it, the run
pub data Phase : Type 0 where
  InHead : List ℕ → ℕ → Phase
  InSteps : LiveRun → Phase

-- what contracts see of a course
abbrev pub phase_of : Course → Phase
phase_of (Head text count) = InHead text.items count
phase_of (Steps live) = InSteps (run_of live)

-- ---- the head of a run: its lines in front of the live line

-- the fault of a head at a fault of its job
abbrev pub head_job : JobFault → HeadFault
head_job (Line line) = JobHead line
head_job JobMemory = MemoryHead

-- the fault of a head at a fault of this kind
abbrev pub head_kind : CifFault → FaultKind → HeadFault
head_kind fault CifMemory = MemoryHead
head_kind fault kind = CifHead fault

-- the fault of a head at a fault of its CIF text
abbrev pub head_cif : CifFault → HeadFault
head_cif fault = head_kind fault fault.kind

-- the end of a run whose head has this fault and this text
abbrev pub end_of_head : HeadFault → Vec ℕ Global → LiveEnd
end_of_head (JobHead line) text = Job line text
end_of_head (CifHead fault) text = Cif fault text
end_of_head MemoryHead text = Memory

-- the layout of a CIF text that means this, and how it is shown
abbrev pub base_with : Showing → List ℕ → Result Contents CifFault → Result (Layout × View) HeadFault
base_with showing cif (Ok file) = Ok (layout_of file, view_of showing cif)
base_with showing cif (Err fault) = Err (head_cif fault)

-- the same of a head with this CIF text
abbrev pub IsBaseFrom : Showing → Result (List ℕ) JobFault → Result (Layout × View) HeadFault → Type 0
IsBaseFrom showing (Err fault) result = result ≡ Err (head_job fault)
IsBaseFrom showing (Ok cif) result =
    (meaning : Result Contents CifFault) × IsMeaning cif meaning × (result ≡ base_with showing cif meaning)

-- the layout on which a run begins behind this head, where the live line has this number, and how it is shown; or out of memory in
-- its place
unfoldable pub IsBaseOf : Showing → List ℕ → ℕ → Result (Layout × View) HeadFault → Type 0
IsBaseOf showing head number result = (result ≡ Err MemoryHead) ⊎ IsBaseFrom showing (cif_from number true (job_of head)) result

-- a run begins behind this head
abbrev pub BeginsRun : Showing → List ℕ → ℕ → LiveRun → Type 0
BeginsRun showing head number run =
    (cif : List ℕ) × (file : Contents) × (cif_from number true (job_of head) ≡ Ok cif) × IsMeaning cif (Ok file)
    × (run ≡ first_run showing cif file)

-- none does, by whether there is a live line
abbrev pub RefusesHead : Bool → List ℕ → ℕ → LiveEnd → Type 0
RefusesHead live head number (Done refused notes) = ⊥
RefusesHead live head number (Job line text) = (cif_from number live (job_of head) ≡ Err (Line line)) × (text.items ≡ head)
RefusesHead live head number (Cif fault text) =
    (cif : List ℕ) × (cif_from number live (job_of head) ≡ Ok cif) × IsMeaning cif (Err fault) × (text.items ≡ head)
RefusesHead live head number Device = ⊥
RefusesHead live head number Journal = ⊥
RefusesHead live head number Memory = ⊤

-- a run begins behind this head, or none does
abbrev pub OpensTo : Showing → List ℕ → ℕ → Result Live HeadFault → Type 0
OpensTo showing head number (Ok live) = BeginsRun showing head number (run_of live)
OpensTo showing head number (Err fault) = (text : Vec ℕ Global) → text.items ≡ head → RefusesHead true head number (end_of_head fault text)

-- ---- a line

-- the end of a run at a fault of what it writes
abbrev pub end_of_write : WriteFault → LiveEnd
end_of_write DeviceFault = Device
end_of_write NoMemory = Memory

module _ {J : Type 0} (kept : J → Option (List KeptText)) (losses : J → ℕ) (book book' : J) where
  -- a line was kept, as it was to be
  abbrev pub KeepsTo : List KeptText → Result Unit LiveEnd → Type 0
  KeepsTo entries (Ok x) = KeptAll kept losses book book' entries
  KeepsTo entries (Err end) = (end ≡ Journal) × KeptPart kept losses book book' entries

module _ {J : Type 0} (showing : Showing) (kept : J → Option (List KeptText)) (losses : J → ℕ) (book book' : J) where
  -- what a live line behind this head leads to: where a run begins, head and line are kept
  abbrev pub LiveTo : List ℕ → ℕ → List ℕ → Result Course LiveEnd → Type 0
  LiveTo head number line (Ok course) =
      (run : LiveRun) × BeginsRun showing head number run × (phase_of course ≡ InSteps run) × KeptAll kept losses book book'
      (kept_head head line)
  LiveTo head number line (Err Journal) = KeptPart kept losses book book' (kept_head head line)
  LiveTo head number line (Err end) = RefusesHead true head number end × (book' ≡ book)

  -- what a line behind this head leads to, by whether it is live
  abbrev pub HeadTo : Bool → List ℕ → ℕ → List ℕ → Result Course LiveEnd → Type 0
  HeadTo false head count line (Ok course) = (phase_of course ≡ InHead (head ++ line) (count + 1)) × (book' ≡ book)
  HeadTo false head count line (Err end) = (end ≡ Memory) × (book' ≡ book)
  HeadTo true head count line result = LiveTo head (count + 1) line result

module _ {O : Type 0} (written : O → Option (List ℕ)) (failures : O → ℕ) (out out' : O) where
  -- what closes a run was written; or the device failed, and a prefix was; or memory was refused, and nothing was
  abbrev pub PutsClosing : LiveRun → Result EndNotes WriteFault → Type 0
  PutsClosing run (Ok notes) = (text : List ℕ) × IsNotedClosing run notes text × WroteAll written failures out out' text
  PutsClosing run (Err DeviceFault) = (text : List ℕ) × IsClosing run text × WrotePrefix written failures out out' text
  PutsClosing run (Err NoMemory) = out' ≡ out

  -- what the end of the input leads to in a run
  abbrev pub RunCloses : LiveRun → LiveEnd → Type 0
  RunCloses run (Done refused notes) =
      (text : List ℕ) × IsNotedClosing run notes text × WroteAll written failures out out' text × (refused ≡ has_refused run)
  RunCloses run (Job line text) = ⊥
  RunCloses run (Cif fault text) = ⊥
  RunCloses run Device = (text : List ℕ) × IsClosing run text × WrotePrefix written failures out out' text
  RunCloses run Journal = ⊥
  RunCloses run Memory = out' ≡ out

  -- what the end of the input leads to
  abbrev pub ClosesTo : Phase → LiveEnd → Type 0
  ClosesTo (InHead head count) end = (out' ≡ out) × RefusesHead false head (count + 1) end
  ClosesTo (InSteps run) end = RunCloses run end

module _ {O J : Type 0} (written : O → Option (List ℕ)) (failures : O → ℕ) (kept : J → Option (List KeptText)) (losses : J → ℕ)
    (out out' : O × J) where
  -- what a line leads to that leaves this, is answered so and is kept so, before the first byte of the answer
  abbrev pub GivesTo : LiveRun × Said → List KeptText → Result Unit LiveEnd → Type 0
  GivesTo said entries (Ok x) =
      (text : List ℕ) × IsSaidText said text × WroteAll written failures out.0 out'.0 text × KeptAll kept losses out.1 out'.1 entries
  GivesTo said entries (Err (Done refused notes)) = ⊥
  GivesTo said entries (Err (Job line text)) = ⊥
  GivesTo said entries (Err (Cif fault text)) = ⊥
  GivesTo said entries (Err Device) =
      (text : List ℕ) × IsSaidText said text × WrotePrefix written failures out.0 out'.0 text × KeptAll kept losses out.1 out'.1 entries
  GivesTo said entries (Err Journal) = (out'.0 ≡ out.0) × KeptPart kept losses out.1 out'.1 entries
  GivesTo said entries (Err Memory) = (out'.0 ≡ out.0) × (out'.1 ≡ out.1)

  -- the same of a run, which goes on so
  abbrev pub AnswersTo : LiveRun × Said → List KeptText → Result Course LiveEnd → Type 0
  AnswersTo said entries (Ok course) = (phase_of course ≡ InSteps said.0) × GivesTo said entries (Ok tt)
  AnswersTo said entries (Err end) = GivesTo said entries (Err end)

module _ {O J : Type 0} (showing : Showing) (written : O → Option (List ℕ)) (failures : O → ℕ) (kept : J → Option (List KeptText))
    (losses : J → ℕ) (out out' : O × J) where
  -- what a line leads to
  abbrev pub FeedsTo : Phase → List ℕ → Result Course LiveEnd → Type 0
  FeedsTo (InHead head count) line result =
      (out'.0 ≡ out.0) × HeadTo showing kept losses out.1 out'.1 (is_live line) head count line result
  FeedsTo (InSteps run) line result = AnswersTo written failures kept losses out out' (after_line run line) (kept_line line) result
