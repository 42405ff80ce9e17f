-- What the layout of a head tells of its lines.
use Rattle.std.proofs.Common.{◌≡◌, ℕ, ◌⊎◌, List, true, Result, Ok, Err, inl, inr, refl, sym, ap, ◌∙◌, subst}
use Rattle.std.specs.Prelude.{Vec}
use Rattle.std.specs.declared.alloc.Global.{Global}
use Rattle.cif_read.specs.declared.fault.CifFault.{CifFault}
use Rattle.cif_read.specs.declared.fault.FaultKind.{FaultKind}
use Rattle.cif_read.specs.declared.fault.FaultKind.TheVariants.{NoMemory as CifMemory}
use Rattle.cif_read.specs.Contents.{Contents}
use Rattle.cif_read.specs.Meaning.{IsMeaning}
use Rattle.cif_layout.specs.FromCif.{layout_of}
use Rattle.lay_layouts.specs.Layout.{Layout}
use Rattle.job_text.specs.declared.job.JobFault.{JobFault}
use Rattle.job_text.specs.declared.job.JobFault.TheVariants.{Line, NoMemory as JobMemory}
use Rattle.job_text.specs.Job.{job_of}
use Rattle.live_run.specs.declared.showing.Showing.{Showing}
use Rattle.live_run.specs.declared.showing.View.{View}
use Rattle.live_run.specs.Live.{LiveRun, before_first_line}
use Rattle.live_run.specs.Shown.{view_of}
use Rattle.live_run.specs.declared.base.HeadFault.{HeadFault}
use Rattle.live_run.specs.declared.base.HeadFault.TheVariants.{Cif as CifHead, Job as JobHead, Memory as MemoryHead}
use Rattle.live_run.specs.Cif.{cif_from}
use Rattle.live_run.specs.Course.{BeginsRun, IsBaseFrom, IsBaseOf, RefusesHead, end_of_head, head_cif, head_kind}

-- a fault of a CIF text is a head's, or out of memory
of_kind : (fault : CifFault) (kind : FaultKind) → (head_kind fault kind ≡ MemoryHead) ⊎ (head_kind fault kind ≡ CifHead fault)
of_kind fault CifMemory = inl refl
of_kind fault kind = inr refl

by_cif : (fault : CifFault) → (head_cif fault ≡ MemoryHead) ⊎ (head_cif fault ≡ CifHead fault)
by_cif fault = of_kind fault fault.kind

-- ---- a layout

abbrev IsFile : Showing → Result (List ℕ) JobFault → Layout × View → Type 0
IsFile showing from base =
    (cif : List ℕ) × (file : Contents) × (from ≡ Ok cif) × IsMeaning cif (Ok file) × (base ≡ (layout_of file, view_of showing cif))

file_of : (showing : Showing) (from : Result (List ℕ) JobFault) (base : Layout × View) → IsBaseFrom showing from (Ok base)
    → IsFile showing from base
file_of showing (Err fault) base is = absurd (let e = is in cc)
file_of showing (Ok cif) base (Err fault, means, is) = absurd (let e = is in cc)
file_of showing (Ok cif) base (Ok file, means, is) =
    let same : base ≡ (layout_of file, view_of showing cif) = cc in (cif, file, refl, means, same)

pub base_file : (showing : Showing) (head : List ℕ) (number : ℕ) (base : Layout × View) → IsBaseOf showing head number (Ok base)
    → IsFile showing (cif_from number true (job_of head)) base
unfolding IsBaseOf
base_file showing head number base (inl none) = absurd (let e = none in cc)
base_file showing head number base (inr is) = file_of showing (cif_from number true (job_of head)) base is

pub opens : (showing : Showing) (head : List ℕ) (number : ℕ) (base : Layout) (view : View) (run : LiveRun)
    → IsBaseOf showing head number (Ok (base, view)) → run ≡ before_first_line view base → BeginsRun showing head number run
opens showing head number base view run is new =
    let (cif, file, from, means, same) = base_file showing head number (base, view) is in
    (cif, file, from, means, new ∙ ap (λ (b : Layout × View). before_first_line b.1 b.0) same)

-- ---- a fault

abbrev fault_on : ℕ → Result (List ℕ) JobFault
fault_on line = Err (Line line)

job_of_fault : (showing : Showing) (from : Result (List ℕ) JobFault) (line : ℕ) → IsBaseFrom showing from (Err (JobHead line))
    → from ≡ Err (Line line)
job_of_fault showing (Err (Line n)) line is = let same : line ≡ n = cc in ap fault_on (sym same)
job_of_fault showing (Err JobMemory) line is = absurd (let e = is in cc)
job_of_fault showing (Ok cif) line (Ok file, means, is) = absurd (let e = is in cc)
job_of_fault showing (Ok cif) line (Err fault, means, is) =
    elim (by_cif fault) [
      | inl e ↦ absurd (let h = is in let k = e in cc)
      | inr e ↦ absurd (let h = is in let k = e in cc)
    ]

pub base_job : (showing : Showing) (head : List ℕ) (number line : ℕ) → IsBaseOf showing head number (Err (JobHead line))
    → cif_from number true (job_of head) ≡ Err (Line line)
unfolding IsBaseOf
base_job showing head number line (inl none) = absurd (let e = none in cc)
base_job showing head number line (inr is) = job_of_fault showing (cif_from number true (job_of head)) line is

abbrev IsFaulty : Result (List ℕ) JobFault → CifFault → Type 0
IsFaulty from fault = (cif : List ℕ) × (from ≡ Ok cif) × IsMeaning cif (Err fault)

cif_of_fault : (showing : Showing) (from : Result (List ℕ) JobFault) (fault : CifFault) → IsBaseFrom showing from (Err (CifHead fault))
    → IsFaulty from fault
cif_of_fault showing (Err (Line n)) fault is = absurd (let e = is in cc)
cif_of_fault showing (Err JobMemory) fault is = absurd (let e = is in cc)
cif_of_fault showing (Ok cif) fault (Ok file, means, is) = absurd (let e = is in cc)
cif_of_fault showing (Ok cif) fault (Err other, means, is) =
    elim (by_cif other) [
      | inl e ↦ absurd (let h = is in let k = e in cc)
      | inr e ↦
          let same : other ≡ fault = let h = is in let k = e in cc in
          (cif, refl, subst (λ (f : CifFault). IsMeaning cif (Err f)) same means)
    ]

pub base_cif : (showing : Showing) (head : List ℕ) (number : ℕ) (fault : CifFault) → IsBaseOf showing head number (Err (CifHead fault))
    → IsFaulty (cif_from number true (job_of head)) fault
unfolding IsBaseOf
base_cif showing head number fault (inl none) = absurd (let e = none in cc)
base_cif showing head number fault (inr is) = cif_of_fault showing (cif_from number true (job_of head)) fault is

-- with this fault no run begins
pub refuses : (showing : Showing) (head : List ℕ) (number : ℕ) (fault : HeadFault) (text : Vec ℕ Global) → text.items ≡ head
    → IsBaseOf showing head number (Err fault) → RefusesHead true head number (end_of_head fault text)
refuses showing head number (JobHead line) text same is = (base_job showing head number line is, same)
refuses showing head number (CifHead fault) text same is =
    let (cif, from, means) = base_cif showing head number fault is in (cif, from, means, same)
refuses showing head number MemoryHead text same is = tt
