-- The steps of an operation are those of its definition: both layers flattened from the same walks, and then combined.
use Rattle.std.proofs.Common.{◌≡◌, ◌⊎◌, inl, inr, Bool, true, false, ℕ, List, Result, Ok, Err, refl, sym, ap, ◌∙◌}
use Rattle.std.specs.Prelude.{if◌then◌else◌}
use Rattle.lay_point.specs.Memory.{IsAnswer}
use Rattle.lay_cells.specs.declared.cell_id.CellId.{CellId}
use Rattle.lay_layouts.specs.Layout.{Layout}
use Rattle.lay_flat.specs.declared.fault.FlatFault.{FlatFault}
use Rattle.lay_flat.specs.declared.fault.FlatFault.TheVariants as flat
use Rattle.lay_flat.specs.Flat.{FlatRing}
use Rattle.lay_flat.specs.Flattening.{flat_of, on_success}
use Rattle.lay_flat.specs.Walked.{Start, walked}
use Rattle.lay_flat.proofs.Answered.{refused_from}
use Rattle.face_rows.specs.declared.op.Op.{Op}
use Rattle.bool_rules.specs.Shapes.{Rings, fits, shapes_of}
use Rattle.bool_rules.specs.Booleans.{bool_shapes, shapes_within}
use Rattle.layer_ops.specs.declared.fault.OpFault.{OpFault}
use Rattle.layer_ops.specs.declared.fault.OpFault.TheVariants as op
use Rattle.layer_ops.specs.Combining.{combined}
use Rattle.txn_plans.specs.Shaping.{fault_of_op}

-- what a call answers where it may answer out of memory too
abbrev Flattens : Result (List FlatRing) FlatFault → Layout → CellId → List ℕ → Type 0
Flattens answer l cell layer = IsAnswer flat.NoMemory answer (flat_of l cell layer)

abbrev Operates : Result (List Rings) FlatFault → Layout → Op → CellId → List ℕ → List ℕ → Type 0
Operates answer l o cell a b = IsAnswer flat.NoMemory answer (bool_shapes l o cell a b)

refused_alike : (fault : FlatFault) → ◌≡◌ {A = Result (List FlatRing) FlatFault} (Err fault) (Err flat.NoMemory)
    → ◌≡◌ {A = Result (List Rings) FlatFault} (Err fault) (Err flat.NoMemory)
refused_alike fault h = let same : fault ≡ flat.NoMemory = cc in ap (λ (f : FlatFault). Err f) same

pub first_refused : (l : Layout) (o : Op) (cell : CellId) (a b : List ℕ) (fault : FlatFault) → Flattens (Err fault) l cell a →
    Operates (Err fault) l o cell a b
unfolding bool_shapes
first_refused l o cell a b fault (inl none) = inl (refused_alike fault none)
first_refused l o cell a b fault (inr is) =
    inr (ap (λ r. on_success r (λ first. on_success (flat_of l cell b) (λ second. shapes_within o first second))) is)

pub walks_refused : (l : Layout) (o : Op) (cell : CellId) (a b : List ℕ) (fault : FlatFault)
    → IsAnswer {T = Start} flat.NoMemory (Err fault) (walked l cell) → Operates (Err fault) l o cell a b
walks_refused l o cell a b fault is = first_refused l o cell a b fault (refused_from l cell a fault is)

flattened : (l : Layout) (cell : CellId) (layer : List ℕ) (rings : List FlatRing) → Flattens (Ok rings) l cell layer →
    Ok rings ≡ flat_of l cell layer
flattened l cell layer rings (inl none) = absurd (cc)
flattened l cell layer rings (inr is) = is

pub second_refused : (l : Layout) (o : Op) (cell : CellId) (a b : List ℕ) (first : List FlatRing) (fault : FlatFault) →
    Flattens (Ok first) l cell a → Flattens (Err fault) l cell b → Operates (Err fault) l o cell a b
unfolding bool_shapes
second_refused l o cell a b first fault one (inl none) = inl (refused_alike fault none)
second_refused l o cell a b first fault one (inr is) =
    inr (ap (λ r. on_success r (λ second. shapes_within o first second)) is
    ∙ ap (λ r. on_success r (λ f. on_success (flat_of l cell b) (λ second. shapes_within o f second))) (flattened l cell a first one))

-- behind both flattenings the shapes within the limits are left
within : (l : Layout) (o : Op) (cell : CellId) (a b : List ℕ) (first second : List FlatRing) → Flattens (Ok first) l cell a →
    Flattens (Ok second) l cell b → shapes_within o first second ≡ bool_shapes l o cell a b
unfolding bool_shapes
within l o cell a b first second one other =
    ap (λ r. on_success r (λ s. shapes_within o first s)) (flattened l cell b second other)
    ∙ ap (λ r. on_success r (λ f. on_success (flat_of l cell b) (λ s. shapes_within o f s))) (flattened l cell a first one)

pub combined_shapes : (l : Layout) (o : Op) (cell : CellId) (a b : List ℕ) (first second : List FlatRing) (shapes : List Rings) →
    Flattens (Ok first) l cell a → Flattens (Ok second) l cell b → IsAnswer op.NoMemory (Ok shapes) (combined o first second) →
    Operates (Ok shapes) l o cell a b
combined_shapes l o cell a b first second shapes one other (inl none) = absurd (cc)
combined_shapes l o cell a b first second shapes one other (inr is) =
    inr (by_test (fits o first second) is ∙ within l o cell a b first second one other) where
      by_test : (t : Bool) → Ok shapes ≡ (if t then Ok (shapes_of o first second) else Err op.TooMany) →
          Ok shapes ≡ (if t then Ok (shapes_of o first second) else Err flat.TooMany)
      by_test true h = let same : shapes ≡ shapes_of o first second = cc in ap (λ (s : List Rings). Ok s) same
      by_test false h = absurd (cc)

pub combined_refused : (l : Layout) (o : Op) (cell : CellId) (a b : List ℕ) (first second : List FlatRing) (fault : OpFault) →
    Flattens (Ok first) l cell a → Flattens (Ok second) l cell b → IsAnswer op.NoMemory (Err fault) (combined o first second) →
    Operates (Err (fault_of_op fault)) l o cell a b
combined_refused l o cell a b first second fault one other (inl none) =
    let same : fault ≡ op.NoMemory = cc in inl (ap (λ f. Err (fault_of_op f)) same)
combined_refused l o cell a b first second fault one other (inr is) =
    inr (by_test (fits o first second) is ∙ within l o cell a b first second one other) where
      by_test : (t : Bool) → Err fault ≡ (if t then Ok (shapes_of o first second) else Err op.TooMany) →
          Err (fault_of_op fault) ≡ (if t then Ok (shapes_of o first second) else Err flat.TooMany)
      by_test true h = absurd (cc)
      by_test false h = let same : fault ≡ op.TooMany = cc in ap (λ f. Err (fault_of_op f)) same
