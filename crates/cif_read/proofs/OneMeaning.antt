-- A text has one meaning.
use Rattle.std.proofs.Common.{◌≡◌, ◌<◌, ◌≤◌, nat_lt, ℕ, List, length, Result, Ok, Err, All, inl, inr, false, cond, sym, ap, ◌∙◌, arith, map}
use Rattle.std.proofs.lemmas.Bool.{cases_lt}
use Rattle.std.proofs.lemmas.Bool.Decides.{nat_tests}
use Rattle.std.proofs.lemmas.List.Elements.{Contains-get_or}
use Rattle.lay_cells.specs.declared.cell_id.CellId.{CellId}
use Rattle.lay_cells.specs.declared.cell_id.CellId.TheVariants.{Top}
use Rattle.lay_cells.specs.Walks.{IsAcyclic, IsFirstCycle, call_at}
use Rattle.cif_read.specs.declared.content.Content.{Content}
use Rattle.cif_read.specs.declared.content.Pending.{Pending}
use Rattle.cif_read.specs.declared.fault.CifFault.{CifFault}
use Rattle.cif_read.specs.Binding.{IsBindingFault, IsBound, IsBoundAs, IsFirstUnbound, edge_of, pending_at}
use Rattle.cif_read.specs.Contents.{Contents}
use Rattle.cif_read.specs.declared.file.TheConstants.{MAX_TEXT}
use Rattle.cif_read.specs.Meaning.{IsEndOf, IsMeaning, content_in, content_within, too_long}

-- two places of which neither is before the other are one
one_place : (i j : ℕ) → ¬ (i < j) → ¬ (j < i) → i ≡ j
one_place i j not_first not_last = elim (cases_lt i j) [
  | inl less ↦ absurd (not_first less)
  | inr more ↦ elim (cases_lt j i) [
    | inl greater ↦ absurd (not_last greater)
    | inr less ↦ omega arith
  ]
]

one_unbound : (symbols : List ℕ) (calls : List Pending) (i j : ℕ) → IsFirstUnbound symbols calls i → IsFirstUnbound symbols calls j → i ≡ j
one_unbound symbols calls i j a b = one_place i j (λ less. a.unbound (b.before i less)) (λ less. b.unbound (a.before j less))

one_cycle : (calls : List (CellId × ℕ)) (i j : ℕ) → IsFirstCycle calls i → IsFirstCycle calls j → i ≡ j
one_cycle calls i j a b = one_place i j (λ less. b.before i less a.closes) (λ less. a.before j less b.closes)

-- calls that are all bound have no first that isn't
all_bound : (symbols : List ℕ) (calls : List Pending) (i : ℕ) → All (IsBound symbols) calls → ¬ (IsFirstUnbound symbols calls i)
all_bound symbols calls i all a = a.unbound (all i (record { offset = 0; caller = Top; target = 0 }) a.within)

-- and calls without a cycle none that closes one
none_closes : (calls : List (CellId × ℕ)) (i : ℕ) → IsAcyclic calls → ¬ (IsFirstCycle calls i)
none_closes calls i acyclic a =
    acyclic (call_at calls i).0 (call_at calls i).1 (Contains-get_or calls i (Top, 0) a.within) a.closes

good_or_not : (content : Content) (fault : CifFault) (i : ℕ) → All (IsBound content.symbols) content.calls
    → IsAcyclic (map edge_of content.calls) → ¬ (IsBindingFault content fault i)
good_or_not content fault i all acyclic (inl (kind, first)) = all_bound content.symbols content.calls i all first
good_or_not content fault i all acyclic (inr (kind, bound, first)) = none_closes (map edge_of content.calls) i acyclic first

-- faults of this kind at the offset of one place are one
same_fault : (content : Content) (e f : CifFault) (i j : ℕ) → e.kind ≡ f.kind → i ≡ j → e.offset ≡ (pending_at content.calls i).offset
    → f.offset ≡ (pending_at content.calls j).offset → e ≡ f
same_fault content e f i j kind place at other =
    let offset : e.offset ≡ f.offset = at ∙ ap (λ k. (pending_at content.calls k).offset) place ∙ sym other in
    λ k. record { kind = kind k; offset = offset k }

one_fault : (content : Content) (e f : CifFault) (i j : ℕ) → e.offset ≡ (pending_at content.calls i).offset
    → f.offset ≡ (pending_at content.calls j).offset → IsBindingFault content e i → IsBindingFault content f j → e ≡ f
one_fault content e f i j at other (inl (kind, first)) (inl (alike, second)) =
    same_fault content e f i j (kind ∙ sym alike) (one_unbound content.symbols content.calls i j first second) at other
one_fault content e f i j at other (inl (kind, first)) (inr (alike, bound, second)) =
    absurd (all_bound content.symbols content.calls i bound first)
one_fault content e f i j at other (inr (kind, bound, first)) (inl (alike, second)) =
    absurd (all_bound content.symbols content.calls j bound second)
one_fault content e f i j at other (inr (kind, bound, first)) (inr (alike, all, second)) =
    same_fault content e f i j (kind ∙ sym alike) (one_cycle (map edge_of content.calls) i j first second) at other

pub one_end : (content : Content) (a b : Result Contents CifFault) → IsBoundAs content a → IsBoundAs content b → a ≡ b
one_end content (Ok f) (Ok g) a b = ap Ok (a.0 ∙ sym b.0)
one_end content (Ok f) (Err e) (is, bound, acyclic) (i, at, fault) = absurd (good_or_not content e i bound acyclic fault)
one_end content (Err e) (Ok f) (i, at, fault) (is, bound, acyclic) = absurd (good_or_not content e i bound acyclic fault)
one_end content (Err e) (Err f) (i, at, fault) (j, other, second) = ap Err (one_fault content e f i j at other fault second)

ended_once : (content : Result Content CifFault) (a b : Result Contents CifFault) → IsEndOf content a → IsEndOf content b → a ≡ b
ended_once (Ok content) a b is same = one_end content a b is same
ended_once (Err fault) a b is same = is ∙ sym same

pub one_meaning : (text : List ℕ) (a b : Result Contents CifFault) → IsMeaning text a → IsMeaning text b → a ≡ b
one_meaning text a b is same = ended_once (content_within text) a b is same

-- a text within the limit means what its commands mean
pub short_text : (text : List ℕ) → length text ≤ MAX_TEXT → content_within text ≡ content_in text
short_text text short =
    let within : nat_lt MAX_TEXT (length text) ≡ false = grind (arith, nat_tests) in
    ap (λ long. cond long (Err too_long) (content_in text)) within
