-- Elements of footprints, in an order of their own, and finite sets of them.
-- Source: this project's own.
-- Checked on: two boxes of 1.1 in the top cell touch 1.1.1 and 1.1.2; tests/jobs/a-scan.job,
-- tests/jobs/a-dropped-symbol-is-stale.job and tests/jobs/a-filled-symbol-is-stale.job.
use Rattle.std.specs.Prelude.{◌≡◌, ℕ, Bool, List, [], ◌∷◌, Some, refl}
use Rattle.std.specs.declared.cmp.Ordering.{Ordering}
use Rattle.std.specs.Cmp.{IsPartialEquivalence, IsPartialOrder, IsTotalOrder, eq_by_cmp_equiv, partial_equiv_from_equiv, po}
use Rattle.std.specs.Cmp.Lexicographic.{on_texts, slice_cmp}
use Rattle.std.specs.Coded.{Coded}
use Rattle.std.specs.FinMap.{nat_cmp-IsAntisymmetric, slice_cmp-IsAntisymmetric}
use Rattle.std.specs.FinSet as set
use Rattle.std.specs.FinSet.{FinSet, IsAntisymmetric}
use Rattle.std.specs.Ordering.{eq_by_cmp, nat_cmp, ordering_then}
use Rattle.std.proofs.Common.{ap}
use Rattle.std.proofs.lemmas.Cmp.{then_total}
use Rattle.lay_cells.specs.declared.cell_id.CellId.{CellId}
use Rattle.lay_cells.specs.declared.cell_id.CellId.TheVariants.{Symbol, Top}
use Rattle.txn_commands.specs.contracts.element.Element as element
use Rattle.txn_commands.specs.declared.element.Element.{Element}
use Rattle.txn_commands.specs.declared.element.Element.TheVariants.{Calls, Cell, Content, Item, Layer, Uses}
use Rattle.lay_point.proofs.BoolLaws.{both_equal}

-- the top cell comes before the symbols
abbrev pub cell_rank : CellId → ℕ
cell_rank Top = 0
cell_rank (Symbol number) = 1

-- symbols go by number
abbrev pub cell_number : CellId → ℕ
cell_number Top = 0
cell_number (Symbol number) = number

-- an element by numbers: its rank, then its fields, and zeros behind them
abbrev pub numbers_of : Element → List ℕ
numbers_of (Item id) = 0 ∷ id.session ∷ id.txn ∷ id.seq ∷ []
numbers_of (Layer cell layer) = 1 ∷ cell_rank cell ∷ cell_number cell ∷ 0 ∷ []
numbers_of (Calls cell) = 2 ∷ cell_rank cell ∷ cell_number cell ∷ 0 ∷ []
numbers_of (Cell number) = 3 ∷ number ∷ 0 ∷ 0 ∷ []
numbers_of (Content number) = 4 ∷ number ∷ 0 ∷ 0 ∷ []
numbers_of (Uses number) = 5 ∷ number ∷ 0 ∷ 0 ∷ []

-- the name of its layer
abbrev pub element_layer : Element → List ℕ
element_layer (Item id) = []
element_layer (Layer cell layer) = layer
element_layer (Calls cell) = []
element_layer (Cell number) = []
element_layer (Content number) = []
element_layer (Uses number) = []

-- by rank, then by the fields
abbrev pub element_cmp : Element → Element → Ordering
element_cmp e f = ordering_then (slice_cmp nat_cmp (numbers_of e) (numbers_of f)) (slice_cmp nat_cmp (element_layer e) (element_layer f))

-- a finite set of elements
abbrev pub Touched : Type 0
Touched = FinSet element_cmp

-- no element
abbrev pub untouched : Touched
untouched = set.empty

-- the elements of the set, and these
abbrev pub with_elements : Touched → List Element → Touched
with_elements touched [] = touched
with_elements touched (e ∷ es) = with_elements (set.insert touched e) es

-- a set of elements is stored as the list of them
abbrev pub coded_touched : Coded Touched
coded_touched = set.code element.the_row.coded

-- their order is total
pub elements_total : IsTotalOrder element_cmp
elements_total = then_total (on_texts numbers_of) (on_texts element_layer)

-- equal are those that it doesn't distinguish
abbrev pub element_eq : Element → Element → Bool
element_eq = eq_by_cmp element_cmp

pub element_eq_partial : IsPartialEquivalence element_eq
element_eq_partial = partial_equiv_from_equiv (eq_by_cmp_equiv elements_total)

pub elements_partial : IsPartialOrder element_eq (λ e f. Some (element_cmp e f))
elements_partial = po elements_total (λ e f. refl)

same_cell : (c d : CellId) → cell_rank c ≡ cell_rank d → cell_number c ≡ cell_number d → c ≡ d
same_cell Top Top r n = refl
same_cell Top (Symbol number) r n = absurd cc
same_cell (Symbol number) Top r n = absurd cc
same_cell (Symbol m) (Symbol n) r e = ap Symbol e

-- elements of the same numbers and the same name are equal
same_code : (e f : Element) → numbers_of e ≡ numbers_of f → element_layer e ≡ element_layer f → e ≡ f
same_code (Item a) (Item b) e n =
    let sessions : a.session ≡ b.session = cc in
    let txns : a.txn ≡ b.txn = cc in
    let seqs : a.seq ≡ b.seq = cc in
    λ i. Item (record { session = sessions i; txn = txns i; seq = seqs i })
same_code (Layer c l) (Layer d m) e n =
    let cells : c ≡ d = same_cell c d (cc) (cc) in
    λ i. Layer (cells i) (n i)
same_code (Calls c) (Calls d) e n = ap Calls (same_cell c d (cc) (cc))
same_code (Cell m) (Cell n) e h = cc
same_code (Content m) (Content n) e h = cc
same_code (Uses m) (Uses n) e h = cc
same_code e f h n = absurd cc

-- elements that it doesn't distinguish are equal
pub elements_exact : IsAntisymmetric element_cmp
elements_exact e f h =
    let parts = both_equal (slice_cmp nat_cmp (numbers_of e) (numbers_of f)) (slice_cmp nat_cmp (element_layer e) (element_layer f)) h in
    same_code e f (slice_cmp-IsAntisymmetric nat_cmp-IsAntisymmetric (numbers_of e) (numbers_of f) parts.0)
    (slice_cmp-IsAntisymmetric nat_cmp-IsAntisymmetric (element_layer e) (element_layer f) parts.1)
