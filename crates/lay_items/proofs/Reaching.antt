-- The symbols that a cell leads to, and the calls that stand in them.
use Rattle.std.proofs.Common.{◌≡◌, ◌∙◌, ◌++◌, ◌||◌, ℕ, suc, inl, inr, Bool, true, false, true≢false, List, [], ◌∷◌}
use Rattle.std.proofs.Common.{Some, cond, map, nat_eq, refl, ap, sym, subst, arith, Contains, IsTrue, append-nil}
use Rattle.std.specs.Prelude.{slice_get}
use Rattle.std.specs.List.{AllByRecursion, IsDistinct}
use Rattle.std.proofs.lemmas.Bool.Decides.{nat_tests}
use Rattle.std.proofs.lemmas.List.Elements.{Contains-append_cases, filter-append}
use Rattle.lay_cells.specs.declared.cell_id.CellId.{CellId}
use Rattle.lay_cells.specs.declared.cell_id.CellId.TheVariants.{Symbol, Top}
use Rattle.lay_cells.specs.SameCell.{cell_eq, cell_eq-Decides}
use Rattle.lay_cells.specs.Symbols.{has_cell, has_symbol}
use Rattle.lay_cells.specs.WalkLists.{calls_standing_in}
use Rattle.lay_cells.proofs.GraphLemmas.{same_number}
use Rattle.lay_cells.proofs.MemberLemmas.{contains_none, joined_contains}
use Rattle.lay_layouts.specs.Layout.{Layout}
use Rattle.lay_layouts.specs.Lent.{LentCall, calls_in}
use Rattle.lay_layouts.specs.SlotOrder.{in_slot_order}
use Rattle.lay_items.specs.Graphs.{CoverReached, graph_calls, in_graph, symbol_calls, top_calls}

-- each of the symbols is one of the layout
abbrev pub IsKnown : Layout → List ℕ → Type 0
IsKnown layout symbols = (n : ℕ) → has_symbol symbols n ≡ true → has_symbol (in_slot_order layout.symbols) n ≡ true

abbrev pub IsTop : CellId → Type 0
IsTop Top = Unit {0}
IsTop (Symbol n) = ⊥

-- the cell is one of the symbols, or is the top cell where the search began there
abbrev pub IsIn : CellId → List ℕ → CellId → Type 0
IsIn start symbols Top = IsTop start
IsIn start symbols (Symbol n) = has_symbol symbols n ≡ true

pub other_way : (a b : ℕ) → nat_eq a b ≡ false → nat_eq b a ≡ false
other_way a b h = grind (arith, nat_tests)

-- a symbol stands at some index
find_at : (ns : List ℕ) (n : ℕ) → has_symbol ns n ≡ true → (i : ℕ) × (slice_get ns i ≡ Some n)
find_at [] n h = absurd (true≢false (sym h))
find_at (m ∷ ns) n h = by_test (nat_eq n m) refl h (find_at ns n) where
  by_test : (b : Bool) → nat_eq n m ≡ b → (b || has_symbol ns n) ≡ true → (has_symbol ns n ≡ true → (i : ℕ) × (slice_get ns i ≡ Some n))
      → (i : ℕ) × (slice_get (m ∷ ns) i ≡ Some n)
  by_test true e h rest = (0, ap Some (same_number n m e))
  by_test false e h rest = let f = rest h in (suc f.0, f.1)

-- a cell's calls, among those of one cell
own_all : (c : CellId) (cs : List LentCall) → calls_standing_in (map (in_graph c) cs) c ≡ map (in_graph c) cs
own_all c [] = refl
own_all c (x ∷ xs) =
    ap (λ b. cond b ((c, x.1) ∷ calls_standing_in (map (in_graph c) xs) c) (calls_standing_in (map (in_graph c) xs) c))
    ((cell_eq-Decides c c).1 refl)
    ∙ ap (λ (cs : List (CellId × ℕ)). (c, x.1) ∷ cs) (own_all c xs)

none_of : (d c : CellId) (cs : List LentCall) → cell_eq d c ≡ false → calls_standing_in (map (in_graph d) cs) c ≡ []
none_of d c [] e = refl
none_of d c (x ∷ xs) e =
    ap (λ b. cond b ((d, x.1) ∷ calls_standing_in (map (in_graph d) xs) c) (calls_standing_in (map (in_graph d) xs) c)) e ∙ none_of d c xs e

absent : (m : ℕ) (ns : List ℕ) → AllByRecursion (λ (y : ℕ). nat_eq m y ≡ false) ns → has_symbol ns m ≡ false
absent m [] all = refl
absent m (n ∷ ns) all = ap (λ b. b || has_symbol ns m) all.0 ∙ absent m ns all.1

module _ (layout : Layout) where
  parted : (xs ys : List (CellId × ℕ)) (c : CellId) → calls_standing_in (xs ++ ys) c ≡ calls_standing_in xs c ++ calls_standing_in ys c
  parted xs ys c = filter-append (λ (call : CellId × ℕ). cell_eq call.0 c) xs ys

  of_top : (ns : List ℕ) → calls_standing_in (symbol_calls layout ns) Top ≡ []
  of_top [] = refl
  of_top (n ∷ ns) =
      parted (graph_calls layout (Symbol n)) (symbol_calls layout ns) Top
      ∙ (λ i. none_of (Symbol n) Top (calls_in layout (Symbol n)) refl i ++ of_top ns i)

  of_absent : (ns : List ℕ) (n : ℕ) → has_symbol ns n ≡ false → calls_standing_in (symbol_calls layout ns) (Symbol n) ≡ []
  of_absent [] n h = refl
  of_absent (m ∷ ns) n h = by_test (nat_eq n m) refl h (of_absent ns n) where
    by_test : (b : Bool) → nat_eq n m ≡ b → (b || has_symbol ns n) ≡ false
        → (has_symbol ns n ≡ false → calls_standing_in (symbol_calls layout ns) (Symbol n) ≡ [])
        → calls_standing_in (symbol_calls layout (m ∷ ns)) (Symbol n) ≡ []
    by_test true e h rest = absurd (true≢false h)
    by_test false e h rest =
        let behind = rest h in
        parted (graph_calls layout (Symbol m)) (symbol_calls layout ns) (Symbol n)
        ∙ (λ i. none_of (Symbol m) (Symbol n) (calls_in layout (Symbol m)) (other_way n m e) i ++ behind i)

  of_symbols : (ns : List ℕ) (n : ℕ) → IsDistinct nat_eq ns → has_symbol ns n ≡ true
      → calls_standing_in (symbol_calls layout ns) (Symbol n) ≡ graph_calls layout (Symbol n)
  unfolding IsDistinct
  of_symbols [] n d h = absurd (true≢false (sym h))
  of_symbols (m ∷ ns) n d h = by_test (nat_eq n m) refl h (of_symbols ns n d.1) where
    by_test : (b : Bool) → nat_eq n m ≡ b → (b || has_symbol ns n) ≡ true
        → (has_symbol ns n ≡ true → calls_standing_in (symbol_calls layout ns) (Symbol n) ≡ graph_calls layout (Symbol n))
        → calls_standing_in (symbol_calls layout (m ∷ ns)) (Symbol n) ≡ graph_calls layout (Symbol n)
    by_test true e h rest =
        subst (λ (k : ℕ). calls_standing_in (symbol_calls layout (m ∷ ns)) (Symbol k) ≡ graph_calls layout (Symbol k)) (same_number n m e)
        (parted (graph_calls layout (Symbol m)) (symbol_calls layout ns) (Symbol m)
        ∙ (λ i. own_all (Symbol m) (calls_in layout (Symbol m)) i ++ of_absent ns m (absent m ns d.0) i)
        ∙ append-nil (graph_calls layout (Symbol m)))
    by_test false e h rest =
        let behind = rest h in
        parted (graph_calls layout (Symbol m)) (symbol_calls layout ns) (Symbol n)
        ∙ (λ i. none_of (Symbol m) (Symbol n) (calls_in layout (Symbol m)) (other_way n m e) i ++ behind i)

  -- in each of the cells the graph has the calls of the layout
  pub standing_from : (cell : CellId) (symbols : List ℕ) → CoverReached layout cell symbols → (c : CellId) → IsIn cell symbols c
      → calls_standing_in (top_calls layout cell ++ symbol_calls layout symbols) c ≡ graph_calls layout c
  standing_from Top symbols r Top one =
      parted (graph_calls layout Top) (symbol_calls layout symbols) Top
      ∙ (λ i. own_all Top (calls_in layout Top) i ++ of_top symbols i) ∙ append-nil (graph_calls layout Top)
  standing_from Top symbols r (Symbol n) one =
      parted (graph_calls layout Top) (symbol_calls layout symbols) (Symbol n)
      ∙ (λ i. none_of Top (Symbol n) (calls_in layout Top) refl i ++ of_symbols symbols n r.distinct one i)
  standing_from (Symbol m) symbols r Top one = absurd one
  standing_from (Symbol m) symbols r (Symbol n) one = of_symbols symbols n r.distinct one

  pub closed_in : (cell : CellId) (symbols : List ℕ) → CoverReached layout cell symbols → (c : CellId) → IsIn cell symbols c
      → AllByRecursion (λ (call : LentCall). IsIn cell symbols (Symbol call.1)) (calls_in layout c)
  closed_in Top symbols r Top one = r.begins
  closed_in (Symbol m) symbols r Top one = absurd one
  closed_in cell symbols r (Symbol n) one = let f = find_at symbols n one in r.closed f.0 n f.1

  pub begins_in : (cell : CellId) (symbols : List ℕ) → CoverReached layout cell symbols → IsIn cell symbols cell
  begins_in Top symbols r = tt
  begins_in (Symbol n) symbols r = r.begins

  pub cell_in : (cell : CellId) (symbols : List ℕ) → CoverReached layout cell symbols → IsTrue (has_cell symbols cell)
  cell_in Top symbols r = refl
  cell_in (Symbol n) symbols r = r.begins

  -- each call of the graph stands in a cell of the layout
  pub calls_stand : (cell : CellId) (symbols : List ℕ) (call : CellId × ℕ)
      → Contains (top_calls layout cell ++ symbol_calls layout symbols) call → (c : CellId) × Contains (graph_calls layout c) call
  calls_stand cell symbols call h = elim (Contains-append_cases (top_calls layout cell) (symbol_calls layout symbols) call h) [
    | inl first ↦ of_first cell first
    | inr behind ↦
        let f = joined_contains (λ (n : ℕ). graph_calls layout (Symbol n)) symbols call behind in (Symbol f.0, f.2)
  ] where
    of_first : (d : CellId) → Contains (top_calls layout d) call → (c : CellId) × Contains (graph_calls layout c) call
    of_first Top first = (Top, first)
    of_first (Symbol n) first = absurd (contains_none call first)
