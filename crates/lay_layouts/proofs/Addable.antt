-- The calls of a sound layout call its symbols.
use Rattle.std.proofs.Common.{◌≡◌, ◌∙◌, ◌||◌, ℕ, Bool, true, false, List, [], ◌∷◌, Option}
use Rattle.std.proofs.Common.{Some, None, cond, refl, ap, sym, map, nat_eq, is_some, IsTrue, arith}
use Rattle.std.specs.declared.cmp.Ordering.{Ordering}
use Rattle.std.specs.Cmp.{Equal-is, IsTotalOrder, eq_by_cmp_equiv, nat_cmp_total}
use Rattle.std.specs.FinMap.{FinMap, IsAntisymmetric, entries, entries_sorted, find, get, get-entries, get-from_entries}
use Rattle.std.specs.List.{AllByRecursion, list_any}
use Rattle.std.specs.Ordering.{eq_by_cmp, is_eq, nat_cmp, ordering_then}
use Rattle.std.proofs.lemmas.Bool.Decides.{nat_tests}
use Rattle.lay_point.proofs.BoolLaws.{true_by_T}
use Rattle.lay_cells.specs.declared.cell_id.CellId.{CellId}
use Rattle.lay_cells.specs.declared.cell_id.CellId.TheVariants.{Symbol, Top}
use Rattle.lay_cells.specs.Symbols.{has_cell, has_symbol}
use Rattle.lay_layouts.specs.declared.id.ItemId.{ItemId}
use Rattle.lay_layouts.specs.declared.item.Item.{Item}
use Rattle.lay_layouts.specs.declared.item.Item.TheVariants.{Placed, Shape}
use Rattle.lay_layouts.specs.declared.slot.CellSlot.{CellSlot}
use Rattle.lay_layouts.specs.IdOrder.{ids_exact, ids_total}
use Rattle.lay_layouts.specs.Ids.{id_cmp}
use Rattle.lay_layouts.specs.Layout.{Layout, is_cell}
use Rattle.lay_layouts.specs.SlotOrder.{Standing, by_slot_order, in_slot_order, rank, standing_cmp, standing_of}
use Rattle.lay_layouts.specs.Sound.{IsSound, IsSoundItem}
use Rattle.lay_layouts.proofs.DistinctLemmas.{AreDistinct}
use Rattle.lay_layouts.proofs.SlotLemmas.{find-standings, of_rank, sorted-distinct, standings_total}

-- what is found among entries is among their values
found-any : {K : Type 0} (R : K → K → Ordering) (es : List (K × ℕ)) (k : K) (n : ℕ) → find R k es ≡ Some n
    → list_any (nat_eq n) (map (λ (e : K × ℕ). e.1) es) ≡ true
found-any R [] k n at = absurd cc
found-any {K} R (e ∷ es) k n at = by_key (eq_by_cmp R k e.0) at (found-any R es k n) where
  or_true : (b : Bool) → (b || true) ≡ true
  or_true true = refl
  or_true false = refl

  by_key : (b : Bool) → cond b (Some e.1) (find R k es) ≡ Some n
      → (find R k es ≡ Some n → list_any (nat_eq n) (map (λ (f : K × ℕ). f.1) es) ≡ true)
      → (nat_eq n e.1 || list_any (nat_eq n) (map (λ (f : K × ℕ). f.1) es)) ≡ true
  by_key true at rest =
      let same : e.1 ≡ n = cc in
      let test : nat_eq n e.1 ≡ true = grind (arith, nat_tests) in
      ap (λ b. b || list_any (nat_eq n) (map (λ (f : K × ℕ). f.1) es)) test
  by_key false at rest = ap (λ b. nat_eq n e.1 || b) (rest at) ∙ or_true (nat_eq n e.1)

-- a symbol of the map is among the symbols in order
has_slot : (symbols : FinMap nat_cmp CellSlot) (n : ℕ) → is_some (get symbols n) ≡ true → has_symbol (in_slot_order symbols) n ≡ true
unfolding in_slot_order
has_slot symbols n there = by_slot (get symbols n) refl there where
  by_slot : (o : Option CellSlot) → get symbols n ≡ o → is_some o ≡ true
      → list_any (nat_eq n) (map (λ (e : Standing × ℕ). e.1) (entries (by_slot_order (entries symbols)))) ≡ true
  by_slot None is some = absurd cc
  by_slot (Some slot) is some =
      let m : FinMap standing_cmp ℕ = by_slot_order (entries symbols) in
      let same : is_eq (ordering_then (nat_cmp (rank slot).0 (rank slot).0) (nat_cmp (rank slot).1 (rank slot).1)) ≡ true =
      ranks (rank slot) in
      let at : find standing_cmp (rank slot, n) (entries m) ≡ Some n =
      sym (get-entries m (rank slot, n)) ∙ get-from_entries standings_total (map standing_of (entries symbols)) (rank slot, n)
      ∙ find-standings (entries symbols) (rank slot) n (sorted-distinct nat_cmp (entries symbols) (true_by_T _ (entries_sorted symbols)))
      ∙ ap (of_rank (rank slot) n) (sym (get-entries symbols n) ∙ is) ∙ ap (λ b. cond b (Some n) None) same in
      found-any standing_cmp (entries m) (rank slot, n) n at where
        equal : (k : ℕ) → eq_by_cmp nat_cmp k k ≡ true
        equal k = (eq_by_cmp_equiv nat_cmp_total).refl k

        ranks : (r : ℕ × ℕ) → is_eq (ordering_then (nat_cmp r.0 r.0) (nat_cmp r.1 r.1)) ≡ true
        ranks r =
            ap (λ o. is_eq (ordering_then o (nat_cmp r.1 r.1))) ((Equal-is (nat_cmp r.0 r.0)).0 (equal r.0)) ∙ equal r.1

-- a cell of a layout is one of the graph
pub cell_there : (layout : Layout) (cell : CellId) → is_cell layout cell ≡ true → IsTrue (has_cell (in_slot_order layout.symbols) cell)
cell_there layout Top is = refl
cell_there layout (Symbol n) is = has_slot layout.symbols n is

-- what is so of all that is found is so of all entries
all_found : {K X : Type 0} (R : K → K → Ordering) → IsTotalOrder R → IsAntisymmetric R → (P : X → Type 0) (es : List (K × X))
    → AreDistinct R es
    → ((k : K) (x : X) → find R k es ≡ Some x → P x) → AllByRecursion (λ (e : K × X). P e.1) es
all_found R total exact P [] h each = tt
all_found {K} {X} R total exact P (e ∷ es) h each = (
  each e.0 e.1 (ap (λ b. cond b (Some e.1) (find R e.0 es)) ((eq_by_cmp_equiv total).refl e.0)),
  all_found R total exact P es h.1 (λ k x at. each k x (behind k x (eq_by_cmp R k e.0) refl at)),
) where
  behind : (k : K) (x : X) (b : Bool) → eq_by_cmp R k e.0 ≡ b → find R k es ≡ Some x → cond b (Some e.1) (find R k es) ≡ Some x
  behind k x true is at =
      let none : find R k es ≡ None = ap (λ q. find R q es) (exact k e.0 ((Equal-is (R k e.0)).0 is)) ∙ h.0 in absurd cc
  behind k x false is at = at

-- the symbol that an item calls is there, where it is a call
abbrev pub IsPlaceable : List ℕ → Item → Type 0
IsPlaceable symbols (Shape cell layer rings) = Unit {0}
IsPlaceable symbols (Placed cell target turn) = IsTrue (has_symbol symbols target)

sound_placeable : (layout : Layout) (item : Item) → IsSoundItem layout item → IsPlaceable (in_slot_order layout.symbols) item
sound_placeable layout (Shape cell layer rings) sound = tt
sound_placeable layout (Placed cell target turn) sound = cell_there layout (Symbol target) sound.1

-- each call of a sound layout calls one of its symbols
pub all_placeable : (layout : Layout) → IsSound layout
    → AllByRecursion (λ (e : ItemId × Item). IsPlaceable (in_slot_order layout.symbols) e.1) (entries layout.items)
all_placeable layout sound =
    all_found id_cmp ids_total ids_exact (IsPlaceable (in_slot_order layout.symbols)) (entries layout.items)
    (sorted-distinct id_cmp (entries layout.items) (true_by_T _ (entries_sorted layout.items)))
    (λ id item at. sound_placeable layout item (sound.items id item (get-entries layout.items id ∙ at)))
