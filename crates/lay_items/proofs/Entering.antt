-- Symbols that are entered behind others, each once.
use Rattle.std.proofs.Common.{◌≡◌, ◌∙◌, ◌≤◌, ◌<◌, ◌+◌, ◌++◌, ◌⊎◌, ◌||◌, ℕ, zero, suc, inl, inr, Bool}
use Rattle.std.proofs.Common.{true, false, true≢false, List, [], ◌∷◌, Some, None, cond, length, nat_eq}
use Rattle.std.proofs.Common.{refl, ap, sym, subst, arith, take, append_assoc, append-nil}
use Rattle.std.specs.Prelude.{slice_get}
use Rattle.std.specs.Cmp.{nat_eq_equiv}
use Rattle.std.specs.FinMap.{entries}
use Rattle.std.specs.List.{AllByRecursion, IsDistinct}
use Rattle.std.proofs.lemmas.Map.Made.{length-le_from_is_member}
use Rattle.std.proofs.lemmas.Option.{get_or_from_slice_get, slice_get_within}
use Rattle.std.proofs.lemmas.List.{take_more}
use Rattle.std.proofs.lemmas.Grind.{flat_map-append}
use Rattle.std.proofs.lemmas.Bool.{or_right}
use Rattle.lay_cells.specs.declared.cell_id.CellId.{CellId}
use Rattle.lay_cells.specs.declared.cell_id.CellId.TheVariants.{Symbol, Top}
use Rattle.lay_cells.specs.SameCell.{cell_eq}
use Rattle.lay_cells.specs.Symbols.{has_symbol, with_symbol}
use Rattle.lay_cells.proofs.BeforeLemmas.{IsBefore, before_one, same_itself, there_one}
use Rattle.lay_cells.proofs.GraphLemmas.{has_more, same_number}
use Rattle.lay_layouts.specs.declared.id.ItemId.{ItemId}
use Rattle.lay_layouts.specs.declared.item.Item.{Item}
use Rattle.lay_layouts.specs.declared.item.Item.TheVariants.{Placed, Shape}
use Rattle.lay_layouts.specs.Items.{cell_of, items_in, standing_in}
use Rattle.lay_layouts.specs.Layout.{Layout, is_cell}
use Rattle.lay_layouts.specs.Lent.{LentCall, calls_in, calls_lent}
use Rattle.lay_layouts.specs.SlotOrder.{in_slot_order}
use Rattle.lay_layouts.specs.Sound.{IsSound}
use Rattle.lay_items.specs.Graphs.{AreCallsTo, BeginsIn, CoverReached, first_symbols, graph_calls, symbol_calls, with_called}
use Rattle.lay_layouts.proofs.Addable.{IsPlaceable, all_placeable, cell_there}
use Rattle.lay_items.proofs.Reaching.{IsKnown}

known_one : (layout : Layout) (s : List ℕ) (m : ℕ) → IsKnown layout s → has_symbol (in_slot_order layout.symbols) m ≡ true
    → IsKnown layout (with_symbol s m)
known_one layout s m known there = by_test (has_symbol s m) where
  by_number : (n : ℕ) (b : Bool) → nat_eq n m ≡ b → (b || has_symbol s n) ≡ true → has_symbol (in_slot_order layout.symbols) n ≡ true
  by_number n true e h = subst (λ (k : ℕ). has_symbol (in_slot_order layout.symbols) k ≡ true) (same_number n m e) there
  by_number n false e h = known n h

  by_test : (b : Bool) → IsKnown layout (cond b s (s ++ m ∷ []))
  by_test true = known
  by_test false = λ n h. by_number n (nat_eq n m) refl (sym (has_more s m n) ∙ h)

pub before : (s : List ℕ) (calls : List LentCall) → IsBefore s (with_called s calls)
before s [] = record { longer = omega arith; front = λ i le. refl; kept = λ n h. h; distinct = λ d. d }
before s (call ∷ calls) =
    let one = before_one s call.1 in
    let rest = before (with_symbol s call.1) calls in
    record {
      longer = omega (arith, one.longer, rest.longer);
      front = λ i le. rest.front i (omega (arith, le, one.longer)) ∙ one.front i le;
      kept = λ n h. rest.kept n (one.kept n h);
      distinct = λ d. rest.distinct (one.distinct d);
    }

pub among_new : (s : List ℕ) (calls : List LentCall) → AreCallsTo (with_called s calls) calls
among_new s [] = tt
among_new s (call ∷ calls) = (
  (before (with_symbol s call.1) calls).kept call.1 (there_one s call.1),
  among_new (with_symbol s call.1) calls,
)

pub among_more : (s t : List ℕ) (calls : List LentCall) → ((n : ℕ) → has_symbol s n ≡ true → has_symbol t n ≡ true) → AreCallsTo s calls
    → AreCallsTo t calls
among_more s t [] kept h = tt
among_more s t (call ∷ calls) kept h = (kept call.1 h.0, among_more s t calls kept h.1)

-- what a layout's calls call is one of its symbols
lent_there : (symbols : List ℕ) (cell : CellId) (es : List (ItemId × Item))
    → AllByRecursion (λ (e : ItemId × Item). IsPlaceable symbols e.1) es → AreCallsTo symbols (calls_lent (standing_in cell es))
lent_there symbols cell [] all = tt
lent_there symbols cell (e ∷ es) all = by_item e.0 e.1 all.0 (cell_eq (cell_of e.1) cell) (lent_there symbols cell es all.1) where
  by_item : (id : ItemId) (item : Item) → IsPlaceable symbols item → (b : Bool) → AreCallsTo symbols (calls_lent (standing_in cell es))
      → AreCallsTo symbols (calls_lent (cond b ((id, item) ∷ standing_in cell es) (standing_in cell es)))
  by_item id (Shape c layer rings) here true rest = rest
  by_item id (Placed c target turn) here true rest = (here, rest)
  by_item id item here false rest = rest

calls_there : (layout : Layout) → IsSound layout → (cell : CellId) → AreCallsTo (in_slot_order layout.symbols) (calls_in layout cell)
unfolding calls_in items_in
calls_there layout sound cell = lent_there (in_slot_order layout.symbols) cell (entries layout.items) (all_placeable layout sound)

known_more : (layout : Layout) (s : List ℕ) (calls : List LentCall) → IsKnown layout s → AreCallsTo (in_slot_order layout.symbols) calls
    → IsKnown layout (with_called s calls)
known_more layout s [] known all = known
known_more layout s (call ∷ calls) known all = known_more layout (with_symbol s call.1) calls (known_one layout s call.1 known all.0) all.1

pub known_called : (layout : Layout) → IsSound layout → (s : List ℕ) (cell : CellId) → IsKnown layout s
    → IsKnown layout (with_called s (calls_in layout cell))
known_called layout sound s cell known = known_more layout s (calls_in layout cell) known (calls_there layout sound cell)

-- so they are no more than the layout has
pub few : (layout : Layout) (s : List ℕ) → IsDistinct nat_eq s → IsKnown layout s → length s ≤ length (in_slot_order layout.symbols)
few layout s distinct known = length-le_from_is_member nat_eq_equiv s (in_slot_order layout.symbols) distinct known

-- the first of them
pub first_known : (layout : Layout) → IsSound layout → (cell : CellId) → is_cell layout cell ≡ true
    → IsKnown layout (first_symbols layout cell)
first_known layout sound Top is = known_called layout sound [] Top (λ n h. absurd (true≢false (sym h)))
first_known layout sound (Symbol m) is =
    known_one layout [] m (λ n h. absurd (true≢false (sym h))) (cell_there layout (Symbol m) is)

pub first_begins : (layout : Layout) (cell : CellId) → BeginsIn layout cell (first_symbols layout cell)
first_begins layout Top = among_new [] (calls_in layout Top)
first_begins layout (Symbol n) = there_one [] n

pub first_distinct : (layout : Layout) (cell : CellId) → IsDistinct nat_eq (first_symbols layout cell)
unfolding IsDistinct
first_distinct layout Top = (before [] (calls_in layout Top)).distinct tt
first_distinct layout (Symbol n) = (tt, tt)

pub begins_more : (layout : Layout) (cell : CellId) (s t : List ℕ) → ((n : ℕ) → has_symbol s n ≡ true → has_symbol t n ≡ true)
    → BeginsIn layout cell s → BeginsIn layout cell t
begins_more layout Top s t kept h = among_more s t (calls_in layout Top) kept h
begins_more layout (Symbol n) s t kept h = kept n h

-- what those before the index call is there
abbrev pub AreClosedTo : Layout → List ℕ → ℕ → Type 0
AreClosedTo layout s index = (i n : ℕ) → i < index → slice_get s i ≡ Some n → AreCallsTo s (calls_in layout (Symbol n))

pub closed_more : (layout : Layout) (s : List ℕ) (index m : ℕ) → index < length s → slice_get s index ≡ Some m → AreClosedTo layout s index
    → AreClosedTo layout (with_called s (calls_in layout (Symbol m))) (index + 1)
closed_more layout s index m within at closed i n le there =
    by_order (before_or i index le) where
      new : List ℕ
      new = with_called s (calls_in layout (Symbol m))

      old : i < length s → slice_get s i ≡ Some n
      old less = sym ((before s (calls_in layout (Symbol m))).front i less) ∙ there

      before_or : (a b : ℕ) → a < b + 1 → (a < b) ⊎ (a ≡ b)
      before_or zero zero h = inr refl
      before_or zero (suc b) h = inl (omega arith)
      before_or (suc a) zero h = absurd (omega (arith, h))
      before_or (suc a) (suc b) h = elim (before_or a b (omega (arith, h))) [ inl l ↦ inl (omega (arith, l)) | inr e ↦ inr (ap suc e) ]

      by_order : (i < index) ⊎ (i ≡ index) → AreCallsTo (with_called s (calls_in layout (Symbol m))) (calls_in layout (Symbol n))
      by_order (inl less) = among_more s (with_called s (calls_in layout (Symbol m))) (calls_in layout (Symbol n))
          (before s (calls_in layout (Symbol m))).kept (closed i n less (old (omega (arith, less, within))))
      by_order (inr same) =
          let here : slice_get s index ≡ Some n = subst (λ (k : ℕ). slice_get s k ≡ Some n) same (old (omega (arith, same, within))) in
          let equal : m ≡ n = cc in
          subst (λ (k : ℕ). AreCallsTo (with_called s (calls_in layout (Symbol m))) (calls_in layout (Symbol k))) equal
          (among_new s (calls_in layout (Symbol m)))

-- where the index is behind the last, all are closed
pub closed_all : (layout : Layout) (s : List ℕ) (index : ℕ) → slice_get s index ≡ None → AreClosedTo layout s index
    → (i n : ℕ) → slice_get s i ≡ Some n → AreCallsTo s (calls_in layout (Symbol n))
closed_all layout s index none closed i n at = closed i n (by_past s index i n none at) at where
  by_past : (xs : List ℕ) (k j x : ℕ) → slice_get xs k ≡ None → slice_get xs j ≡ Some x → j < k
  by_past [] k j x none at = absurd cc
  by_past (y ∷ ys) zero j x none at = absurd cc
  by_past (y ∷ ys) (suc k) zero x none at = omega arith
  by_past (y ∷ ys) (suc k) (suc j) x none at = omega (arith, by_past ys k j x none at)

-- the search as far as it has come
pub record FoundSo (layout : Layout) (cell : CellId) (s : List ℕ) (index : ℕ) : Type 0 where
  pub within : index ≤ length s
  pub begins : BeginsIn layout cell s
  pub closed : AreClosedTo layout s index
  pub known : IsKnown layout s
  pub distinct : IsDistinct nat_eq s

pub first_found : (layout : Layout) → IsSound layout → (cell : CellId) → is_cell layout cell ≡ true → (s : List ℕ)
    → s ≡ first_symbols layout cell → FoundSo layout cell s 0
first_found layout sound cell is s same = subst (λ (t : List ℕ). FoundSo layout cell t 0) (sym same) (record {
  within = omega arith;
  begins = first_begins layout cell;
  closed = λ i n le at. absurd (omega (arith, le));
  known = first_known layout sound cell is;
  distinct = first_distinct layout cell;
})

pub found_few : (layout : Layout) (s : List ℕ) (index n : ℕ) → IsKnown layout s → IsDistinct nat_eq s → slice_get s index ≡ Some n
    → index < length (in_slot_order layout.symbols)
found_few layout s index n known distinct at = omega (arith, few layout s distinct known, slice_get_within s index n at)

pub found_more : (layout : Layout) → IsSound layout → (cell : CellId) (s : List ℕ) (index n : ℕ) → FoundSo layout cell s index
    → slice_get s index ≡ Some n → (t : List ℕ) → t ≡ with_called s (calls_in layout (Symbol n)) → FoundSo layout cell t (index + 1)
found_more layout sound cell s index n so at t same = subst (λ (u : List ℕ). FoundSo layout cell u (index + 1)) (sym same) new where
  longer : IsBefore s (with_called s (calls_in layout (Symbol n)))
  longer = before s (calls_in layout (Symbol n))

  new : FoundSo layout cell (with_called s (calls_in layout (Symbol n))) (index + 1)
  new = record {
    within = omega (arith, longer.longer, slice_get_within s index n at);
    begins = begins_more layout cell s (with_called s (calls_in layout (Symbol n))) longer.kept so.begins;
    closed = closed_more layout s index n (slice_get_within s index n at) at so.closed;
    known = known_called layout sound s (Symbol n) so.known;
    distinct = longer.distinct so.distinct;
  }

pub found_all : (layout : Layout) (cell : CellId) (s : List ℕ) (index : ℕ) → FoundSo layout cell s index → slice_get s index ≡ None
    → CoverReached layout cell s
found_all layout cell s index so none =
    record { begins = so.begins; closed = closed_all layout s index none so.closed; distinct = so.distinct }

-- one symbol more of those whose calls are added
pub take_one : (s : List ℕ) (index n : ℕ) → slice_get s index ≡ Some n → take (index + 1) s ≡ take index s ++ n ∷ []
take_one s index n at =
    take_more s index 0 (slice_get_within s index n at) ∙ ap (λ (k : ℕ). take index s ++ k ∷ []) (get_or_from_slice_get s index n 0 at)

pub calls_one : (layout : Layout) (own calls more : List (CellId × ℕ)) (s : List ℕ) (index n : ℕ) → slice_get s index ≡ Some n
    → calls ≡ own ++ symbol_calls layout (take index s) → more ≡ calls ++ graph_calls layout (Symbol n)
    → more ≡ own ++ symbol_calls layout (take (index + 1) s)
calls_one layout own calls more s index n at so same =
    same ∙ ap (λ (cs : List (CellId × ℕ)). cs ++ graph_calls layout (Symbol n)) so
    ∙ append_assoc own (symbol_calls layout (take index s)) (graph_calls layout (Symbol n))
    ∙ ap (λ (cs : List (CellId × ℕ)). own ++ cs) (joined ∙ ap (symbol_calls layout) (sym (take_one s index n at))) where
      joined : symbol_calls layout (take index s) ++ graph_calls layout (Symbol n) ≡ symbol_calls layout (take index s ++ n ∷ [])
      joined =
          ap (λ (cs : List (CellId × ℕ)). symbol_calls layout (take index s) ++ cs) (sym (append-nil (graph_calls layout (Symbol n))))
          ∙ sym (flat_map-append (λ (k : ℕ). graph_calls layout (Symbol k)) (take index s) (n ∷ []))

pub take_whole : (s : List ℕ) (index : ℕ) → index ≤ length s → slice_get s index ≡ None → take index s ≡ s
take_whole [] zero le none = refl
take_whole [] (suc index) le none = absurd (omega (arith, le))
take_whole (n ∷ s) zero le none = absurd cc
take_whole (n ∷ s) (suc index) le none = ap (λ (ns : List ℕ). n ∷ ns) (take_whole s index (omega (arith, le)) none)

pub has_at : (s : List ℕ) (index n : ℕ) → slice_get s index ≡ Some n → has_symbol s n ≡ true
has_at [] index n at = absurd cc
has_at (m ∷ s) zero n at =
    let same : m ≡ n = cc in subst (λ (k : ℕ). has_symbol (k ∷ s) n ≡ true) (sym same) (ap (λ b. b || has_symbol s n) (same_itself n))
has_at (m ∷ s) (suc index) n at = or_right (nat_eq n m) (has_symbol s n) (has_at s index n at)
