-- What the cells of a sound layout hold.
use Rattle.std.proofs.Common.{◌≡◌, ℕ, ◌≤◌, Bool, true, false, cond, List, [], ◌∷◌}
use Rattle.std.proofs.Common.{Option, None, Some, refl, sym, subst, arith, All, Contains}
use Rattle.std.specs.Prelude.{IsTrue, is_some}
use Rattle.std.specs.FinMap.{entries, get}
use Rattle.std.specs.List.{cons_option, filter}
use Rattle.std.proofs.lemmas.List.Elements.{All-cons, All-filter, All-head, All-map, All-nil, All-tail}
use Rattle.std.proofs.lemmas.List.Elements.{All-weaker, Contains-append_left, Contains-append_right, filter_passes}
use Rattle.lay_point.proofs.BridgeLemmas.{bridged_is_ring}
use Rattle.lay_point.specs.SameTurn.{turn_eq}
use Rattle.lay_point.specs.Turns.{unturned}
use Rattle.lay_cells.specs.declared.cell_id.CellId.{CellId}
use Rattle.lay_cells.specs.declared.cell_id.CellId.TheVariants.{Symbol, Top}
use Rattle.lay_cells.specs.declared.cells.TheConstants.{MAX_SYMBOL}
use Rattle.lay_cells.specs.SameCell.{cell_eq, cell_eq-Decides}
use Rattle.lay_layouts.specs.declared.id.ItemId.{ItemId}
use Rattle.lay_layouts.specs.declared.item.Item.{Item}
use Rattle.lay_layouts.specs.declared.item.Item.TheVariants.{Placed, Shape}
use Rattle.lay_layouts.specs.declared.slot.CellSlot.{CellSlot}
use Rattle.lay_layouts.specs.Calls.{Call, as_call, calls_among, calls_of}
use Rattle.lay_layouts.specs.IdOrder.{ids_exact, ids_total}
use Rattle.lay_layouts.specs.Items.{cell_of, items_in}
use Rattle.lay_layouts.specs.Layout.{Layout, is_cell}
use Rattle.lay_layouts.specs.Sound.{IsSound, IsSoundItem}
use Rattle.lay_layouts.proofs.EntryLemmas.{entries-found}
use Rattle.cif_write.specs.Wrap.{held_in, plain_target}
use Rattle.cif_laws.specs.Laws.{AreOnNamedLayers, IsOnNamedLayer}
use Rattle.cif_laws.proofs.LinesLead.{IsWritable}

-- ---- calls among items

-- what is so of the calls of entries is so of the calls among them
calls_among-all : (P : Call → Type 0) (es : List (ItemId × Item)) → All (λ e. (c : Call) → as_call e.1 ≡ Some c → P c) es
    → All P (calls_among es)
calls_among-all P [] h = All-nil P
calls_among-all P (e ∷ es) h =
    by (as_call e.1) refl (calls_among-all P es (All-tail (λ x. (c : Call) → as_call x.1 ≡ Some c → P c) e es h)) where
      by : (o : Option Call) → as_call e.1 ≡ o → All P (calls_among es) → All P (cons_option o (calls_among es))
      by None at rest = rest
      by (Some c) at rest = All-cons P c (calls_among es) (All-head (λ x. (c : Call) → as_call x.1 ≡ Some c → P c) e es h c at) rest

-- each entry's call is among them
listed : (es : List (ItemId × Item)) → All (λ e. (c : Call) → as_call e.1 ≡ Some c → Contains (calls_among es) c) es
listed [] = All-nil (λ e. (c : Call) → as_call e.1 ≡ Some c → Contains [] c)
listed (x ∷ es) =
    All-cons (λ e. (c : Call) → as_call e.1 ≡ Some c → Contains (calls_among (x ∷ es)) c) x es
    (λ c at. subst (λ (o : Option Call). Contains (cons_option o (calls_among es)) c) (sym at)
    (Contains-append_left (c ∷ []) (calls_among es) c (first c)))
    (All-weaker (λ e. (c : Call) → as_call e.1 ≡ Some c → Contains (calls_among es) c)
    (λ e. (c : Call) → as_call e.1 ≡ Some c → Contains (calls_among (x ∷ es)) c) (λ e h c at. behind (as_call x.1) c (h c at)) es
    (listed es))
  where
    first : (c : Call) → Contains (c ∷ []) c
    first c = (0, omega arith, refl)

    behind : (o : Option Call) (c : Call) → Contains (calls_among es) c → Contains (cons_option o (calls_among es)) c
    behind None c h = h
    behind (Some d) c h = Contains-append_right (d ∷ []) (calls_among es) c h

-- ---- what is held

pub record IsHeld (layout : Layout) (cell : CellId) (item : Item) : Type 0 where
  pub sound : IsSoundItem layout item
  pub named : IsOnNamedLayer item
  pub stands : cell_of item ≡ cell
  pub listed : (c : Call) → as_call item ≡ Some c → Contains (calls_of layout) c

module _ (layout : Layout) (sound : IsSound layout) where
  -- an entry's item is the layout's
  entry-sound : All (λ e. IsSoundItem layout e.1) (entries layout.items)
  entry-sound =
      All-weaker (λ e. get layout.items e.0 ≡ Some e.1) (λ e. IsSoundItem layout e.1) (λ e at. sound.items e.0 e.1 at)
      (entries layout.items)
      (entries-found ids_total ids_exact layout.items)

  -- what a layout calls is there
  pub targets : All (λ c. IsTrue (is_cell layout (Symbol c.1))) (calls_of layout)
  unfolding calls_of
  targets =
      calls_among-all (λ c. IsTrue (is_cell layout (Symbol c.1))) (entries layout.items)
      (All-weaker (λ e. IsSoundItem layout e.1) (λ e. (c : Call) → as_call e.1 ≡ Some c → IsTrue (is_cell layout (Symbol c.1)))
      (λ e is. by e.1 is) (entries layout.items) entry-sound)
    where
      by : (item : Item) → IsSoundItem layout item → (c : Call) → as_call item ≡ Some c → IsTrue (is_cell layout (Symbol c.1))
      by (Shape cell layer rings) is c at = absurd cc
      by (Placed cell target turn) is c at =
          let same : (cell, target) ≡ c = cc in
          subst (λ (d : Call). IsTrue (is_cell layout (Symbol d.1))) same is.1

  pub small_symbol : (number : ℕ) → is_cell layout (Symbol number) ≡ true → number ≤ MAX_SYMBOL
  small_symbol number h = by (get layout.symbols number) refl h where
    by : (o : Option CellSlot) → get layout.symbols number ≡ o → is_some o ≡ true → number ≤ MAX_SYMBOL
    by None at h = absurd cc
    by (Some slot) at h = sound.numbers number slot at

  module _ (named : AreOnNamedLayers layout) where
    held_entries : All (λ e. IsSoundItem layout e.1 × IsOnNamedLayer e.1
        × ((c : Call) → as_call e.1 ≡ Some c → Contains (calls_of layout) c))
        (entries layout.items)
    unfolding calls_of
    held_entries i d h =
        let at = entries-found ids_total ids_exact layout.items i d h in
        (sound.items _ _ at, named _ _ at, listed (entries layout.items) i d h)

    pub held : (cell : CellId) → All (IsHeld layout cell) (held_in layout cell)
    unfolding items_in
    held cell =
        let test = λ (e : ItemId × Item). cell_eq (cell_of e.1) cell in
        let kept = filter test (entries layout.items) in
        All-map (IsHeld layout cell) (λ (e : ItemId × Item). e.1) kept
        (λ i d h.
        let is = All-filter test
        (λ e. IsSoundItem layout e.1 × IsOnNamedLayer e.1 × ((c : Call) → as_call e.1 ≡ Some c → Contains (calls_of layout) c))
        (entries layout.items)
        held_entries i d h in
        record {
          sound = is.0;
          named = is.1;
          stands = (cell_eq-Decides _ cell).0 (filter_passes test (entries layout.items) i d h);
          listed = is.2;
        })

  -- what is held can be written
  pub writable : (cell : CellId) (item : Item) → IsHeld layout cell item → IsWritable item
  writable cell (Shape other layer rings) is =
      let drawn = is.sound.1 in (is.named, bridged_is_ring rings drawn.each drawn.some drawn.short)
  writable cell (Placed other target turn) is = (small_symbol target is.sound.1, is.sound.2)

  -- a plain call is of a symbol that is there
  pub plain_called : (items : List Item) (target : ℕ) → All (IsHeld layout Top) items → plain_target items ≡ Some target
      → is_cell layout (Symbol target) ≡ true
  plain_called [] target h e = absurd cc
  plain_called (Shape cell layer rings ∷ items) target h e = absurd cc
  plain_called (Placed cell called turn ∷ []) target h e = by (turn_eq turn unturned) e where
    by : (b : Bool) → cond b (Some called) None ≡ Some target → is_cell layout (Symbol target) ≡ true
    by true e =
        let same : called ≡ target = cc in
        subst (λ (n : ℕ). is_cell layout (Symbol n) ≡ true) same (All-head (IsHeld layout Top) (Placed cell called turn) [] h).sound.1
    by false e = absurd cc
  plain_called (Placed cell called turn ∷ item ∷ items) target h e = absurd cc
