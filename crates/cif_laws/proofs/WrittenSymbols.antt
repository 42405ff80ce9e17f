-- The symbols of a sound layout, and the one that wraps what the top cell holds, may be defined in turn.
use Rattle.std.proofs.Common.{◌≡◌, ℕ, zero, suc, ◌+◌, ◌≤◌, ◌<◌, Bool, true, false, cond, List, [], ◌∷◌, ◌++◌, length, map}
use Rattle.std.proofs.Common.{Option, None, Some, refl, sym, ap, ◌∙◌, subst, arith, All, append_assoc, append-nil, nat_eq}
use Rattle.std.specs.Prelude.{is_some}
use Rattle.std.specs.FinMap.{get}
use Rattle.std.specs.List.{AllByRecursion, IsDistinct}
use Rattle.std.proofs.lemmas.Bool.Decides.{nat_tests}
use Rattle.std.proofs.lemmas.List.{length-append, length-map, map-append}
use Rattle.std.proofs.lemmas.List.Elements.{All-head, All-tail, All-weaker, All-from_recursion, recursion_from_All}
use Rattle.std.proofs.lemmas.List.Folds.{list_any-append}
use Rattle.lay_cells.specs.declared.cell_id.CellId.{CellId}
use Rattle.lay_cells.specs.declared.cell_id.CellId.TheVariants.{Symbol, Top}
use Rattle.lay_cells.specs.declared.cells.TheConstants.{MAX_SYMBOL}
use Rattle.lay_cells.specs.Symbols.{has_symbol}
use Rattle.lay_layouts.specs.declared.slot.CellSlot.{CellSlot}
use Rattle.lay_layouts.specs.Layout.{Layout, is_cell}
use Rattle.lay_layouts.specs.SlotOrder.{in_slot_order}
use Rattle.lay_layouts.specs.Sound.{IsSound}
use Rattle.lay_layouts.proofs.EntryLemmas.{order-distinct, order-symbols, symbols-ordered}
use Rattle.cif_read.specs.declared.file.TheConstants.{MAX_SYMBOLS}
use Rattle.cif_read.proofs.StepFacts.{new_cell}
use Rattle.cif_write.specs.Wrap.{Definition, Written, held_in, least_unused, written_definition}
use Rattle.cif_write.specs.Wrap.{own_definitions, plain_target, unused_from, written, written_with}
use Rattle.cif_write.proofs.UnusedLemmas.{least_unused_is}
use Rattle.cif_laws.specs.Laws.{AreOnNamedLayers}
use Rattle.cif_laws.proofs.HeldItems.{IsHeld, held, plain_called, small_symbol, writable}
use Rattle.cif_laws.proofs.LinesLead.{AreWritable, IsWritable, symbol_of}

-- ---- numbers

unused_within : (count number : ℕ) (numbers : List ℕ) → unused_from count number numbers ≤ number + count
unused_within zero number numbers = omega arith
unused_within (suc count) number numbers = by (has_symbol numbers number) (unused_within count (number + 1) numbers) where
  by : (b : Bool) → unused_from count (number + 1) numbers ≤ number + 1 + count
      → cond b (unused_from count (number + 1) numbers) number ≤ number + suc count
  by true h = omega (arith, h)
  by false h = omega arith

-- a number that isn't among these, nor the one behind them
still_new : (symbols : List ℕ) (m n : ℕ) → has_symbol symbols n ≡ false → nat_eq m n ≡ false → has_symbol (symbols ++ m ∷ []) n ≡ false
still_new symbols m n new apart =
    let turned : nat_eq n m ≡ false = grind (arith, nat_tests) in
    list_any-append (nat_eq n) symbols (m ∷ []) ∙ rw (new, turned) refl

-- the numbers of a layout's own symbols
abbrev pub own_numbers : Layout → List ℕ
own_numbers layout = in_slot_order layout.symbols

pub numbers_again : (layout : Layout) (ns : List ℕ) → map symbol_of (map (written_definition layout) ns) ≡ ns
numbers_again layout [] = refl
numbers_again layout (n ∷ ns) = ap (λ ms. n ∷ ms) (numbers_again layout ns)

-- ---- definitions

-- what is written can be read: its definitions may stand one after the other, and the called symbol is among them
pub record IsWrittenWell (file : Written) : Type 0 where
  pub definitions : AreWritable [] file.definitions
  pub called : has_symbol (map symbol_of file.definitions) file.called ≡ true
  pub small : file.called ≤ MAX_SYMBOL

module _ (layout : Layout) (sound : IsSound layout) (named : AreOnNamedLayers layout) where
  all_writable : (cell : CellId) → AllByRecursion IsWritable (held_in layout cell)
  all_writable cell =
      recursion_from_All IsWritable (held_in layout cell)
      (All-weaker (IsHeld layout cell) IsWritable (writable layout sound cell) (held_in layout cell) (held layout sound named cell))

  -- symbols with different numbers, and what comes behind them
  own_writable : (numbers symbols : List ℕ) (rest : List Definition) → IsDistinct nat_eq numbers
      → All (λ n. has_symbol symbols n ≡ false) numbers
      → All (λ n. n ≤ MAX_SYMBOL) numbers → length symbols + length numbers ≤ MAX_SYMBOLS → AreWritable (symbols ++ numbers) rest
      → AreWritable symbols (map (written_definition layout) numbers ++ rest)
  unfolding IsDistinct
  own_writable [] symbols rest distinct new small room may = subst (λ (ns : List ℕ). AreWritable ns rest) (append-nil symbols) may
  own_writable (n ∷ ns) symbols rest distinct new small room may = (
    record {
      small = All-head (λ m. m ≤ MAX_SYMBOL) n ns small;
      new = All-head (λ m. has_symbol symbols m ≡ false) n ns new;
      room = omega (arith, room);
    },
    all_writable (Symbol n),
    own_writable ns (symbols ++ n ∷ []) rest distinct.1
        (λ i d h. still_new symbols n _ (All-tail (λ m. has_symbol symbols m ≡ false) n ns new i d h)
        (All-from_recursion (λ m. nat_eq n m ≡ false) ns distinct.0 i d h)) (All-tail (λ m. m ≤ MAX_SYMBOL) n ns small)
        (omega (arith, room, length-append symbols (n ∷ [])))
        (subst (λ (ms : List ℕ). AreWritable ms rest) (sym (append_assoc symbols (n ∷ []) ns)) may),
  )

  -- ---- the file

  small_numbers : All (λ n. n ≤ MAX_SYMBOL) (own_numbers layout)
  small_numbers i d h = let at = order-symbols layout.symbols i d h in sound.numbers _ at.0 at.1

  own : (rest : List Definition) → length (own_numbers layout) ≤ MAX_SYMBOLS → AreWritable (own_numbers layout) rest
      → AreWritable [] (own_definitions layout ++ rest)
  own rest room may =
      own_writable (own_numbers layout) [] rest (order-distinct layout.symbols) (λ i d h. refl) small_numbers (omega (arith, room)) may

  -- each symbol of the layout is among its numbers
  pub has_number : (n : ℕ) → is_cell layout (Symbol n) ≡ true → has_symbol (own_numbers layout) n ≡ true
  has_number n h = by (get layout.symbols n) refl h where
    by : (o : Option CellSlot) → get layout.symbols n ≡ o → is_some o ≡ true → has_symbol (own_numbers layout) n ≡ true
    by None at h = absurd cc
    by (Some slot) at h = symbols-ordered layout.symbols n slot at

  well : (o : Option ℕ) → plain_target (held_in layout Top) ≡ o
      → length (written_with (own_definitions layout) (held_in layout Top) (least_unused (own_numbers layout)) o).definitions ≤ MAX_SYMBOLS
      → IsWrittenWell (written_with (own_definitions layout) (held_in layout Top) (least_unused (own_numbers layout)) o)
  well (Some target) at room =
      let there = plain_called layout sound (held_in layout Top) target (held layout sound named Top) at in
      record {
        definitions = subst (AreWritable []) (append-nil (own_definitions layout))
            (own [] (omega (arith, room, length-map (own_numbers layout) (written_definition layout))) tt);
        called = subst (λ (ns : List ℕ). has_symbol ns target ≡ true) (sym (numbers_again layout (own_numbers layout)))
            (has_number target there);
        small = small_symbol layout sound target there;
      }
  well None at room =
      let unused = least_unused (own_numbers layout) in
      let wrapping : Definition = record { number = unused; items = held_in layout Top } in
      let is = least_unused_is (own_numbers layout) in
      let less : length (own_numbers layout) < MAX_SYMBOLS =
      omega (
        arith,
        room,
        length-map (own_numbers layout) (written_definition layout),
        length-append (own_definitions layout) (wrapping ∷ []),
      ) in
      let small : unused ≤ MAX_SYMBOL = omega (arith, less, unused_within (length (own_numbers layout)) 1 (own_numbers layout)) in
      record {
        definitions = own (wrapping ∷ []) (omega (arith, less))
            (record { small = small; new = is.unused; room = less }, all_writable Top, tt);
        called =
            subst (λ (ns : List ℕ). has_symbol ns unused ≡ true) (sym (map-append symbol_of (own_definitions layout) (wrapping ∷ [])))
            (new_cell (map symbol_of (own_definitions layout)) unused);
        small = small;
      }

  pub written_well : length (written layout).definitions ≤ MAX_SYMBOLS → IsWrittenWell (written layout)
  unfolding written
  written_well room = well (plain_target (held_in layout Top)) refl room
