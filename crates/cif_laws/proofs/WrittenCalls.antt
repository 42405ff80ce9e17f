-- The calls that are written for a sound layout are of symbols that are written, and lead to no cycle.
use Rattle.std.proofs.Common.{◌≡◌, ℕ, true, false, ◌||◌, List, [], ◌∷◌, ◌++◌, map, Option, Some}
use Rattle.std.proofs.Common.{None, refl, sym, ap, ◌∙◌, subst, All, Contains, append-nil, nat_eq}
use Rattle.std.specs.List.{flat_map}
use Rattle.std.proofs.lemmas.Bool.{or_right}
use Rattle.std.proofs.lemmas.Bool.Decides.{Decides-eqb}
use Rattle.std.proofs.lemmas.List.{map-append}
use Rattle.std.proofs.lemmas.List.Concat.{flat_map-append}
use Rattle.std.proofs.lemmas.List.Folds.{list_any-append}
use Rattle.std.proofs.lemmas.List.Elements.{All-append, All-cons, All-contains, All-head, All-nil, All-tail, All-weaker}
use Rattle.lay_point.specs.Turns.{unturned}
use Rattle.lay_cells.specs.declared.cell_id.CellId.{CellId}
use Rattle.lay_cells.specs.declared.cell_id.CellId.TheVariants.{Symbol, Top}
use Rattle.lay_cells.specs.Symbols.{has_symbol}
use Rattle.lay_cells.specs.Walks.{IsAcyclic, Walks}
use Rattle.lay_cells.specs.Walks.Walks.{goes, stays}
use Rattle.lay_layouts.specs.declared.item.Item.{Item}
use Rattle.lay_layouts.specs.declared.item.Item.TheVariants.{Placed, Shape}
use Rattle.lay_layouts.specs.Calls.{calls_of}
use Rattle.lay_layouts.specs.Layout.{Layout}
use Rattle.lay_layouts.specs.Sound.{IsSound}
use Rattle.cif_read.specs.declared.element.Element.{Element}
use Rattle.cif_read.specs.declared.element.Figure.{Figure}
use Rattle.cif_read.specs.declared.element.Figure.TheVariants as figure
use Rattle.cif_read.specs.Contents.{element_calls, with_call}
use Rattle.cif_write.specs.declared.boxes.Rectangles.{Rectangles}
use Rattle.cif_write.specs.Wrap.{Definition, Written, held_in, written_definition}
use Rattle.cif_write.specs.Wrap.{least_unused, own_definitions, plain_target, written, written_with}
use Rattle.cif_write.proofs.UnusedLemmas.{least_unused_is}
use Rattle.cif_laws.specs.Laws.{AreOnNamedLayers}
use Rattle.cif_laws.proofs.HeldItems.{IsHeld, held, targets}
use Rattle.cif_laws.proofs.LinesLead.{element_of, elements_of, elements_written, symbol_of}
use Rattle.cif_laws.proofs.WrittenSymbols.{IsWrittenWell, has_number, numbers_again, own_numbers}

-- ---- a symbol that nobody in symbols calls, and the top cell, close no cycle

-- a call of the written layout: one of the layout's own that stands in a symbol; one of the top cell's that stands in
-- the new symbol; or the top cell's
pub data IsFrom (old : List (CellId × ℕ)) (own : List ℕ) : CellId → ℕ → Type 0 where
  in_symbol : {n t : ℕ} → has_symbol own n ≡ true → Contains old (Symbol n, t) → IsFrom old own (Symbol n) t
  in_new : {n t : ℕ} → has_symbol own n ≡ false → Contains old (Top, t) → IsFrom old own (Symbol n) t
  in_top : {t : ℕ} → IsFrom old own Top t

-- no walk leads from a symbol to the top cell
no_walk_to_top : {calls : List (CellId × ℕ)} {from to : CellId} → Walks calls from to → (t : ℕ) → from ≡ Symbol t → to ≡ Top → ⊥
no_walk_to_top stays t e f = let no : Symbol t ≡ Top = sym e ∙ f in cc
no_walk_to_top (goes {target = target} first rest) t e f = no_walk_to_top rest target refl f

module _ (old : List (CellId × ℕ)) (own : List ℕ) (bound : All (λ c. has_symbol own c.1 ≡ true) old) (calls : List (CellId × ℕ))
    (from_old : All (λ c. IsFrom old own c.0 c.1) calls) where
  target_own : (cell : CellId) (t : ℕ) → Contains old (cell, t) → has_symbol own t ≡ true
  target_own cell t there = All-contains (λ c. has_symbol own c.1 ≡ true) old (cell, t) bound there

  -- a walk from one of the layout's own symbols
  record IsOldWalk (t : ℕ) (to : CellId) : Type 0 where
    walk : Walks old (Symbol t) to
    ends : (m : ℕ) → to ≡ Symbol m → has_symbol own m ≡ true

  old_step : (cell : CellId) (target t : ℕ) (to : CellId) → IsFrom old own cell target → cell ≡ Symbol t → has_symbol own t ≡ true
      → (has_symbol own target ≡ true → IsOldWalk target to) → IsOldWalk t to
  old_step cell target t to (in_symbol {n = n} is there) e h rest =
      let same : n ≡ t = cc in
      let first : Contains old (Symbol t, target) = subst (λ (m : ℕ). Contains old (Symbol m, target)) same there in
      let further = rest (target_own (Symbol t) target first) in
      record { walk = goes first further.walk; ends = further.ends }
  old_step cell target t to (in_new {n = n} isnt there) e h rest =
      let same : n ≡ t = cc in
      absurd (let no : true ≡ false = sym h ∙ sym (ap (has_symbol own) same) ∙ isnt in cc)
  old_step cell target t to in_top e h rest = absurd (let no : Top ≡ Symbol t = e in cc)

  old_walk : {from to : CellId} → Walks calls from to → (t : ℕ) → from ≡ Symbol t → has_symbol own t ≡ true → IsOldWalk t to
  old_walk (stays {cell = cell}) t e h = record {
    walk = subst (λ (c : CellId). Walks old (Symbol t) c) (sym e) stays;
    ends = λ m f.
        let same : Symbol t ≡ Symbol m = sym e ∙ f in
        let number : t ≡ m = cc in
        subst (λ (n : ℕ). has_symbol own n ≡ true) number h;
  }
  old_walk {from} {to} (goes {target = target} first rest) t e h =
      old_step from target t to (All-contains (λ c. IsFrom old own c.0 c.1) calls (from, target) from_old first) e h
      (old_walk rest target refl)

  closes_none : (cell : CellId) (target : ℕ) → IsFrom old own cell target → IsAcyclic old → Walks calls (Symbol target) cell → ⊥
  closes_none cell target (in_symbol {n = n} is there) acyclic walk =
      acyclic (Symbol n) target there (old_walk walk target refl (target_own (Symbol n) target there)).walk
  closes_none cell target (in_new {n = n} isnt there) acyclic walk =
      let is = (old_walk walk target refl (target_own Top target there)).ends n refl in
      absurd (let no : true ≡ false = sym is ∙ isnt in cc)
  closes_none cell target in_top acyclic walk = no_walk_to_top walk target refl refl

  pub still_acyclic : IsAcyclic old → IsAcyclic calls
  still_acyclic acyclic cell target there walk =
      closes_none cell target (All-contains (λ c. IsFrom old own c.0 c.1) calls (cell, target) from_old there) acyclic walk

-- ---- the calls that are written

-- what is so of all calls among elements
abbrev pub AllCalls : (CellId → ℕ → Type 0) → List Element → Type 0
AllCalls P es = All (λ c. P c.0 c.1) (element_calls es)

-- the calls among what a cell holds, written in the symbol of this number
held_calls : (way : Rectangles) (P : CellId → ℕ → Type 0) (layout : Layout) (cell : CellId) (number : ℕ) (items : List Item)
    → All (IsHeld layout cell) items → ((t : ℕ) → Contains (calls_of layout) (cell, t) → P (Symbol number) t)
    → AllCalls P (map (element_of way number) items)
held_calls way P layout cell number [] h says = All-nil (λ c. P c.0 c.1)
held_calls way P layout cell number (Shape other layer rings ∷ items) h says =
    held_calls way P layout cell number items (All-tail (IsHeld layout cell) (Shape other layer rings) items h) says
held_calls way P layout cell number (Placed other target turn ∷ items) h says =
    let first = All-head (IsHeld layout cell) (Placed other target turn) items h in
    let listed : Contains (calls_of layout) (cell, target) =
    subst (λ (c : CellId). Contains (calls_of layout) (c, target)) first.stands (first.listed (other, target) refl) in
    All-cons (λ c. P c.0 c.1) (Symbol number, target) (element_calls (map (element_of way number) items)) (says target listed)
    (held_calls way P layout cell number items (All-tail (IsHeld layout cell) (Placed other target turn) items h) says)

element_calls-joined : (xs ys : List Element) → element_calls (xs ++ ys) ≡ element_calls xs ++ element_calls ys
element_calls-joined [] ys = refl
element_calls-joined (x ∷ xs) ys = ap (with_call x.cell x.figure) (element_calls-joined xs ys) ∙ by x.figure where
  by : (f : Figure) → with_call x.cell f (element_calls xs ++ element_calls ys) ≡ with_call x.cell f (element_calls xs) ++ element_calls ys
  by (figure.Polygon layer ring) = refl
  by (figure.Call target turn) = refl

both_calls : (P : CellId → ℕ → Type 0) (xs ys : List Element) → AllCalls P xs → AllCalls P ys → AllCalls P (xs ++ ys)
both_calls P xs ys h g =
    subst (All (λ c. P c.0 c.1)) (sym (element_calls-joined xs ys)) (All-append (λ c. P c.0 c.1) (element_calls xs) (element_calls ys) h g)

each_there : (ns : List ℕ) → All (λ n. has_symbol ns n ≡ true) ns
each_there [] = All-nil (λ n. has_symbol [] n ≡ true)
each_there (n ∷ ns) =
    All-cons (λ m. has_symbol (n ∷ ns) m ≡ true) n ns (ap (λ b. b || has_symbol ns n) ((Decides-eqb n n).1 refl))
    (All-weaker (λ m. has_symbol ns m ≡ true) (λ m. has_symbol (n ∷ ns) m ≡ true) (λ m h. or_right (nat_eq m n) (has_symbol ns m) h)
    ns (each_there ns))

-- where a call comes from, and that its symbol is among these
abbrev pub IsGood : Layout → List ℕ → CellId → ℕ → Type 0
IsGood layout all cell target = IsFrom (calls_of layout) (own_numbers layout) cell target × (has_symbol all target ≡ true)

-- the calls of what is written
abbrev pub WrittenCalls : Rectangles → Layout → Written → Type 0
WrittenCalls way layout file = AllCalls (IsGood layout (map symbol_of file.definitions)) (elements_written way file)

module _ (way : Rectangles) (layout : Layout) (sound : IsSound layout) (named : AreOnNamedLayers layout) where
  own_bound : All (λ c. has_symbol (own_numbers layout) c.1 ≡ true) (calls_of layout)
  own_bound i d h = has_number layout sound named _ (targets layout sound i d h)

  module _ (all : List ℕ) (within : (n : ℕ) → has_symbol (own_numbers layout) n ≡ true → has_symbol all n ≡ true) where
    target_within : (cell : CellId) (t : ℕ) → Contains (calls_of layout) (cell, t) → has_symbol all t ≡ true
    target_within cell t there =
        within t (All-contains (λ c. has_symbol (own_numbers layout) c.1 ≡ true) (calls_of layout) (cell, t) own_bound there)

    own_calls : (ns : List ℕ) → All (λ n. has_symbol (own_numbers layout) n ≡ true) ns
        → AllCalls (IsGood layout all) (flat_map (elements_of way) (map (written_definition layout) ns))
    own_calls [] h = All-nil (λ c. IsGood layout all c.0 c.1)
    own_calls (n ∷ ns) h =
        both_calls (IsGood layout all) (elements_of way (written_definition layout n))
        (flat_map (elements_of way) (map (written_definition layout) ns))
        (held_calls way (IsGood layout all) layout (Symbol n) n (held_in layout (Symbol n)) (held layout sound named (Symbol n))
        (λ t there. (in_symbol (All-head (λ m. has_symbol (own_numbers layout) m ≡ true) n ns h) there, target_within (Symbol n) t there)))
        (own_calls ns (All-tail (λ m. has_symbol (own_numbers layout) m ≡ true) n ns h))

    new_calls : (number : ℕ) → has_symbol (own_numbers layout) number ≡ false
        → AllCalls (IsGood layout all) (map (element_of way number) (held_in layout Top))
    new_calls number new =
        held_calls way (IsGood layout all) layout Top number (held_in layout Top) (held layout sound named Top)
        (λ t there. (in_new new there, target_within Top t there))

    -- with other definitions behind the layout's own
    file_calls : (rest : List Definition) (called : ℕ) → AllCalls (IsGood layout all) (flat_map (elements_of way) rest)
        → has_symbol all called ≡ true
        → AllCalls (IsGood layout all) (elements_written way (record { definitions = own_definitions layout ++ rest; called = called }))
    file_calls rest called others h =
        both_calls (IsGood layout all) (flat_map (elements_of way) (own_definitions layout ++ rest)) (top_call ∷ [])
        (subst (AllCalls (IsGood layout all)) (sym (flat_map-append (elements_of way) (own_definitions layout) rest))
        (both_calls (IsGood layout all) (flat_map (elements_of way) (own_definitions layout)) (flat_map (elements_of way) rest)
        (own_calls (own_numbers layout) (each_there (own_numbers layout))) others))
        (All-cons (λ c. IsGood layout all c.0 c.1) (Top, called) [] (in_top, h) (All-nil (λ c. IsGood layout all c.0 c.1)))
      where
        top_call : Element
        top_call = record { cell = Top; figure = figure.Call called unturned }

  own_within : (rest : List Definition) (n : ℕ) → has_symbol (own_numbers layout) n ≡ true
      → has_symbol (map symbol_of (own_definitions layout ++ rest)) n ≡ true
  own_within rest n h =
      let all : map symbol_of (own_definitions layout ++ rest) ≡ own_numbers layout ++ map symbol_of rest =
      map-append symbol_of (own_definitions layout) rest ∙ ap (λ ns. ns ++ map symbol_of rest)
      (numbers_again layout (own_numbers layout)) in
      ap (λ ns. has_symbol ns n) all ∙ list_any-append (nat_eq n) (own_numbers layout) (map symbol_of rest) ∙ rw h refl

  good_calls : (o : Option ℕ) → plain_target (held_in layout Top) ≡ o
      → IsWrittenWell (written_with (own_definitions layout) (held_in layout Top) (least_unused (own_numbers layout)) o)
      → WrittenCalls way layout (written_with (own_definitions layout) (held_in layout Top) (least_unused (own_numbers layout)) o)
  good_calls (Some target) at well =
      subst (λ (ds : List Definition). WrittenCalls way layout (record { definitions = ds; called = target }))
      (append-nil (own_definitions layout))
      (file_calls (map symbol_of (own_definitions layout ++ [])) (own_within []) [] target
      (All-nil (λ c. IsGood layout (map symbol_of (own_definitions layout ++ [])) c.0 c.1))
      (subst (λ (ds : List Definition). has_symbol (map symbol_of ds) target ≡ true) (sym (append-nil (own_definitions layout)))
      well.called))
  good_calls None at well =
      let unused = least_unused (own_numbers layout) in
      let wrapping : Definition = record { number = unused; items = held_in layout Top } in
      let all = map symbol_of (own_definitions layout ++ wrapping ∷ []) in
      file_calls all (own_within (wrapping ∷ [])) (wrapping ∷ []) unused
      (subst (AllCalls (IsGood layout all)) (sym (append-nil (elements_of way wrapping)))
      (new_calls all (own_within (wrapping ∷ [])) unused (least_unused_is (own_numbers layout)).unused)) well.called

  pub calls_well : IsWrittenWell (written layout) → WrittenCalls way layout (written layout)
  unfolding written
  calls_well well = good_calls (plain_target (held_in layout Top)) refl well
