-- Symbols made behind all others: in slot order their numbers follow the others.
use Rattle.std.proofs.Common.{◌≡◌, ◌∙◌, ◌++◌, ◌+◌, ◌<◌, ◌⊎◌, ◌&&◌, ℕ, Bool, true, false, List, [], ◌∷◌, length, map, take, get_or}
use Rattle.std.proofs.Common.{Option, Some, None, is_none, cond, refl, ap, sym, subst, arith, All, slice_get, nat_eq, nat_lt}
use Rattle.std.proofs.Common.{inl, inr}
use Rattle.std.specs.declared.cmp.Ordering.{Ordering}
use Rattle.std.specs.declared.cmp.Ordering.TheVariants.{Greater, Less}
use Rattle.std.specs.Cmp.{Equal-is, nat_cmp_is, nat_cmp_total, ranked}
use Rattle.std.specs.FinMap.{FinMap, entries, entries-insert, entries_sorted, find, get, get-entries, get-from_entries, get-insert}
use Rattle.std.specs.FinMap.{insert, put, same_map, values}
use Rattle.std.specs.FinMap.Entries.{by_order}
use Rattle.std.specs.List.{AllByRecursion, IsDistinct}
use Rattle.std.specs.List.Sorted.{IsStrictlySortedBy}
use Rattle.std.specs.Map.{keys_of}
use Rattle.std.specs.Ordering.{eq_by_cmp, nat_cmp}
use Rattle.std.proofs.lemmas.Bool.{and_parts, le-ltb, ltb-false, ltb-true}
use Rattle.std.proofs.lemmas.List.{get_or-map, length-map, map-append, take_all, take_more}
use Rattle.std.proofs.lemmas.List.Elements.{All-head, All-tail, All-weaker}
use Rattle.std.proofs.lemmas.Map.Lookups.{exact_unsigned}
use Rattle.std.proofs.lemmas.Option.{get_or_from_slice_get}
use Rattle.lay_point.proofs.BoolLaws.{true_by_T}
use Rattle.lay_cells.specs.Symbols.{has_symbol, with_symbol}
use Rattle.lay_layouts.specs.declared.slot.CellSlot.{CellSlot}
use Rattle.lay_layouts.specs.declared.slot.CellSlot.TheVariants.{Base, Made}
use Rattle.lay_layouts.specs.Layout.{SymbolWrite, put_all, symbols_of}
use Rattle.lay_layouts.specs.SlotOrder.{AreMadeUpTo, Standing, by_slot_order, in_slot_order, is_behind, is_made, rank, standing_cmp}
use Rattle.lay_layouts.proofs.EntryLemmas.{IsStanding, all_standing, found_standing, order_is, standings, symbols-ordered}
use Rattle.lay_layouts.proofs.MapLemmas.{no_length, sorted_keys}
use Rattle.lay_layouts.proofs.SlotLemmas.{by_slot_order-entries, sorted-distinct, standings_exact, standings_total}
use Rattle.lay_layouts.proofs.SymbolLemmas.{in_slot_order-distinct, with_symbol-new}

abbrev Symbols : Type 0
Symbols = FinMap nat_cmp CellSlot

pub nothing : {X : Type 0} (o : Option X) → is_none o ≡ true → o ≡ None
nothing None h = refl
nothing (Some x) h = absurd cc

made_is : (o : Option CellSlot) → is_made o ≡ true → o ≡ Some Made
made_is None h = absurd cc
made_is (Some (Base place)) h = absurd cc
made_is (Some Made) h = refl

-- ---- one symbol more

entries_map : (s : Symbols) → symbols_of (entries s) ≡ s
entries_map s = same_map nat_cmp_total exact_unsigned _ s (λ q. get-from_entries nat_cmp_total (entries s) q ∙ sym (get-entries s q))

-- a key above all others goes to the back
put_last : {K X : Type 0} (R : K → K → Ordering) (k : K) (v : X) (es : List (K × X)) → All (λ e. R k e.0 ≡ Greater) es
    → put R k v es ≡ es ++ (k, v) ∷ []
put_last R k v [] above = refl
put_last R k v (e ∷ es) above =
    ap (λ o. by_order o ((k, v) ∷ e ∷ es) ((e.0, v) ∷ es) (e ∷ put R k v es)) (All-head (λ e. R k e.0 ≡ Greater) e es above)
    ∙ ap (λ fs. e ∷ fs) (put_last R k v es (All-tail (λ e. R k e.0 ≡ Greater) e es above))

module _ (s : Symbols) (n : ℕ) (below : (m : ℕ) → get s m ≡ Some Made → m < n) where
  -- it stands above each other
  above : (e : Standing × ℕ) → IsStanding s e → standing_cmp (rank Made, n) e.0 ≡ Greater
  above e st = ap (standing_cmp (rank Made, n)) st.under ∙ by st.slot st.at where
    by : (slot : CellSlot) → get s e.1 ≡ Some slot → standing_cmp (rank Made, n) (rank slot, e.1) ≡ Greater
    by (Base place) at = refl
    by Made at = sym (nat_cmp_is n e.1 Greater (below e.1 at))

  made_behind : get s n ≡ None → in_slot_order (insert s n Made) ≡ in_slot_order s ++ n ∷ []
  unfolding in_slot_order standings
  made_behind none =
      let es : List (ℕ × CellSlot) = entries s in
      let m : FinMap standing_cmp ℕ = by_slot_order es in
      let more : by_slot_order (entries (insert s n Made)) ≡ insert m (rank Made, n) n =
      ap (λ (t : Symbols). by_slot_order (entries (insert t n Made))) (sym (entries_map s))
      ∙ by_slot_order-entries ((n, Made) ∷ es) (
        sym (get-entries s n)
            ∙ none,
        sorted-distinct nat_cmp es (true_by_T _ (entries_sorted s)),
      ) in
      let last : entries (insert m (rank Made, n) n) ≡ entries m ++ ((rank Made, n), n) ∷ [] =
      entries-insert standings_total m (rank Made, n) n
      ∙ put_last standing_cmp (rank Made, n) n (entries m)
      (All-weaker (IsStanding s) (λ e. standing_cmp (rank Made, n) e.0 ≡ Greater) above (entries m) (all_standing s)) in
      ap values more ∙ ap (map (λ (e : Standing × ℕ). e.1)) last
      ∙ map-append (λ (e : Standing × ℕ). e.1) (entries m) (((rank Made, n), n) ∷ [])

-- ---- many

-- the symbols so far: all that were made are up to the last, and what is behind it is new where it was; the writes
-- that are left lead from here to the whole
pub record IsGrown (old : Symbols) (left : List SymbolWrite) (whole : Symbols) (cells : List ℕ) (last : Option ℕ) : Type 0 where
  pub now : Symbols
  pub ordered : cells ≡ in_slot_order now
  pub made : AreMadeUpTo now last
  pub new : (n : ℕ) → is_behind last n ≡ true → get old n ≡ None → get now n ≡ None
  pub rest : put_all now left ≡ whole

pub start : (old : Symbols) (writes : List SymbolWrite) (cells : List ℕ) (last : Option ℕ) → cells ≡ in_slot_order old
    → AreMadeUpTo old last → IsGrown old writes (put_all old writes) cells last
start old writes cells last ordered made =
    record { now = old; ordered = ordered; made = made; new = λ n behind none. none; rest = refl }

lower : (last : Option ℕ) (m n : ℕ) → is_behind last m ≡ false → is_behind last n ≡ true → m < n
lower None m n h k = absurd cc
lower (Some last) m n h k = omega (arith, ltb-false last m h, ltb-true last n k)

further : (last : Option ℕ) (m n : ℕ) → is_behind last n ≡ true → n < m → is_behind last m ≡ true
further None m n h k = refl
further (Some last) m n h k = grind (arith, ltb-true last n h)

pub grown : (old : Symbols) (left : List SymbolWrite) (whole : Symbols) (cells : List ℕ) (last : Option ℕ) (n : ℕ)
    (slot : Option CellSlot) → IsGrown old ((n, slot) ∷ left) whole cells last
    → (is_made slot && (is_behind last n && is_none (get old n))) ≡ true
    → IsGrown old left whole (with_symbol cells n) (Some n)
grown old left whole cells last n None g test = absurd cc
grown old left whole cells last n (Some (Base place)) g test = absurd cc
grown old left whole cells last n (Some Made) g test = record {
  now = insert g.now n Made;
  ordered = with_symbol-new cells n [] distinct ∙ order;
  made = λ m is. made m is (eq_by_cmp nat_cmp m n) refl;
  new = λ m behind none. get-insert nat_cmp_total g.now n Made m ∙ other m (ltb-true n m behind) none (eq_by_cmp nat_cmp m n) refl;
  rest = g.rest;
} where
  parts : (is_behind last n ≡ true) × (is_none (get old n) ≡ true)
  parts = and_parts (is_behind last n) (is_none (get old n)) test

  below : (m : ℕ) → get g.now m ≡ Some Made → m < n
  below m at = lower last m n (g.made m (ap is_made at)) parts.0

  order : cells ++ n ∷ [] ≡ in_slot_order (insert g.now n Made)
  order =
      ap (λ (ns : List ℕ). ns ++ n ∷ []) g.ordered
      ∙ sym (made_behind g.now n below (g.new n parts.0 (nothing (get old n) parts.1)))

  distinct : IsDistinct nat_eq (cells ++ n ∷ [])
  distinct = subst (λ (ns : List ℕ). IsDistinct nat_eq ns) (sym order) (in_slot_order-distinct (insert g.now n Made))

  same : (m : ℕ) → eq_by_cmp nat_cmp m n ≡ true → m ≡ n
  same m is = exact_unsigned m n ((Equal-is (nat_cmp m n)).0 is)

  made : (m : ℕ) → is_made (get (insert g.now n Made) m) ≡ true → (b : Bool) → eq_by_cmp nat_cmp m n ≡ b → nat_lt n m ≡ false
  made m is true e = le-ltb n m (omega (arith, same m e))
  made m is false e =
      let at : is_made (get g.now m) ≡ true =
      sym (ap is_made (get-insert nat_cmp_total g.now n Made m ∙ ap (λ b. cond b (Some Made) (get g.now m)) e)) ∙ is in
      le-ltb n m (omega (arith, below m (made_is (get g.now m) at)))

  other : (m : ℕ) → n < m → get old m ≡ None → (b : Bool) → eq_by_cmp nat_cmp m n ≡ b → cond b (Some Made) (get g.now m) ≡ None
  other m less none true e = absurd (omega (arith, same m e, less))
  other m less none false e = g.new m (further last m n parts.0 less) none

-- ---- the last symbol

-- what holds of all keys holds of the last
last_key : {K X : Type 0} (P : K → Type 0) (front : List (K × X)) (e : K × X) → AllByRecursion P (keys_of (front ++ e ∷ [])) → P e.0
last_key P [] e all = all.0
last_key P (f ∷ front) e all = last_key P front e all.1

-- what is found is at the last key or below it
found_last : (q : Standing) (m : ℕ) (front : List (Standing × ℕ)) (e : Standing × ℕ)
    → IsStrictlySortedBy standing_cmp (keys_of (front ++ e ∷ [])) → find standing_cmp q (front ++ e ∷ []) ≡ Some m
    → (standing_cmp q e.0 ≡ Less) ⊎ (q ≡ e.0)
unfolding IsStrictlySortedBy
found_last q m [] e sorted at = by (eq_by_cmp standing_cmp q e.0) refl at where
  by : (b : Bool) → eq_by_cmp standing_cmp q e.0 ≡ b → cond b (Some e.1) None ≡ Some m → (standing_cmp q e.0 ≡ Less) ⊎ (q ≡ e.0)
  by true is at = inr (standings_exact q e.0 ((Equal-is (standing_cmp q e.0)).0 is))
  by false is at = absurd cc
found_last q m (f ∷ front) e sorted at = by (eq_by_cmp standing_cmp q f.0) refl at (found_last q m front e sorted.1) where
  by : (b : Bool) → eq_by_cmp standing_cmp q f.0 ≡ b → cond b (Some f.1) (find standing_cmp q (front ++ e ∷ [])) ≡ Some m
      → (find standing_cmp q (front ++ e ∷ []) ≡ Some m → (standing_cmp q e.0 ≡ Less) ⊎ (q ≡ e.0))
      → (standing_cmp q e.0 ≡ Less) ⊎ (q ≡ e.0)
  by true is at rest =
      let same : q ≡ f.0 = standings_exact q f.0 ((Equal-is (standing_cmp q f.0)).0 is) in
      inl (ap (λ k. standing_cmp k e.0) same ∙ last_key (λ y. standing_cmp f.0 y ≡ Less) front e sorted.0)
  by false is at rest = rest at

-- no symbol at all
pub none_made : (s : Symbols) (cells : List ℕ) → cells ≡ in_slot_order s → length cells ≡ 0 → AreMadeUpTo s None
none_made s cells ordered none n is =
    let there : has_symbol (in_slot_order s) n ≡ true = symbols-ordered s n Made (made_is (get s n) is) in
    let nowhere : has_symbol (in_slot_order s) n ≡ false =
    ap (λ (ns : List ℕ). has_symbol ns n) (sym ordered ∙ no_length cells none) in
    absurd cc

module _ (s : Symbols) (cells : List ℕ) (ordered : cells ≡ in_slot_order s) (p x : ℕ) (len : length cells ≡ p + 1)
    (at_last : slice_get cells p ≡ Some x) where
  es : List (Standing × ℕ)
  es = standings s

  e : Standing × ℕ
  e = get_or es p (((0, 0), 0), x)

  es_len : length es ≡ p + 1
  unfolding es
  es_len = sym (length-map es (λ e. e.1)) ∙ ap length (sym (ordered ∙ order_is s)) ∙ len

  number : e.1 ≡ x
  unfolding e es
  number =
      sym (get_or-map (λ e. e.1) es p (((0, 0), 0), x) x (omega (arith, es_len)))
      ∙ get_or_from_slice_get (map (λ e. e.1) es) p x x (sym (ap (λ (ns : List ℕ). slice_get ns p) (ordered ∙ order_is s)) ∙ at_last)

  split : es ≡ take p es ++ e ∷ []
  unfolding e
  split = sym (take_all (p + 1) es (omega (arith, es_len))) ∙ take_more es p (((0, 0), 0), x) (omega (arith, es_len))

  standing : IsStanding s e
  unfolding e es
  standing = all_standing s p (((0, 0), 0), x) (omega (arith, es_len))

  sorted : IsStrictlySortedBy standing_cmp (keys_of (take p es ++ e ∷ []))
  unfolding es standings
  sorted =
      subst (λ (fs : List (Standing × ℕ)). IsStrictlySortedBy standing_cmp (keys_of fs)) split
      (sorted_keys standing_cmp es (true_by_T _ (entries_sorted (by_slot_order (entries s)))))

  -- it has a slot
  pub last_slot : get s x ≡ None → ⊥
  last_slot none =
      let at : get s x ≡ Some standing.slot = ap (get s) (sym number) ∙ standing.at in
      let no : ◌≡◌ {A = Option CellSlot} None (Some standing.slot) = sym none ∙ at in
      absurd cc

  -- no symbol stands behind it
  greatest : (slot other : CellSlot) (m : ℕ) → get s x ≡ Some slot → get s m ≡ Some other
      → (standing_cmp (rank other, m) (rank slot, x) ≡ Less) ⊎ ◌≡◌ {A = Standing} (rank other, m) (rank slot, x)
  unfolding es
  greatest slot other m at other_at =
      let slots : Some standing.slot ≡ Some slot = sym standing.at ∙ ap (get s) number ∙ at in
      let same : standing.slot ≡ slot = cc in
      let key : e.0 ≡ (rank slot, x) = standing.under ∙ (λ i. (rank (same i), number i)) in
      subst (λ (k : Standing). (standing_cmp (rank other, m) k ≡ Less) ⊎ ◌≡◌ {A = Standing} (rank other, m) k) key
      (found_last (rank other, m) m (take p es) e sorted
      (ap (find standing_cmp (rank other, m)) (sym split) ∙ found_standing s m other other_at))

  pub last_made : get s x ≡ Some Made → AreMadeUpTo s (Some x)
  last_made at m is = by (greatest Made Made m at (made_is (get s m) is)) where
    by : (standing_cmp (rank Made, m) (rank Made, x) ≡ Less) ⊎ ◌≡◌ {A = Standing} (rank Made, m) (rank Made, x) → nat_lt x m ≡ false
    by (inl less) = le-ltb x m (omega (arith, ranked m x Less (sym less)))
    by (inr same) = le-ltb x m (omega (arith, ap (λ (k : Standing). k.1) same))

  pub last_base : (place : ℕ) → get s x ≡ Some (Base place) → AreMadeUpTo s None
  last_base place at m is = absurd (by (greatest (Base place) Made m at (made_is (get s m) is))) where
    by : (standing_cmp (rank Made, m) (rank (Base place), x) ≡ Less) ⊎ ◌≡◌ {A = Standing} (rank Made, m) (rank (Base place), x) → ⊥
    by (inl less) = absurd cc
    by (inr same) = absurd (let no : 1 ≡ 0 = ap (λ (k : Standing). k.0.0) same in omega (arith, no))
