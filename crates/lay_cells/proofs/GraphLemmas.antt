-- The rows of a call graph stay its calls, by position, where a call is added.
use Rattle.std.proofs.Common.{◌≡◌, ℕ, zero, suc, ◌+◌, ◌<◌, ◌≤◌, inl, inr, Bool, true, false, not, cond}
use Rattle.std.proofs.Common.{List, [], ◌∷◌, ◌++◌, length, refl, ap, sym, ◌∙◌}
use Rattle.std.proofs.Common.{subst, arith, nat_eq, nat_lt, IsTrue, Some, None, slice_index_or, map, ◌||◌, true≢false, append-nil}
use Rattle.std.proofs.Common.{Contains, unwrap_or, position}
use Rattle.std.specs.Global.{Vec}
use Rattle.std.specs.List.{position_or_len}
use Rattle.std.proofs.lemmas.Bool.{cases_eq, false_from_ne_true}
use Rattle.std.proofs.lemmas.Bool.Decides.{nat_tests, same_from_decides}
use Rattle.std.proofs.lemmas.List.{map-append, length-set, length-map, get_or-map, get_or-set_same, get_or-set_other}
use Rattle.std.proofs.lemmas.List.Elements.{filter-append, Contains-append_left, Contains-push, Contains-push_cases}
use Rattle.std.proofs.lemmas.List.Sums.{prefix_len-le-length}
use Rattle.lay_cells.specs.declared.cell_id.CellId.{CellId}
use Rattle.lay_cells.specs.declared.cell_id.CellId.TheVariants.{Top, Symbol}
use Rattle.lay_cells.specs.Graph.{AreRowsOf, HasCall, position_of, row, rows_of, with_target}
use Rattle.lay_cells.specs.SameCell.{cell_eq, cell_eq-Decides}
use Rattle.lay_cells.specs.Symbols.{has_cell, has_symbol}
use Rattle.lay_cells.specs.WalkLists.{calls_standing_in}

-- whether two cells are the same doesn't depend on which is named first
pub cells_swapped : (c d : CellId) → cell_eq c d ≡ cell_eq d c
cells_swapped c d = same_from_decides (cell_eq c d) (cell_eq d c) (cell_eq-Decides c d)
    ((λ h. sym ((cell_eq-Decides d c).0 h)), (λ e. (cell_eq-Decides d c).1 (sym e)))

-- a position is among the cells
pub position_of-within : (symbols : List ℕ) (cell : CellId) → position_of symbols cell < length symbols + 1
position_of-within symbols Top = omega arith
position_of-within symbols (Symbol n) = omega (arith, prefix_len-le-length (λ x. not (nat_eq n x)) symbols)

pub same_number : (a b : ℕ) → nat_eq a b ≡ true → b ≡ a
same_number a b h = grind (arith, nat_tests)

IsFound : List ℕ → ℕ → ℕ → Type 0
IsFound xs n i = (i < length xs) × (slice_index_or xs i 0 ≡ n)

IsFound-behind : (x : ℕ) (xs : List ℕ) (n i : ℕ) → IsFound xs n i → IsFound (x ∷ xs) n (1 + i)
unfolding IsFound
IsFound-behind x xs n i f = let e : 1 + i ≡ suc i = omega arith in rw e (omega (arith, f.0), f.1)

found_here_or_behind : (x n : ℕ) (xs : List ℕ) (b : Bool) → nat_eq n x ≡ b → (b || has_symbol xs n) ≡ true
    → (has_symbol xs n ≡ true → IsFound xs n (position_or_len (nat_eq n) xs))
    → IsFound (x ∷ xs) n (cond (not b) (1 + position_or_len (nat_eq n) xs) 0)
unfolding IsFound
found_here_or_behind x n xs true e g rest = (omega arith, same_number n x e)
found_here_or_behind x n xs false e g rest = IsFound-behind x xs n (position_or_len (nat_eq n) xs) (rest g)

-- a symbol stands at its position
found : (xs : List ℕ) (n : ℕ) → has_symbol xs n ≡ true → IsFound xs n (position_or_len (nat_eq n) xs)
found [] n h = absurd (true≢false (sym h))
found (x ∷ xs) n h = found_here_or_behind x n xs (nat_eq n x) refl h (found xs n)

-- a symbol more
pub has_more : (found : List ℕ) (n m : ℕ) → has_symbol (found ++ n ∷ []) m ≡ (nat_eq m n || has_symbol found m)
has_more [] n m = refl
has_more (k ∷ found) n m = ap (λ b. nat_eq m k || b) (has_more found n m) ∙ swap (nat_eq m k) (nat_eq m n) (has_symbol found m) where
  swap : (a b e : Bool) → (a || (b || e)) ≡ (b || (a || e))
  swap true true e = refl
  swap true false e = refl
  swap false true e = refl
  swap false false e = refl

-- cells at one position are the same
pub position_of-injective : (symbols : List ℕ) (a b : CellId) → IsTrue (has_cell symbols a) → IsTrue (has_cell symbols b)
    → position_of symbols a ≡ position_of symbols b → a ≡ b
unfolding IsFound
position_of-injective symbols Top Top ha hb e = refl
position_of-injective symbols Top (Symbol n) ha hb e = let f = found symbols n hb in absurd (omega (arith, e, f.0))
position_of-injective symbols (Symbol m) Top ha hb e = let f = found symbols m ha in absurd (omega (arith, e, f.0))
position_of-injective symbols (Symbol m) (Symbol n) ha hb e =
    ap Symbol (sym (found symbols m ha).1 ∙ ap (λ i. slice_index_or symbols i 0) e ∙ (found symbols n hb).1)

last : (a b : ℕ) → nat_lt a b ≡ false → a ≤ b → b ≡ a
last a b e h = grind (arith, nat_tests)

-- the position of what is found, or the length
pub found_or_len : (p : ℕ → Bool) (xs : List ℕ) → unwrap_or (position p xs) (length xs) ≡ position_or_len p xs
found_or_len p xs =
    elim (nat_lt (position_or_len p xs) (length xs)) as
    (λ b. nat_lt (position_or_len p xs) (length xs) ≡ b
    → unwrap_or (cond b (Some (position_or_len p xs)) None) (length xs) ≡ position_or_len p xs) [
      | true ↦ λ _. refl
      | false ↦ λ e. last (position_or_len p xs) (length xs) e (prefix_len-le-length (λ x. not (p x)) xs)
    ] refl

-- the row that is read at a position
pub row_read : (rows : List (Vec ℕ)) (p : ℕ) (v : Vec ℕ) → p < length (rows_of rows) → v ≡ slice_index_or rows p v
    → v.items ≡ row (rows_of rows) p
row_read rows p v within e =
    ap (λ (u : Vec ℕ). u.items) e
    ∙ sym (get_or-map (λ (u : Vec ℕ). u.items) rows p v [] (omega (arith, length-map rows (λ (u : Vec ℕ). u.items), within)))

-- behind rows without targets, one more
pub empty_more : (rows : List (Vec ℕ)) (v : Vec ℕ) → v.items ≡ [] → ((p : ℕ) → row (rows_of rows) p ≡ [])
    → (p : ℕ) → row (rows_of (rows ++ v ∷ [])) p ≡ []
empty_more [] v e h zero = e
empty_more [] v e h (suc p) = refl
empty_more (r ∷ rs) v e h zero = h 0
empty_more (r ∷ rs) v e h (suc p) = empty_more rs v e (λ k. h (suc k)) p

module _ (symbols : List ℕ) (calls : List (CellId × ℕ)) (rows : List (List ℕ)) (r : AreRowsOf symbols calls rows) (caller : CellId)
    (target p q : ℕ) (at : p ≡ position_of symbols caller) (to : q ≡ position_of symbols (Symbol target)) where
  more : List (List ℕ)
  more = with_target rows p q

  abbrev place : CellId × ℕ → ℕ
  place call = position_of symbols (Symbol call.1)

  targets_of : List (CellId × ℕ) → CellId → List ℕ
  targets_of calls' cell = map place (calls_standing_in calls' cell)

  row-same : row more p ≡ row rows p ++ q ∷ []
  unfolding more
  row-same = get_or-set_same rows p _ [] (omega (arith, r.whole, at, position_of-within symbols caller))

  row-other : (k : ℕ) → (k ≡ p → ⊥) → row more k ≡ row rows k
  unfolding more
  row-other k ne = get_or-set_other rows p k _ [] ne

  stays : (k t : ℕ) → Contains (row rows k) t → Contains (row more k) t
  stays k t h = elim (cases_eq k p) [
    | inl e ↦
        let there : Contains (row rows p ++ q ∷ []) t =
        Contains-append_left (row rows p) (q ∷ []) t (subst (λ (i : ℕ). Contains (row rows i) t) e h) in
        subst (λ (i : ℕ). Contains (row more i) t) (sym e) (subst (λ (xs : List ℕ). Contains xs t) (sym row-same) there)
    | inr ne ↦ subst (λ (xs : List ℕ). Contains xs t) (sym (row-other k ne)) h
  ]

  has_old : (k t : ℕ) → HasCall symbols calls k t → HasCall symbols (calls ++ (caller, target) ∷ []) k t
  has_old k t h = (h.0, h.1, Contains-append_left calls ((caller, target) ∷ []) (h.0, h.1) h.2, h.3, h.4)

  has_new : (k t : ℕ) → k ≡ p → q ≡ t → HasCall symbols (calls ++ (caller, target) ∷ []) k t
  has_new k t e s = (caller, target, Contains-push calls (caller, target), sym at ∙ sym e, sym to ∙ s)

  sound-more : (k t : ℕ) → Contains (row more k) t → HasCall symbols (calls ++ (caller, target) ∷ []) k t
  sound-more k t h = elim (cases_eq k p) [
    | inl e ↦
        let there : Contains (row rows p ++ q ∷ []) t =
        subst (λ (xs : List ℕ). Contains xs t) row-same (subst (λ (i : ℕ). Contains (row more i) t) e h) in
        elim (Contains-push_cases (row rows p) q t there) [
          | inl old ↦ has_old k t (r.sound k t (subst (λ (i : ℕ). Contains (row rows i) t) (sym e) old))
          | inr same ↦ has_new k t e same
        ]
    | inr ne ↦ has_old k t (r.sound k t (subst (λ (xs : List ℕ). Contains xs t) (row-other k ne) h))
  ]

  kept-new : Contains (row more (position_of symbols caller)) (position_of symbols (Symbol target))
  kept-new =
      subst (λ (i : ℕ). Contains (row more i) (position_of symbols (Symbol target))) at
      (subst (λ (t : ℕ). Contains (row more p) t) to
      (subst (λ (xs : List ℕ). Contains xs q) (sym row-same) (Contains-push (row rows p) q)))

  -- its caller has one call more, and so has the row
  listed-caller : (cell : CellId) → cell ≡ caller → IsTrue (has_cell symbols cell)
      → row more (position_of symbols cell) ≡ targets_of (calls ++ (caller, target) ∷ []) cell
  unfolding targets_of
  listed-caller cell e there =
      let passes : cell_eq caller cell ≡ true = (cell_eq-Decides caller cell).1 (sym e) in
      let one : calls_standing_in ((caller, target) ∷ []) cell ≡ (caller, target) ∷ [] =
      ap (λ b. cond b ((caller, target) ∷ []) []) passes in
      let here : p ≡ position_of symbols cell = at ∙ ap (position_of symbols) (sym e) in
      subst (λ (i : ℕ). row more i ≡ targets_of (calls ++ (caller, target) ∷ []) cell) here
      (row-same ∙ ap (λ (i : ℕ). row rows i ++ q ∷ []) here ∙ ap (λ (xs : List ℕ). xs ++ q ∷ []) (r.listed cell there)
      ∙ ap (λ (t : ℕ). map place (calls_standing_in calls cell) ++ t ∷ []) to
      ∙ sym (map-append place (calls_standing_in calls cell) ((caller, target) ∷ []))
      ∙ sym (ap (map place) (filter-append (λ (c : CellId × ℕ). cell_eq c.0 cell) calls ((caller, target) ∷ [])
      ∙ ap (λ (cs : List (CellId × ℕ)). calls_standing_in calls cell ++ cs) one)))

  listed-other : (cell : CellId) → (cell ≡ caller → ⊥) → (position_of symbols cell ≡ p → ⊥) → IsTrue (has_cell symbols cell)
      → row more (position_of symbols cell) ≡ targets_of (calls ++ (caller, target) ∷ []) cell
  unfolding targets_of
  listed-other cell ne elsewhere there =
      let fails : cell_eq caller cell ≡ false =
      false_from_ne_true (cell_eq caller cell) (λ e. ne (sym ((cell_eq-Decides caller cell).0 e))) in
      let none : calls_standing_in ((caller, target) ∷ []) cell ≡ [] = ap (λ b. cond b ((caller, target) ∷ []) []) fails in
      row-other (position_of symbols cell) elsewhere ∙ r.listed cell there
      ∙ sym (ap (map place) (filter-append (λ (c : CellId × ℕ). cell_eq c.0 cell) calls ((caller, target) ∷ [])
      ∙ ap (λ (cs : List (CellId × ℕ)). calls_standing_in calls cell ++ cs) none ∙ append-nil (calls_standing_in calls cell)))

  listed-more : IsTrue (has_cell symbols caller) → (cell : CellId) → IsTrue (has_cell symbols cell)
      → row more (position_of symbols cell) ≡ targets_of (calls ++ (caller, target) ∷ []) cell
  listed-more from_there cell there = elim (cases_eq (position_of symbols cell) p) [
    | inl e ↦ listed-caller cell (position_of-injective symbols cell caller there from_there (e ∙ at)) there
    | inr ne ↦ listed-other cell (λ e. ne (ap (position_of symbols) e ∙ sym at)) ne there
  ]

  -- with one more call, in the row of its caller
  pub one_more_call : IsTrue (has_cell symbols caller) → IsTrue (has_cell symbols (Symbol target))
      → AreRowsOf symbols (calls ++ (caller, target) ∷ []) (with_target rows p q)
  unfolding more targets_of
  one_more_call from_there to_there = record {
    whole = length-set rows p (row rows p ++ q ∷ []) ∙ r.whole;
    callers = λ c n h. elim (Contains-push_cases calls (caller, target) (c, n) h) [
      | inl old ↦ r.callers c n old
      | inr same ↦ subst (λ (x : CellId × ℕ). IsTrue (has_cell symbols x.0)) same from_there
    ];
    targets = λ c n h. elim (Contains-push_cases calls (caller, target) (c, n) h) [
      | inl old ↦ r.targets c n old
      | inr same ↦ subst (λ (x : CellId × ℕ). IsTrue (has_cell symbols (Symbol x.1))) same to_there
    ];
    kept = λ c n h. elim (Contains-push_cases calls (caller, target) (c, n) h) [
      | inl old ↦ stays _ _ (r.kept c n old)
      | inr same ↦
          subst (λ (x : CellId × ℕ). Contains (row more (position_of symbols x.0)) (position_of symbols (Symbol x.1)))
          same kept-new
    ];
    sound = sound-more;
    listed = listed-more from_there;
  }
