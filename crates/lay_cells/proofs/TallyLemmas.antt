-- Tallies by position are those of the walks from the cells.
use Rattle.std.proofs.Common.{◌≡◌, ◌∙◌, ◌≤◌, ◌<◌, ◌^◌, inl, inr, ℕ, zero, suc, ◌+◌, ◌++◌, List, [], ◌∷◌}
use Rattle.std.proofs.Common.{length, map, refl, ap, sym, subst, arith, Contains, IsTrue, Option, None}
use Rattle.std.proofs.Common.{Some, IsSome, IfSome, slice_set, replicate, is_some, false, take, get_or}
use Rattle.std.proofs.lemmas.Bool.{cases_eq}
use Rattle.std.proofs.lemmas.List.{get_or-set_other, get_or-set_same, length-set, map-append, take_more}
use Rattle.std.proofs.lemmas.List.Elements.{Contains-get_or, Contains-push_cases}
use Rattle.std.specs.Prelude.{max, sum_by}
use Rattle.std.proofs.lemmas.List.Sums.{sum_by-cons, sum_by_push}
use Rattle.lay_cells.specs.declared.cell_id.CellId.{CellId}
use Rattle.lay_cells.specs.declared.cell_id.CellId.TheVariants.{Symbol}
use Rattle.lay_cells.specs.declared.tally.TheConstants.{MAX_COUNTED_WALKS}
use Rattle.lay_cells.specs.declared.tally.Tally.{Tally}
use Rattle.lay_cells.specs.Graph.{AreRowsOf, AreWithin, position_of, row}
use Rattle.lay_cells.specs.Places.{AreBelow, ArePositions}
use Rattle.lay_cells.specs.Symbols.{has_cell}
use Rattle.lay_cells.specs.Tallies.{AreShallow, AreTallied, AreTallies, AreTargetsKnown, IsLow, IsTallied}
use Rattle.lay_cells.specs.Tallies.{IsSum, IsTally, count_within, counted, greatest, height_within, tally_at}
use Rattle.lay_cells.specs.WalkLists.{called_symbol, calls_standing_in, longest, walks_from, walks_within}
use Rattle.lay_cells.specs.Walks.{IsAcyclic}
use Rattle.lay_cells.proofs.AcyclicLemmas.{few_in_all, stands}
use Rattle.lay_cells.proofs.MemberLemmas.{contains_behind, contains_cases, contains_first, contains_mapped, contains_none}
use Rattle.lay_cells.proofs.WalkListLemmas.{length-more, longest-more}

module _ (symbols : List ℕ) (calls : List (CellId × ℕ)) (rows : List (List ℕ)) (r : AreRowsOf symbols calls rows) where
  abbrev walks : ℕ → CellId → List (List (CellId × ℕ))
  walks = walks_within (calls_standing_in calls) called_symbol

  abbrev place : CellId × ℕ → ℕ
  place call = position_of symbols (Symbol call.1)

  -- what a cell calls is there
  there : (cell : CellId) (call : CellId × ℕ) → Contains (calls_standing_in calls cell) call → IsTrue (has_cell symbols (Symbol call.1))
  there cell call h = r.targets call.0 call.1 (stands calls cell call h).0

  pub height-longest : (n : ℕ) (cell : CellId) → IsTrue (has_cell symbols cell)
      → height_within rows n (position_of symbols cell) ≡ longest (walks n cell)
  unfolding walks_within
  height-longest zero cell here = refl
  height-longest (suc n) cell here =
      ap (greatest (λ (q : ℕ). 1 + height_within rows n q)) (r.listed cell here)
      ∙ by_calls (calls_standing_in calls cell) (λ call h. height-longest n (Symbol call.1) (there cell call h))
      ∙ sym (longest-more (calls_standing_in calls) called_symbol n cell) where
        by_calls : (some : List (CellId × ℕ)) → ((call : CellId × ℕ) → Contains some call
            → height_within rows n (place call) ≡ longest (walks n (Symbol call.1)))
            → greatest (λ (q : ℕ). 1 + height_within rows n q) (map place some)
            ≡ greatest (λ (call : CellId × ℕ). 1 + longest (walks n (Symbol (called_symbol call)))) some
        by_calls [] each = refl
        by_calls (call ∷ some) each =
            let first = each call (contains_first call some) in
            let rest = by_calls some (λ other h. each other (contains_behind call some other h)) in
            omega (arith, first, rest)

  pub count-length : (n : ℕ) (cell : CellId) → IsTrue (has_cell symbols cell)
      → count_within rows n (position_of symbols cell) ≡ length (walks n cell)
  unfolding walks_within
  count-length zero cell here = omega arith
  count-length (suc n) cell here =
      ap (λ (qs : List ℕ). 1 + sum_by (count_within rows n) qs) (r.listed cell here)
      ∙ ap (λ (k : ℕ). 1 + k) (by_calls (calls_standing_in calls cell) (λ call h. count-length n (Symbol call.1) (there cell call h)))
      ∙ sym (length-more (calls_standing_in calls) called_symbol n cell) where
        by_calls : (some : List (CellId × ℕ)) → ((call : CellId × ℕ) → Contains some call
            → count_within rows n (place call) ≡ length (walks n (Symbol call.1)))
            → sum_by (count_within rows n) (map place some)
            ≡ sum_by (λ (call : CellId × ℕ). length (walks n (Symbol (called_symbol call)))) some
        by_calls [] each = refl
        by_calls (call ∷ some) each =
            let first = each call (contains_first call some) in
            let rest = by_calls some (λ other h. each other (contains_behind call some other h)) in
            omega (
              arith,
              first,
              rest,
              sum_by-cons (count_within rows n) (place call) (map place some),
              sum_by-cons (λ (other : CellId × ℕ). length (walks n (Symbol (called_symbol other)))) call some,
            )

  -- no walk has more calls than there are
  pub height-few : IsAcyclic calls → (n p : ℕ) → height_within rows n p < 1 + length calls
  height-few acyclic zero p = omega arith
  height-few acyclic (suc n) p = by_row (row rows p) refl where
    by_row : (targets : List ℕ) → row rows p ≡ targets → height_within rows (suc n) p < 1 + length calls
    by_row [] e = subst (λ (k : ℕ). k < 1 + length calls) (sym (ap (greatest (λ (q : ℕ). 1 + height_within rows n q)) e)) (omega arith)
    by_row (q ∷ qs) e =
        let call = r.sound p q (subst (λ (ts : List ℕ). Contains ts q) (sym e) (contains_first q qs)) in
        let is = height-longest (suc n) call.0 (r.callers call.0 call.1 call.2) in
        let few = few_in_all calls (suc n) call.0 acyclic in
        let at : height_within rows (suc n) p ≡ height_within rows (suc n) (position_of symbols call.0) =
        ap (height_within rows (suc n)) (sym call.3) in
        omega (arith, is, few, at)

  -- the tally of a cell is that of its walks
  pub tally_from : IsAcyclic calls → (cell : CellId) → IsTrue (has_cell symbols cell) → (tally : Tally)
      → IsTally rows (position_of symbols cell) tally
      → (tally.depth ≡ longest (walks_from calls cell)) × (tally.walks ≡ counted (length (walks_from calls cell)))
  unfolding walks_from
  tally_from acyclic cell here tally is =
      let few : tally.depth ≤ length calls = few_depth in (
        sym (is.depth (length calls) few) ∙ height-longest (length calls) cell here,
        sym (is.walks (length calls) few) ∙ ap counted (count-length (length calls) cell here),
      ) where
        few_depth : tally.depth ≤ length calls
        few_depth = omega (arith, is.depth tally.depth (omega arith), height-few acyclic tally.depth (position_of symbols cell))

module _ (rows : List (List ℕ)) where
  greatest-push : (f : ℕ → ℕ) (qs : List ℕ) (q : ℕ) → greatest f (qs ++ q ∷ []) ≡ max (greatest f qs) (f q)
  greatest-push f [] q = omega arith
  greatest-push f (x ∷ xs) q = omega (arith, greatest-push f xs q)

  pub greatest-ge : (f : ℕ → ℕ) (qs : List ℕ) (q : ℕ) → Contains qs q → f q ≤ greatest f qs
  greatest-ge f [] q h = absurd (contains_none q h)
  greatest-ge f (x ∷ xs) q h = elim (contains_cases x xs q h) [
    | inl same ↦ subst (λ (k : ℕ). f k ≤ greatest f (x ∷ xs)) same (omega arith)
    | inr behind ↦ omega (arith, greatest-ge f xs q behind)
  ]

  -- the counts add up as far as they are counted
  counts_add : (s c a b : ℕ) → counted (1 + s) ≡ a → counted c ≡ b → counted (1 + (s + c)) ≡ counted (a + b)
  counts_add s c a b e f = omega (arith, e, f)

  pub sum-none : IsSum rows [] (record { depth = 0; walks = 1 })
  sum-none = record { depth = λ n le. refl; walks = λ n le. refl }

  -- one more cell is called
  pub sum-more : (qs : List ℕ) (q : ℕ) (sum tally : Tally) → IsSum rows qs sum → IsTally rows q tally
      → IsSum rows (qs ++ q ∷ []) (record { depth = max sum.depth (1 + tally.depth); walks = counted (sum.walks + tally.walks) })
  sum-more qs q sum tally so is = record {
    depth = λ n le. omega (
      arith,
      greatest-push (λ (p : ℕ). 1 + height_within rows n p) qs q,
      so.depth n (omega arith),
      is.depth n (omega arith),
    );
    walks = λ n le. ap (λ (k : ℕ). counted (1 + k)) (sum_by_push (count_within rows n) qs q)
        ∙ counts_add (sum_by (count_within rows n) qs) (count_within rows n q) sum.walks tally.walks
        (so.walks n (omega arith)) (is.walks n (omega arith));
  }

  none_called : (f : ℕ → ℕ) (qs : List ℕ) → greatest (λ (q : ℕ). 1 + f q) qs ≡ 0 → qs ≡ []
  none_called f [] e = refl
  none_called f (q ∷ qs) e = absurd (omega (arith, e))

  pub tally-sum : (p : ℕ) (tally : Tally) → IsSum rows (row rows p) tally → IsTally rows p tally
  tally-sum p tally so = record { depth = depth; walks = walks } where
    depth : (n : ℕ) → tally.depth ≤ n → height_within rows n p ≡ tally.depth
    depth zero le = omega arith
    depth (suc n) le = so.depth n le

    walks : (n : ℕ) → tally.depth ≤ n → counted (count_within rows n p) ≡ tally.walks
    walks zero le =
        let none : row rows p ≡ [] = none_called (height_within rows 0) (row rows p) (so.depth 0 (omega arith) ∙ omega arith) in
        let one : counted (1 + sum_by (count_within rows 0) (row rows p)) ≡ 1 =
        ap (λ (qs : List ℕ). counted (1 + sum_by (count_within rows 0) qs)) none in
        sym one ∙ so.walks 0 (omega arith)
    walks (suc n) le = so.walks n le

  pub tally-few : (p : ℕ) (tally : Tally) → IsTally rows p tally → tally.walks ≤ MAX_COUNTED_WALKS
  tally-few p tally is = omega (arith, is.walks tally.depth (omega arith))

  pub sum-few : (qs : List ℕ) (sum : Tally) → IsSum rows qs sum → sum.walks ≤ MAX_COUNTED_WALKS
  sum-few qs sum so = omega (arith, so.walks sum.depth (omega arith))

  pub tally-depth : (p : ℕ) (tally : Tally) → IsTally rows p tally → tally.depth ≡ height_within rows tally.depth p
  tally-depth p tally is = sym (is.depth tally.depth (omega arith))

  -- a cell whose walks are short is low
  pub low : (n p : ℕ) → height_within rows n p < n → IsLow rows n p
  low zero p less = omega arith
  low (suc n) p less = λ q h. low n q (omega (arith, greatest-ge (λ (k : ℕ). 1 + height_within rows n k) (row rows p) q h, less))

  pub tally-shallow : (p : ℕ) (tally : Tally) → AreShallow rows → IsTally rows p tally → tally.depth + 1 < 2 ^ 64
  tally-shallow p tally shallow is = omega (arith, tally-depth p tally is, shallow tally.depth p)

  -- what has one more
  pub at_one : (p : ℕ) (old : List (Option Tally)) (made : Option Tally) → p < length old → AreTallies rows old
      → tally_at old p ≡ None → IfSome made (IsSum rows (row rows p)) → (AreTargetsKnown rows old p → IsSome made)
      → AreTallied rows old (p ∷ []) (slice_set old p made)
  at_one p old made within sound none sum all = record {
    whole = length-set old p made;
    sound = λ q tally at. elim (cases_eq q p) [
      | inl e ↦
          let is : made ≡ Some tally = sym here ∙ ap (tally_at new) (sym e) ∙ at in
          let so : IsSum rows (row rows p) tally = subst (λ (o : Option Tally). IfSome o (IsSum rows (row rows p))) is sum in
          subst (λ (k : ℕ). IsTally rows k tally) (sym e) (tally-sum p tally so)
      | inr ne ↦ sound q tally (sym (get_or-set_other old p q made None ne) ∙ at)
    ];
    kept = λ q known. elim (cases_eq q p) [
      | inl e ↦ absurd (unknown (subst (λ (o : Option Tally). IsSome o) (ap (tally_at old) e ∙ none) known))
      | inr ne ↦ subst (λ (o : Option Tally). IsSome o) (sym (get_or-set_other old p q made None ne)) known
    ];
    more = λ q h targets. elim (contains_cases p [] q h) [
      | inl e ↦
          subst (λ (k : ℕ). IsTallied new k) e (subst (λ (o : Option Tally). IsSome o) (sym here)
          (all (subst (λ (k : ℕ). AreTargetsKnown rows old k) (sym e) targets)))
      | inr behind ↦ absurd (contains_none q behind)
    ];
  } where
    new : List (Option Tally)
    new = slice_set old p made

    here : tally_at (slice_set old p made) p ≡ made
    here = get_or-set_same old p made None within

    unknown : IsSome {T = Tally} None → ⊥
    unknown h = absurd cc

  -- what is known already stays
  pub at_none : (p : ℕ) (old : List (Option Tally)) → AreTallies rows old → IsTallied old p → AreTallied rows old (p ∷ []) old
  at_none p old sound known = record {
    whole = refl;
    sound = sound;
    kept = λ q h. h;
    more = λ q h targets. elim (contains_cases p [] q h) [
      | inl e ↦ subst (λ (k : ℕ). IsTallied old k) e known
      | inr behind ↦ absurd (contains_none q behind)
    ];
  }

  pub at_start : (old : List (Option Tally)) → AreTallies rows old → AreTallied rows old [] old
  at_start old sound = record { whole = refl; sound = sound; kept = λ q h. h; more = λ q h targets. absurd (contains_none q h) }

  -- one position more
  pub at_more : (old mid new : List (Option Tally)) (ps : List ℕ) (p : ℕ) → AreTallied rows old ps mid → AreTallied rows mid (p ∷ []) new
      → AreTallied rows old (ps ++ p ∷ []) new
  at_more old mid new ps p first then = record {
    whole = then.whole ∙ first.whole;
    sound = then.sound;
    kept = λ q h. then.kept q (first.kept q h);
    more = λ q h targets. elim (Contains-push_cases ps p q h) [
      | inl before ↦ then.kept q (first.more q before targets)
      | inr e ↦ subst (λ (k : ℕ). IsTallied new k) e
          (then.more p (contains_first p []) (λ t k. first.kept t (targets t (subst (λ (i : ℕ). Contains (row rows i) t) e k))))
    ];
  }

  -- nothing is known at first
  pub none_at_first : (n : ℕ) → AreTallies rows (replicate n None)
  none_at_first n p tally at = absurd (not_there (tally_at (replicate n None) p) (never n p) at) where
    never : (n p : ℕ) → tally_at (replicate n None) p ≡ None
    never zero p = refl
    never (suc n) zero = refl
    never (suc n) (suc p) = never n p

    not_there : (o : Option Tally) → o ≡ None → o ≡ Some tally → ⊥
    not_there o e f = absurd cc

  -- none is there, or one is known
  pub known_none : (o : Option Tally) → is_some o ≡ false → o ≡ None
  known_none None is = refl
  known_none (Some t) is = absurd cc

  -- the calls of one row, one more
  pub sum-next : (qs : List ℕ) (i q : ℕ) (sum tally with : Tally) → i < length qs → q ≡ get_or qs i q → IsSum rows (take i qs) sum
      → IsTally rows q tally → with ≡ record { depth = max sum.depth (1 + tally.depth); walks = counted (sum.walks + tally.walks) }
      → IsSum rows (take (i + 1) qs) with
  sum-next qs i q sum tally with less at so is e =
      let longer : take (i + 1) qs ≡ take i qs ++ q ∷ [] =
      take_more qs i q less ∙ ap (λ (x : ℕ). take i qs ++ x ∷ []) (sym at) in
      subst (λ (t : Tally). IsSum rows (take (i + 1) qs) t) (sym e)
      (subst (λ (ts : List ℕ). IsSum rows ts (record {
        depth = max sum.depth (1 + tally.depth);
        walks = counted (sum.walks + tally.walks);
      }))
      (sym longer) (sum-more (take i qs) q sum tally so is))

  -- the position of one entry more
  pub entries-more : (order : List (ℕ × ℕ)) (i : ℕ) → i < length order
      → map (λ (e : ℕ × ℕ). e.1) (take (i + 1) order) ≡ map (λ (e : ℕ × ℕ). e.1) (take i order) ++ (get_or order i (0, 0)).1 ∷ []
  entries-more order i less =
      ap (map (λ (e : ℕ × ℕ). e.1)) (take_more order i (0, 0) less)
      ∙ map-append (λ (e : ℕ × ℕ). e.1) (take i order) (get_or order i (0, 0) ∷ [])

  pub entry-below : (order : List (ℕ × ℕ)) (n i : ℕ) → AreBelow (map (λ (e : ℕ × ℕ). e.1) order) n → i < length order
      → (get_or order i (0, 0)).1 < n
  entry-below order n i below less =
      below (get_or order i (0, 0)).1 (contains_mapped (λ (e : ℕ × ℕ). e.1) order (get_or order i (0, 0))
      (Contains-get_or order i (0, 0) less))

  -- after one round more, what has walks of one call more is known
  pub round-more : (old new : List (Option Tally)) (positions : List ℕ) (n : ℕ) → ArePositions positions (length rows)
      → AreTallied rows old positions new → AreWithin rows
      → ((p : ℕ) → p < length rows → IsLow rows n p → IsTallied old p)
      → (p : ℕ) → p < length rows → IsLow rows (suc n) p → IsTallied new p
  round-more old new positions n all tallied within known p less low =
      tallied.more p ((all p).1 less) (λ q h. known q (within p q h) (low q h))
