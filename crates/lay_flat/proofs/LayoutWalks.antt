-- A layout's walks have the depth and the number of those of its graph, and each walk is among them.
use Rattle.std.proofs.Common.{◌≡◌, ◌∙◌, ◌≤◌, ◌+◌, ◌-◌, ◌++◌, ◌⊎◌, ℕ, zero, suc, inl, inr, Bool, true, false}
use Rattle.std.proofs.Common.{List, [], ◌∷◌, Option, Some, cond, length, map, refl, ap, sym, subst, arith, Contains}
use Rattle.std.specs.Prelude.{flat_map, sum_by}
use Rattle.std.specs.FinMap.{entries}
use Rattle.std.specs.List.{AllByRecursion}
use Rattle.std.proofs.lemmas.List.{map-append}
use Rattle.std.proofs.lemmas.List.Sums.{sum_by-cons}
use Rattle.lay_point.specs.declared.turn.Turn.{Turn}
use Rattle.lay_point.specs.Turns.{unturned}
use Rattle.lay_cells.specs.declared.cell_id.CellId.{CellId}
use Rattle.lay_cells.specs.declared.cell_id.CellId.TheVariants.{Symbol}
use Rattle.lay_cells.specs.SameCell.{cell_eq, cell_eq-Decides}
use Rattle.lay_cells.specs.Tallies.{greatest}
use Rattle.lay_cells.specs.WalkLists.{IsWalk, called_symbol, calls_standing_in, longest, walks_from, walks_within}
use Rattle.lay_cells.specs.Walks.{Calls, IsAcyclic}
use Rattle.lay_cells.proofs.AcyclicLemmas.{few_in_all, stands}
use Rattle.lay_cells.proofs.FewerCalls.{AreAmong, IsAcyclic-fewer}
use Rattle.lay_cells.proofs.WalkListLemmas.{le-longest, length-more, listed, longest-le, longest-more, no_more, only_walks}
use Rattle.lay_layouts.specs.declared.id.ItemId.{ItemId}
use Rattle.lay_layouts.specs.declared.item.Item.{Item}
use Rattle.lay_layouts.specs.declared.item.Item.TheVariants.{Placed, Shape}
use Rattle.lay_layouts.specs.Calls.{calls_among, calls_of}
use Rattle.lay_layouts.specs.Items.{items_in}
use Rattle.lay_layouts.specs.Items.{standing_in as items_standing_in}
use Rattle.lay_layouts.specs.Layout.{Layout}
use Rattle.lay_layouts.specs.Lent.{LentCall, calls_in, calls_lent}
use Rattle.lay_flat.specs.declared.ends.End.{End}
use Rattle.lay_flat.specs.Ends.{end_along, ends_within, target_of, turn_after, walks_of}
use Rattle.lay_flat.specs.Flattening.{AreWalks, ends_of}
use Rattle.lay_items.specs.Graphs.{IsGraphFrom, in_graph}
use Rattle.lay_items.proofs.Reaching.{IsIn, begins_in, calls_stand, closed_in, standing_from}

standing-entries : (cell : CellId) (es : List (ItemId × Item)) → calls_standing_in (calls_among es) cell
    ≡ map (in_graph cell) (calls_lent (items_standing_in cell es))
standing-entries cell [] = refl
standing-entries cell (e ∷ es) = by_item e.0 e.1 (standing-entries cell es) where
  by_item : (id : ItemId) (item : Item)
      → calls_standing_in (calls_among es) cell ≡ map (in_graph cell) (calls_lent (items_standing_in cell es))
      → calls_standing_in (calls_among ((id, item) ∷ es)) cell ≡ map (in_graph cell) (calls_lent (items_standing_in cell ((id, item) ∷ es)))
  by_item id (Shape c layer rings) rest = by_test (cell_eq c cell) where
    by_test : (b : Bool) → calls_standing_in (calls_among es) cell
        ≡ map (in_graph cell) (calls_lent (cond b ((id, Shape c layer rings) ∷ items_standing_in cell es) (items_standing_in cell es)))
    by_test true = rest
    by_test false = rest
  by_item id (Placed c target turn) rest = by_test (cell_eq c cell) refl where
    by_test : (b : Bool) → cell_eq c cell ≡ b
        → cond b ((c, target) ∷ calls_standing_in (calls_among es) cell) (calls_standing_in (calls_among es) cell)
        ≡ map (in_graph cell) (calls_lent (cond b ((id, Placed c target turn) ∷ items_standing_in cell es) (items_standing_in cell es)))
    by_test true is =
        let same : c ≡ cell = (cell_eq-Decides c cell).0 is in
        ap (λ (k : CellId). (k, target) ∷ calls_standing_in (calls_among es) cell) same
        ∙ ap (λ (cs : List (CellId × ℕ)). (cell, target) ∷ cs) rest
    by_test false is = rest

-- calls that stand in each cell of some as the layout's do, where these cells call each other alone
pub record AreCallsIn (layout : Layout) (IsOne : CellId → Type 0) (calls : List (CellId × ℕ)) : Type 0 where
  pub standing : (cell : CellId) → IsOne cell → calls_standing_in calls cell ≡ map (in_graph cell) (calls_in layout cell)
  pub closed : (cell : CellId) → IsOne cell → AllByRecursion (λ (call : LentCall). IsOne (Symbol call.1)) (calls_in layout cell)

module _ (layout : Layout) (IsOne : CellId → Type 0) (calls : List (CellId × ℕ)) (are : AreCallsIn layout IsOne calls) where
  abbrev lent_walks : ℕ → CellId → List (List LentCall)
  lent_walks = walks_within (calls_in layout) target_of

  abbrev graph_walks : ℕ → CellId → List (List (CellId × ℕ))
  graph_walks = walks_within (calls_standing_in calls) called_symbol

  pub same-longest : (n : ℕ) (cell : CellId) → IsOne cell → longest (lent_walks n cell) ≡ longest (graph_walks n cell)
  unfolding walks_within
  same-longest zero cell one = refl
  same-longest (suc n) cell one =
      longest-more (calls_in layout) target_of n cell ∙ by_calls (same-longest n) (calls_in layout cell) (are.closed cell one)
      ∙ ap (greatest (λ (call : CellId × ℕ). 1 + longest (graph_walks n (Symbol call.1)))) (sym (are.standing cell one))
      ∙ sym (longest-more (calls_standing_in calls) called_symbol n cell) where
        by_calls : ((other : CellId) → IsOne other → longest (lent_walks n other) ≡ longest (graph_walks n other)) → (cs : List LentCall)
            → AllByRecursion (λ (call : LentCall). IsOne (Symbol call.1)) cs
            → greatest (λ (call : LentCall). 1 + longest (lent_walks n (Symbol call.1))) cs
            ≡ greatest (λ (call : CellId × ℕ). 1 + longest (graph_walks n (Symbol call.1))) (map (in_graph cell) cs)
        by_calls each [] ones = refl
        by_calls each (c ∷ cs) ones = omega (arith, each (Symbol c.1) ones.0, by_calls each cs ones.1)

  pub same-length : (n : ℕ) (cell : CellId) → IsOne cell → length (lent_walks n cell) ≡ length (graph_walks n cell)
  unfolding walks_within
  same-length zero cell one = refl
  same-length (suc n) cell one =
      length-more (calls_in layout) target_of n cell ∙ ap (λ (k : ℕ). 1 + k)
      (by_calls (same-length n) (calls_in layout cell) (are.closed cell one))
      ∙ ap (λ (cs : List (CellId × ℕ)). 1 + sum_by (λ (call : CellId × ℕ). length (graph_walks n (Symbol call.1))) cs)
      (sym (are.standing cell one))
      ∙ sym (length-more (calls_standing_in calls) called_symbol n cell) where
        by_calls : ((other : CellId) → IsOne other → length (lent_walks n other) ≡ length (graph_walks n other)) → (cs : List LentCall)
            → AllByRecursion (λ (call : LentCall). IsOne (Symbol call.1)) cs
            → sum_by (λ (call : LentCall). length (lent_walks n (Symbol call.1))) cs
            ≡ sum_by (λ (call : CellId × ℕ). length (graph_walks n (Symbol call.1))) (map (in_graph cell) cs)
        by_calls each [] ones = refl
        by_calls each (c ∷ cs) ones = omega (
          arith,
          each (Symbol c.1) ones.0,
          by_calls each cs ones.1,
          sum_by-cons (λ (call : LentCall). length (lent_walks n (Symbol call.1))) c cs,
          sum_by-cons (λ (call : CellId × ℕ). length (graph_walks n (Symbol call.1))) (in_graph cell c) (map (in_graph cell) cs),
        )

module _ (layout : Layout) where
  abbrev calls : List (CellId × ℕ)
  calls = calls_of layout

  abbrev walks : ℕ → CellId → List (List LentCall)
  walks = walks_within (calls_in layout) target_of

  pub standing-lent : (cell : CellId) → calls_standing_in calls cell ≡ map (in_graph cell) (calls_in layout cell)
  unfolding calls_of calls_in items_in
  standing-lent cell = standing-entries cell (entries layout.items)

  -- all calls of a layout stand in all cells
  all_calls : AreCallsIn layout (λ _. Unit {0}) calls
  all_calls = record { standing = λ cell _. standing-lent cell; closed = λ cell _. each (calls_in layout cell) } where
    each : (cs : List LentCall) → AllByRecursion (λ (call : LentCall). Unit {0}) cs
    each [] = tt
    each (c ∷ cs) = (tt, each cs)

  module _ (acyclic : IsAcyclic calls) where
    few : (n : ℕ) (cell : CellId) → longest (walks n cell) ≤ length calls
    few n cell = subst (λ (k : ℕ). k ≤ length calls) (sym (same-longest layout (λ _. Unit {0}) calls all_calls n cell tt))
        (few_in_all calls n cell acyclic)

    -- each walk is among those of the layout, and nothing else is
    pub all_walks : (cell : CellId) → AreWalks layout cell
    unfolding walks_of
    all_walks cell walk = (
      λ h. (only_walks (calls_in layout) target_of (length calls) cell walk h).0,
      λ is. listed (calls_in layout) target_of (length calls) cell walk is (short is),
    ) where
      short : IsWalk (calls_in layout) target_of cell walk → length walk ≤ length calls
      short is =
          let there = listed (calls_in layout) target_of (length walk) cell walk is (omega arith) in
          omega (arith, le-longest (walks (length walk) cell) walk there, few (length walk) cell)

    -- where none has more calls, they are those of at most so many
    pub walks_at : (n : ℕ) (cell : CellId) → longest (walks_of layout cell) ≤ n → walks n cell ≡ walks_of layout cell
    unfolding walks_of
    walks_at n cell shallow = by_order (n_or n (length calls)) where
      n_or : (a b : ℕ) → (a ≤ b) ⊎ (b ≤ a)
      n_or zero b = inl (omega arith)
      n_or (suc a) zero = inr (omega arith)
      n_or (suc a) (suc b) = elim (n_or a b) [ inl le ↦ inl (omega (arith, le)) | inr ge ↦ inr (omega (arith, ge)) ]

      next : longest (walks (suc n) cell) ≤ n
      next = longest-le (walks (suc n) cell) n (λ walk h.
          let is = (only_walks (calls_in layout) target_of (suc n) cell walk h).0 in
          omega (arith, le-longest (walks_of layout cell) walk ((all_walks cell walk).1 is), shallow))

      by_order : (n ≤ length calls) ⊎ (length calls ≤ n) → walks n cell ≡ walks_of layout cell
      by_order (inl le) = sym (no_more (calls_in layout) target_of n (length calls) cell next le)
      by_order (inr ge) = no_more (calls_in layout) target_of (length calls) n cell (few (suc (length calls)) cell) ge

  -- what is listed are the ends of the walks
  pub ends-walks : (n : ℕ) (cell : CellId) (turn : Option Turn) → ends_within layout n cell turn ≡ map (end_along cell turn) (walks n cell)
  unfolding ends_within walks_within
  ends-walks zero cell turn = refl
  ends-walks (suc n) cell turn =
      ap (λ (es : List End). record { cell = cell; turn = turn } ∷ es) (by_calls (ends-walks n) (calls_in layout cell)) where
        further : (call : LentCall) (ws : List (List LentCall)) → map (end_along cell turn) (map (λ (w : List LentCall). call ∷ w) ws)
            ≡ map (end_along (Symbol call.1) (turn_after turn call.2)) ws
        further call [] = refl
        further call (w ∷ ws) = ap (λ (es : List End). end_along (Symbol call.1) (turn_after turn call.2) w ∷ es) (further call ws)

        by_calls : ((other : CellId) (along : Option Turn) → ends_within layout n other along ≡ map (end_along other along) (walks n other))
            → (cs : List LentCall) → flat_map (λ (call : LentCall). ends_within layout n (Symbol call.1) (turn_after turn call.2)) cs
            ≡ map (end_along cell turn) (flat_map (λ (call : LentCall). map (λ (w : List LentCall). call ∷ w) (walks n (Symbol call.1))) cs)
        by_calls each [] = refl
        by_calls each (c ∷ cs) =
            let mine : List (List LentCall) = map (λ (w : List LentCall). c ∷ w) (walks n (Symbol c.1)) in
            let rest : List (List LentCall) =
            flat_map (λ (call : LentCall). map (λ (w : List LentCall). call ∷ w) (walks n (Symbol call.1))) cs in
            ap (λ (es : List End). es ++ flat_map (λ (call : LentCall). ends_within layout n (Symbol call.1) (turn_after turn call.2)) cs)
            (each (Symbol c.1) (turn_after turn c.2) ∙ sym (further c (walks n (Symbol c.1))))
            ∙ ap (λ (es : List End). map (end_along cell turn) mine ++ es) (by_calls each cs)
            ∙ sym (map-append (end_along cell turn) mine rest)

  pub ends-more : (n : ℕ) (cell : CellId) (turn : Option Turn) → (n ≡ 0 → ⊥) → ends_within layout n cell turn
      ≡ record { cell = cell; turn = turn } ∷ flat_map (λ (call : LentCall). ends_within layout (n - 1) (Symbol call.1)
      (turn_after turn call.2))
      (calls_in layout cell)
  unfolding ends_within
  ends-more zero cell turn some = absurd (some refl)
  ends-more (suc n) cell turn some =
      let same : n ≡ suc n - 1 = omega arith in
      ap (λ (k : ℕ). record { cell = cell; turn = turn } ∷ flat_map (λ (call : LentCall). ends_within layout k (Symbol call.1)
      (turn_after turn call.2))
      (calls_in layout cell)) same

  pub ends-none : (n : ℕ) (cell : CellId) (turn : Option Turn) → n ≡ 0
      → ends_within layout n cell turn ≡ record { cell = cell; turn = turn } ∷ []
  unfolding ends_within
  ends-none n cell turn none = ap (λ (k : ℕ). ends_within layout k cell turn) none

-- a graph of the calls of all cells that a cell leads to has its walks' depth and number
module _ (layout : Layout) (sound : IsAcyclic (calls_of layout)) (cell : CellId) (graph : Calls) (is : IsGraphFrom layout cell graph) where
  own : AreCallsIn layout (IsIn cell graph.symbols) graph.calls
  own = record {
    standing = λ c one. ap (λ (cs : List (CellId × ℕ)). calls_standing_in cs c) is.calls
        ∙ standing_from layout cell graph.symbols is.reached c one;
    closed = λ c one. closed_in layout cell graph.symbols is.reached c one;
  }

  begun : IsIn cell graph.symbols cell
  begun = begins_in layout cell graph.symbols is.reached

  among : AreAmong graph.calls (calls_of layout)
  among call h =
      let at = calls_stand layout cell graph.symbols call (subst (λ (cs : List (CellId × ℕ)). Contains cs call) is.calls h) in
      (stands (calls_of layout) at.0 call (subst (λ (cs : List (CellId × ℕ)). Contains cs call) (sym (standing-lent layout at.0)) at.1)).0

  pub graph_acyclic : IsAcyclic graph.calls
  graph_acyclic = IsAcyclic-fewer graph.calls (calls_of layout) among sound

  short : longest (walks_of layout cell) ≤ length graph.calls
  unfolding walks_of
  short = subst (λ (k : ℕ). k ≤ length graph.calls)
      (sym (same-longest layout (IsIn cell graph.symbols) graph.calls own (length (calls_of layout)) cell begun))
      (few_in_all graph.calls (length (calls_of layout)) cell graph_acyclic)

  same_walks : walks_within (calls_in layout) target_of (length graph.calls) cell ≡ walks_of layout cell
  same_walks = walks_at layout sound (length graph.calls) cell short

  pub depth_is : longest (walks_from graph.calls cell) ≡ longest (walks_of layout cell)
  unfolding walks_from
  depth_is = sym (same-longest layout (IsIn cell graph.symbols) graph.calls own (length graph.calls) cell begun) ∙ ap longest same_walks

  pub count_is : length (walks_from graph.calls cell) ≡ length (walks_of layout cell)
  unfolding walks_from
  count_is = sym (same-length layout (IsIn cell graph.symbols) graph.calls own (length graph.calls) cell begun) ∙ ap length same_walks

-- the ends of all walks
pub ends_are : (layout : Layout) (cell : CellId) (n : ℕ) → IsAcyclic (calls_of layout) → longest (walks_of layout cell) ≤ n
    → ends_within layout n cell (Some unturned) ≡ ends_of layout cell
unfolding ends_of
ends_are layout cell n acyclic shallow =
    ends-walks layout n cell (Some unturned) ∙ ap (map (end_along cell (Some unturned))) (walks_at layout acyclic n cell shallow)
