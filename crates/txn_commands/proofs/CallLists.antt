-- The calls of a layout are its items that are calls, and one more call closes no cycle where its cell isn't reached.
use Rattle.std.proofs.Common.{◌≡◌, ◌⊎◌, inl, inr, Bool, true, false, cond, zero, suc, List, [], ◌∷◌, Option, None, Some}
use Rattle.std.proofs.Common.{Contains, refl, ap, sym, subst, ◌∙◌, arith}
use Rattle.std.proofs.lemmas.List.Elements.{Contains-append_cases, Contains-append_right}
use Rattle.std.specs.FinMap.{entries, find, get-entries}
use Rattle.std.specs.List.{AllByRecursion, cons_option}
use Rattle.std.specs.Ordering.{eq_by_cmp}
use Rattle.lay_cells.specs.declared.cell_id.CellId.{CellId}
use Rattle.lay_cells.specs.declared.cell_id.CellId.TheVariants.{Symbol}
use Rattle.lay_cells.specs.Walks.{IsAcyclic, Walks}
use Rattle.lay_cells.specs.Walks.Walks.{goes, stays}
use Rattle.lay_layouts.specs.declared.id.ItemId.{ItemId}
use Rattle.lay_layouts.specs.declared.item.Item as items
use Rattle.lay_layouts.specs.Calls.{Call, as_call, calls_among, calls_of}
use Rattle.lay_layouts.specs.IdOrder.{ids_total}
use Rattle.lay_layouts.specs.Ids.{id_cmp}
use Rattle.lay_layouts.specs.Layout.{Layout, item_at}
use Rattle.txn_commands.proofs.Lying.{entries_found}

-- some item of the layout is the call
pub record IsCalled (l : Layout) (call : Call) : Type 0 where
  pub id : ItemId
  pub item : items.Item
  pub there : item_at l id ≡ Some item
  pub is : as_call item ≡ Some call

-- behind what may be there
behind : {X : Type 0} (o : Option X) (xs : List X) (x : X) → Contains xs x → Contains (cons_option o xs) x
behind None xs x there = there
behind (Some y) xs x there = Contains-append_right (y ∷ []) xs x there

first_or_behind : {X : Type 0} (o : Option X) (xs : List X) (x : X) → Contains (cons_option o xs) x → (o ≡ Some x) ⊎ Contains xs x
first_or_behind None xs x there = inr there
first_or_behind (Some y) xs x there = elim (Contains-append_cases (y ∷ []) xs x there) [
  | inl (zero, below, here) ↦ inl (ap Some here)
  | inl (suc k, below, here) ↦ absurd (omega (arith, below))
  | inr there ↦ inr there
]

called_among : (l : Layout) (es : List (ItemId × items.Item)) → AllByRecursion (λ e. item_at l e.0 ≡ Some e.1) es → (call : Call) →
    Contains (calls_among es) call → IsCalled l call
called_among l [] found call there = absurd (omega (arith, there.1))
called_among l (e ∷ es) found call there = elim (first_or_behind (as_call e.1) (calls_among es) call there) [
  | inl is ↦ record { id = e.0; item = e.1; there = found.0; is = is }
  | inr later ↦ called_among l es found.1 call later
]

-- each call of the layout is an item
pub called_by_item : (l : Layout) (call : Call) → Contains (calls_of l) call → IsCalled l call
unfolding calls_of
called_by_item l call there = called_among l (entries l.items) (entries_found ids_total l.items) call there

among_calls : (es : List (ItemId × items.Item)) (id : ItemId) (item : items.Item) (call : Call) → find id_cmp id es ≡ Some item →
    as_call item ≡ Some call → Contains (calls_among es) call
among_calls [] id item call found is = absurd cc
among_calls (e ∷ es) id item call found is =
    by_id (eq_by_cmp id_cmp id e.0) found (λ h. among_calls es id item call h is) where
      by_id : (b : Bool) → cond b (Some e.1) (find id_cmp id es) ≡ Some item →
          (find id_cmp id es ≡ Some item → Contains (calls_among es) call) → Contains (cons_option (as_call e.1) (calls_among es)) call
      by_id true h rest =
          let same : e.1 ≡ item = cc in
          let here : as_call e.1 ≡ Some call = ap as_call same ∙ is in
          rw here (zero, omega arith, refl)
      by_id false h rest = behind (as_call e.1) (calls_among es) call (rest h)

-- each item that is a call is among them
pub item_called : (l : Layout) (call : Call) → IsCalled l call → Contains (calls_of l) call
unfolding calls_of
item_called l call called = among_calls (entries l.items) called.id called.item call (sym (get-entries l.items called.id)
    ∙ called.there) called.is

joined_walk : {calls : List Call} {a b c : CellId} → Walks calls a b → Walks calls b c → Walks calls a c
joined_walk stays next = next
joined_walk (goes first rest) next = goes first (joined_walk rest next)

-- each of the calls is this one or among the others
abbrev pub AreButFor : Call → List Call → List Call → Type 0
AreButFor call calls others = (other : Call) → Contains calls other → (call ≡ other) ⊎ Contains others other

-- a walk that uses a call leads to its cell before it is first used, and from its symbol after it is last used
walk_by : (call : Call) (calls others : List Call) → AreButFor call calls others → {a b : CellId} → Walks calls a b →
    Walks others a b ⊎ (Walks others a call.0 × Walks others (Symbol call.1) b)
walk_by call calls others but stays = inl stays
walk_by call calls others but {b = b} (goes {from = from} {target = target} first rest) =
    by_call (but (from, target) first) (walk_by call calls others but rest) where
      by_call : (call ≡ (from, target)) ⊎ Contains others (from, target) →
          Walks others (Symbol target) b ⊎ (Walks others (Symbol target) call.0 × Walks others (Symbol call.1) b) →
          Walks others from b ⊎ (Walks others from call.0 × Walks others (Symbol call.1) b)
      by_call (inl same) (inl later) = inr (
        subst (λ (c : Call). Walks others from c.0) (sym same) stays,
        subst (λ (c : Call). Walks others (Symbol c.1) b) (sym same) later,
      )
      by_call (inl same) (inr parts) = inr (subst (λ (c : Call). Walks others from c.0) (sym same) stays, parts.1)
      by_call (inr there) (inl later) = inl (goes there later)
      by_call (inr there) (inr parts) = inr (goes there parts.0, parts.1)

-- one more call closes no cycle where its symbol doesn't lead to its cell
pub acyclic_with : (call : Call) (calls others : List Call) → AreButFor call calls others → IsAcyclic others →
    ¬ (Walks others (Symbol call.1) call.0) →
    IsAcyclic calls
acyclic_with call calls others but acyclic apart cell target there walk =
    by_call (but (cell, target) there) (walk_by call calls others but walk) where
      by_call : (call ≡ (cell, target)) ⊎ Contains others (cell, target) →
          Walks others (Symbol target) cell ⊎ (Walks others (Symbol target) call.0 × Walks others (Symbol call.1) cell) → ⊥
      by_call (inl same) (inl back) =
          apart (subst (λ (c : Call). Walks others (Symbol c.1) c.0) (sym same) back)
      by_call (inl same) (inr parts) = apart (subst (λ (c : Call). Walks others (Symbol call.1) c.0) (sym same) parts.1)
      by_call (inr old) (inl back) = acyclic cell target old back
      by_call (inr old) (inr parts) = apart (joined_walk parts.1 (goes old parts.0))
