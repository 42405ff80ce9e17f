-- What a run makes has ids of its own transaction.
use Rattle.std.proofs.Common.{◌≡◌, inl, inr, ℕ, zero, suc, ◌+◌, ◌≤◌, List, [], ◌∷◌}
use Rattle.std.proofs.Common.{◌++◌, length, None, Some, refl, ap, sym, subst, ◌∙◌, arith}
use Rattle.std.specs.List.{AllByRecursion}
use Rattle.lay_point.proofs.ListLaws.{all_weaker}
use Rattle.lay_cells.specs.declared.cell_id.CellId.{CellId}
use Rattle.lay_layouts.specs.declared.id.ItemId.{ItemId}
use Rattle.lay_layouts.specs.declared.item.Item as items
use Rattle.lay_layouts.specs.declared.item.Item.TheVariants.{Placed, Shape}
use Rattle.lay_layouts.specs.IdOrder.{ids_exact, ids_total}
use Rattle.lay_layouts.specs.Layout.{Layout, item_at}
use Rattle.bool_rules.specs.Shapes.{Rings}
use Rattle.txn_commands.specs.declared.command.Command.{Command}
use Rattle.txn_commands.specs.declared.command.Done.{Done}
use Rattle.txn_commands.specs.declared.command.TxnId.{TxnId}
use Rattle.txn_commands.specs.Acts.{Act, made_from, new_shapes, removals}
use Rattle.txn_commands.specs.Effects.{Run, after_each, begun, next_id, perform}
use Rattle.txn_commands.specs.Figures.{moved, shape_of}
use Rattle.txn_commands.specs.Own.{AnswersOwn, IsOwn, Names, NewAreOwn, id_from}
use Rattle.txn_commands.specs.Plans.{shape_ids}
use Rattle.txn_commands.specs.Writing.{rewritten}
use Rattle.txn_rules.proofs.Booleans.{IsNew, WritesAs, behind_writes, first_new, removed_as, written_new}
use Rattle.txn_rules.proofs.Planned.{IsPlanned, planned}
use Rattle.txn_rules.proofs.Planned.IsPlanned.{deletes, draws, drops_cell, looks, makes_cell, moves, places, relayers, replaces}
use Rattle.txn_rules.proofs.Runs.{run_keeps}
use Rattle.txn_commands.proofs.Lists.{all_joined}
use Rattle.txn_commands.proofs.Maps.{written_value}

own_more : (t : TxnId) (m n : ℕ) (id : ItemId) → m ≤ n → IsOwn t m id → IsOwn t n id
own_more t m n id more own = record { session = own.session; txn_of = own.txn_of; first = own.first; last = omega (arith, own.last) }

-- those that an act makes are the transaction's own
new_are_own : (t : TxnId) (r : Run) (count : ℕ) (id : ItemId) → IsNew (next_id t r) count id → IsOwn t (r.made + count) id
new_are_own t r count id (n, few, is) = subst (λ (i : ItemId). IsOwn t (r.made + count) i) (sym is) own where
  own : IsOwn t (r.made + count) (id_from (next_id t r) n)
  own = record { session = refl; txn_of = refl; first = omega arith; last = omega (arith, few) }

only_new : (new id : ItemId) → new ≡ id → IsNew new 1 id
only_new new id same = (0, omega arith, sym same ∙ sym (first_new new))

named_from : (new : ItemId) (count : ℕ) (id : ItemId) → Names (made_from new count) id → IsNew new count id
named_from new zero id h = absurd h
named_from new (suc zero) id h = only_new new id h
named_from new (suc (suc more)) id h = (h.0, h.1, sym h.2)

-- the items that its answer names are among those that it makes
abbrev NamesNew : ItemId → ItemId → Act → Type 0
NamesNew new id act = Names act.done id → IsNew new act.made id

named_new : (new : ItemId) (l : Layout) (act : Act) (id : ItemId) → IsPlanned new l act → NamesNew new id act
named_new new l act id (draws cell layer ring there is same) = subst (NamesNew new id) same (only_new new id)
named_new new l act id (places cell target turn is) = subst (NamesNew new id) is.acts (only_new new id)
named_new new l act id (deletes q same) = subst (NamesNew new id) same (λ h. absurd h)
named_new new l act id (moves q shift item there near same) = subst (NamesNew new id) same (λ h. absurd h)
named_new new l act id (relayers q layer old cell rings there same) = subst (NamesNew new id) same (λ h. absurd h)
named_new new l act id (looks q item there same) = subst (NamesNew new id) same (λ h. absurd h)
named_new new l act id (replaces op cell a b out shapes some same) = subst (NamesNew new id) same (named_from new (length shapes) id)
named_new new l act id (makes_cell number small free same) = subst (NamesNew new id) same (λ h. absurd h)
named_new new l act id (drops_cell number unused same) = subst (NamesNew new id) same (λ h. absurd h)

act_answers_own : (t : TxnId) (r : Run) (act : Act) → IsPlanned (next_id t r) r.layout act →
    AllByRecursion (AnswersOwn t r.made) r.dones →
    AllByRecursion (AnswersOwn t (perform r act).made) (perform r act).dones
act_answers_own t r act is own = all_joined (AnswersOwn t (r.made + act.made)) r.dones (act.done ∷ [])
    (all_weaker (AnswersOwn t r.made) (AnswersOwn t (r.made + act.made))
    (λ d o id h. own_more t r.made (r.made + act.made) id (omega arith) (o id h))
    r.dones own) ((λ id h. new_are_own t r act.made id (named_new (next_id t r) r.layout act id is h)), tt)

-- the answers of a run
pub answers_own : (t : TxnId) (cs : List Command) (layout : Layout) (end : Run) → after_each t cs (begun layout) ≡ Some end →
    AllByRecursion (AnswersOwn t end.made) end.dones
answers_own t cs layout end h = run_keeps (λ (r : Run). AllByRecursion (AnswersOwn t r.made) r.dones) t (λ c r next is own.
    subst (λ (p : Done × Run). AllByRecursion (AnswersOwn t p.1.made) p.1.dones) is.next_is
    (act_answers_own t r is.act (planned (next_id t r) c r.layout is.act is.plan_is) own)) cs (begun layout) end h tt

-- an item that stands behind an act stood before it, under its id, or is a new one
pub data Stood (new : ItemId) (l : Layout) (act : Act) (q : ItemId) : Type 0 where
  before : (item : items.Item) → item_at l q ≡ Some item → Stood new l act q
  now : IsNew new act.made q → Stood new l act q

-- an item that is made stands under the new id
made_stood : (new : ItemId) (l : Layout) (made : items.Item) (act : Act) (q : ItemId) (x : items.Item) → 1 ≡ act.made →
    item_at (rewritten l ((new, Some made) ∷ []) []) q ≡ Some x → Stood new l act q
made_stood new l made act q x one h = elim (written_value ids_total ids_exact l.items new (Some made) q x h) [
  | inl here ↦ now (subst (λ n. IsNew new n q) one (only_new new q (sym here.0)))
  | inr old ↦ before x old
]

-- one that is changed stood there
changed_stood : (new : ItemId) (l : Layout) (id : ItemId) (item old : items.Item) (act : Act) (q : ItemId) (x : items.Item) →
    item_at l id ≡ Some old →
    item_at (rewritten l ((id, Some item) ∷ []) []) q ≡ Some x → Stood new l act q
changed_stood new l id item old act q x there h = elim (written_value ids_total ids_exact l.items id (Some item) q x h) [
  | inl here ↦ before old (ap (item_at l) here.0 ∙ there)
  | inr same ↦ before x same
]

-- the shapes of an operation stand under new ids
replaced_stood : (new : ItemId) (l : Layout) (cell : CellId) (out : List ℕ) (old : List ItemId) (shapes : List Rings) (act : Act)
    (q : ItemId) (x : items.Item) → length shapes ≡ act.made →
    item_at (rewritten l (removals old ++ new_shapes new cell out shapes) []) q ≡ Some x → Stood new l act q
replaced_stood new l cell out old shapes act q x made h =
    elim (behind_writes (λ id item. IsNew new (length shapes) id) (removals old ++ new_shapes new cell out shapes)
    (all_joined (WritesAs (λ id item. IsNew new (length shapes) id)) (removals old) (new_shapes new cell out shapes)
    (removed_as (λ id item. IsNew new (length shapes) id) old) (written_new cell out shapes new)) l q x h) [
      | inl there ↦ now (subst (λ n. IsNew new n q) made there)
      | inr same ↦ before x same
    ]

-- what an act leaves under an id, where the layout has the act's writes
stood : (new : ItemId) (l : Layout) (act : Act) (q : ItemId) (x : items.Item) → IsPlanned new l act →
    item_at (rewritten l act.items act.symbols) q ≡ Some x → Stood new l act q
stood new l act q x (draws cell layer ring there is same) h = made_stood new l (shape_of cell layer ring) act q x
    (ap (λ (a : Act). a.made) same)
    (ap (λ (a : Act). item_at (rewritten l a.items a.symbols) q) same ∙ h)
stood new l act q x (places cell target turn is) h = made_stood new l (Placed cell target turn) act q x
    (ap (λ (a : Act). a.made) is.acts) (ap (λ (a : Act). item_at (rewritten l a.items a.symbols) q) is.acts ∙ h)
stood new l act q x (deletes id same) h = elim (written_value ids_total ids_exact l.items id None q x
    (ap (λ (a : Act). item_at (rewritten l a.items a.symbols) q) same ∙ h)) [
      | inl here ↦ absurd (cc (here.1))
      | inr old ↦ before x old
    ]
stood new l act q x (moves id shift item there near same) h = changed_stood new l id (moved shift item) item act q x there
    (ap (λ (a : Act). item_at (rewritten l a.items a.symbols) q) same ∙ h)
stood new l act q x (relayers id layer old cell rings there same) h =
    changed_stood new l id (Shape cell layer rings) (Shape cell old rings) act q x there
    (ap (λ (a : Act). item_at (rewritten l a.items a.symbols) q) same ∙ h)
stood new l act q x (looks id item there same) h = before x (ap (λ (a : Act). item_at (rewritten l a.items a.symbols) q) same ∙ h)
stood new l act q x (replaces op cell a b out shapes some same) h =
    replaced_stood new l cell out (shape_ids l cell out) shapes act q x (ap (λ (a : Act). a.made) same)
    (ap (λ (a : Act). item_at (rewritten l a.items a.symbols) q) same ∙ h)
stood new l act q x (makes_cell number small free same) h = before x (ap (λ (a : Act). item_at (rewritten l a.items a.symbols) q) same
    ∙ h)
stood new l act q x (drops_cell number unused same) h = before x (ap (λ (a : Act). item_at (rewritten l a.items a.symbols) q) same ∙ h)

act_new_own : (t : TxnId) (old : Layout) (r : Run) (act : Act) → IsPlanned (next_id t r) r.layout act → NewAreOwn t old r →
    NewAreOwn t old (perform r act)
act_new_own t old r act is own q x free there = by_case (stood (next_id t r) r.layout act q x is there) where
  by_case : Stood (next_id t r) r.layout act q → IsOwn t (r.made + act.made) q
  by_case (before item at) = own_more t r.made (r.made + act.made) q (omega arith) (own q item free at)
  by_case (now made) = new_are_own t r act.made q made

-- of a run
pub new_own : (t : TxnId) (cs : List Command) (layout : Layout) (end : Run) → after_each t cs (begun layout) ≡ Some end →
    NewAreOwn t layout end
new_own t cs layout end h = run_keeps (NewAreOwn t layout) t (λ c r next is own.
    subst (λ (p : Done × Run). NewAreOwn t layout p.1) is.next_is
    (act_new_own t layout r is.act (planned (next_id t r) c r.layout is.act is.plan_is) own)) cs (begun layout) end h
    (λ q x free there. let none : None ≡ Some x = sym free ∙ there in absurd cc)
