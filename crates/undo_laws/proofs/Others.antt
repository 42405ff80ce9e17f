-- What an accepted operation leaves alone: shapes elsewhere, and calls.
use Rattle.std.proofs.Common.{◌≡◌, ◌≢◌, ◌⊎◌, inl, inr, ℕ, suc, true, false, ◌&&◌, cond, List, [], ◌∷◌, ◌++◌}
use Rattle.std.proofs.Common.{Option, None, Some, option_map, unwrap_or, refl, ap, sym, ◌∙◌, subst, arith}
use Rattle.std.proofs.lemmas.Bool.{and_parts, false_from_ne_true}
use Rattle.std.proofs.lemmas.Slice.Eq.{bytes_eq-Decides}
use Rattle.std.specs.FinMap.{find, get}
use Rattle.std.specs.List.{AllByRecursion}
use Rattle.lay_point.specs.Same.{names_eq}
use Rattle.lay_cells.specs.declared.cell_id.CellId.{CellId}
use Rattle.lay_cells.specs.SameCell.{cell_eq, cell_eq-Decides}
use Rattle.lay_layouts.specs.declared.id.ItemId.{ItemId}
use Rattle.lay_layouts.specs.declared.item.Item as items
use Rattle.lay_layouts.specs.declared.item.Item.TheVariants.{Placed, Shape}
use Rattle.lay_layouts.specs.IdOrder.{ids_exact}
use Rattle.lay_layouts.specs.Ids.{id_cmp}
use Rattle.lay_layouts.specs.Layout.{Layout, item_at}
use Rattle.bool_rules.specs.Shapes.{Rings}
use Rattle.txn_commands.specs.declared.element.Element.{Element}
use Rattle.txn_commands.specs.declared.element.Element.TheVariants.{Calls, Layer}
use Rattle.txn_commands.specs.Acts.{id_after, new_shapes, removals}
use Rattle.txn_commands.specs.Agreement.{Agree, AreAlike}
use Rattle.txn_commands.specs.Effects.{next_id}
use Rattle.txn_commands.specs.Lies.{lies}
use Rattle.txn_commands.specs.Own.{id_from}
use Rattle.txn_commands.specs.Plans.{shape_ids}
use Rattle.txn_rules.proofs.Below.{calls_agree, shapes_agree}
use Rattle.txn_rules.proofs.Booleans.{WritesAs, behind_writes, first_new, later_new, removed_as}
use Rattle.txn_commands.proofs.Lists.{all_joined}
use Rattle.txn_commands.proofs.Maps.{other_key}
use Rattle.txn_rules.proofs.Own.{new_own}
use Rattle.undo_laws.specs.Laws.{BooleansLeaveOthers, LeavesOthers, RunsKeepIdsFree}
use Rattle.undo_laws.proofs.Numbered.{drawn_from}
use Rattle.undo_laws.proofs.Replacing.{behind, get-removed, is_one_of, item_behind, left, lies_where_among, replaced}

-- no shape of the cell on the layer lies in the element
abbrev IsElsewhere : CellId → List ℕ → Element → Type 0
IsElsewhere cell out e = (id : ItemId) (x : items.Item) → lies (Layer cell out) id x ≡ true → lies e id x ≡ true → ⊥

-- a shape stands in one cell, on one layer
one_place : (c cell : CellId) (layer out : List ℕ) (id : ItemId) (x : items.Item) → lies (Layer cell out) id x ≡ true →
    lies (Layer c layer) id x ≡ true → (c ≡ cell) × (layer ≡ out)
one_place c cell layer out id (Shape stands name rings) here there =
    let one = and_parts (cell_eq cell stands) (names_eq out name) here in
    let other = and_parts (cell_eq c stands) (names_eq layer name) there in (
      (cell_eq-Decides c stands).0 other.0 ∙ sym ((cell_eq-Decides cell stands).0 one.0),
      (bytes_eq-Decides layer name).0 other.1 ∙ sym ((bytes_eq-Decides out name).0 one.1),
    )
one_place c cell layer out id (Placed stands target turn) here there = absurd (cc)

other_place : (c cell : CellId) (layer out : List ℕ) → (c ≢ cell) ⊎ (layer ≢ out) → IsElsewhere cell out (Layer c layer)
other_place c cell layer out (inl apart) id x here there = apart (one_place c cell layer out id x here there).0
other_place c cell layer out (inr apart) id x here there = apart (one_place c cell layer out id x here there).1

no_call : (c cell : CellId) (out : List ℕ) → IsElsewhere cell out (Calls c)
no_call c cell out id (Shape stands name rings) here there = absurd (cc)
no_call c cell out id (Placed stands target turn) here there = absurd (cc)

-- an id that is none of those from this one on isn't found among the new shapes
unfound : (q new : ItemId) (cell : CellId) (out : List ℕ) (shapes : List Rings) → ((n : ℕ) → q ≢ id_from new n) →
    find id_cmp q (drawn_from new cell out shapes) ≡ None
unfound q new cell out [] other = refl
unfound q new cell out (rings ∷ shapes) other =
    ap (λ b. cond b (Some (Shape cell out rings)) (find id_cmp q (drawn_from (id_after new) cell out shapes)))
    (other_key ids_exact q new (λ e. other 0 (e ∙ sym (first_new new))))
    ∙ unfound q (id_after new) cell out shapes (λ n e. other (suc n) (e ∙ later_new new n))

-- what is written is a shape of the cell on the layer
abbrev IsHere : CellId → List ℕ → ItemId → items.Item → Type 0
IsHere cell out q x = lies (Layer cell out) q x ≡ true

written_here : (new : ItemId) (cell : CellId) (out : List ℕ) (shapes : List Rings) →
    AllByRecursion (WritesAs (IsHere cell out)) (new_shapes new cell out shapes)
written_here new cell out [] = tt
written_here new cell out (rings ∷ shapes) = (
  (λ x h. let same : Shape cell out rings ≡ x = cc in subst (IsHere cell out new) same here),
  written_here (id_after new) cell out shapes,
) where
  here : IsHere cell out new (Shape cell out rings)
  here = (λ i. (cell_eq-Decides cell cell).1 refl i && (bytes_eq-Decides out out).1 refl i)

module _ (l : Layout) (new : ItemId) (cell : CellId) (out : List ℕ) (shapes : List Rings)
    (free : (n : ℕ) → item_at l (id_from new n) ≡ None) (e : Element) (elsewhere : IsElsewhere cell out e) where
  -- what lies elsewhere stands there still
  stays : (q : ItemId) (x : items.Item) → item_at l q ≡ Some x → lies e q x ≡ true →
      item_at (behind l new cell out shapes) q ≡ Some x
  stays q x there lying =
      item_behind l new cell out shapes q
      ∙ ap (λ o. unwrap_or (option_map Some o) (get (left l new cell out shapes) q)) (unfound q new cell out shapes other)
      ∙ get-removed l.items (shape_ids l cell out) q
      ∙ ap (λ b. cond b None (get l.items q)) kept
      ∙ there where
        other : (n : ℕ) → q ≢ id_from new n
        other n same = absurd (cc (sym there ∙ ap (item_at l) same ∙ free n))

        kept : is_one_of (shape_ids l cell out) q ≡ false
        kept = false_from_ne_true (is_one_of (shape_ids l cell out) q)
            (λ among. elsewhere q x (lies_where_among l cell out q x there among) lying)

  -- and stood there before
  stood : (q : ItemId) (x : items.Item) → item_at (behind l new cell out shapes) q ≡ Some x → lies e q x ≡ true →
      item_at l q ≡ Some x
  stood q x there lying = elim (behind_writes (IsHere cell out) (removals (shape_ids l cell out) ++ new_shapes new cell out shapes)
      (all_joined (WritesAs (IsHere cell out)) (removals (shape_ids l cell out)) (new_shapes new cell out shapes)
      (removed_as (IsHere cell out) (shape_ids l cell out)) (written_here new cell out shapes)) l q x there) [
        | inl here ↦ absurd (elsewhere q x here lying)
        | inr old ↦ old
      ]

  alike : (q : ItemId) → AreAlike (lies e q) (item_at (behind l new cell out shapes) q) (item_at l q)
  alike q = record { forth = stood q; back = stays q }

module _ (l : Layout) (new : ItemId) (cell : CellId) (out : List ℕ) (shapes : List Rings)
    (free : (n : ℕ) → item_at l (id_from new n) ≡ None) where
  on_layer : (c : CellId) (layer : List ℕ) → (c ≢ cell) ⊎ (layer ≢ out) → Agree (behind l new cell out shapes) l (Layer c layer)
  on_layer c layer apart = record {
    items = alike l new cell out shapes free (Layer c layer) (other_place c cell layer out apart);
    symbols = λ number. record { forth = λ v h t. h; back = λ v h t. h };
  }

  on_calls : (c : CellId) → Agree (behind l new cell out shapes) l (Calls c)
  on_calls c = record {
    items = alike l new cell out shapes free (Calls c) (no_call c cell out);
    symbols = λ number. record { forth = λ v h t. h; back = λ v h t. h };
  }

  others_left : LeavesOthers cell out l (behind l new cell out shapes)
  others_left = record {
    shapes = λ c layer apart. shapes_agree (behind l new cell out shapes) l c layer (on_layer c layer apart);
    calls = λ c. calls_agree (behind l new cell out shapes) l c (on_calls c);
    symbols = refl;
  }

pub others_stay : BooleansLeaveOthers
others_stay txn run op cell a b out next free h =
    let is = replaced txn run op cell a b out next h in
    subst (LeavesOthers cell out run.layout) is.layout_is (others_left run.layout (next_id txn run) cell out is.shapes
    (λ n. free (id_from (next_id txn run) n) refl refl (omega arith)))

pub ids_stay_free : RunsKeepIdsFree
ids_stay_free txn commands l run none h id session number above = by_item (item_at run.layout id) refl where
  by_item : (o : Option items.Item) → item_at run.layout id ≡ o → o ≡ None
  by_item None is = refl
  by_item (Some item) is =
      let own = new_own txn commands l run h id item (none id session number) is in absurd (omega (arith, above, own.last))
