-- The items of a list under the ids of a text.
use Rattle.std.proofs.Common.{◌≡◌, ◌<◌, ℕ, ◌+◌, Bool, true, false, List, [], ◌∷◌}
use Rattle.std.proofs.Common.{◌++◌, length, Some, None, cond, refl, ap, ◌∙◌, arith, subst, sym}
use Rattle.std.proofs.lemmas.List.{length-append, length-map, map-append}
use Rattle.std.specs.declared.cmp.Ordering.TheVariants.{Less}
use Rattle.std.specs.FinMap.{entries, find}
use Rattle.std.specs.List.{AllByRecursion}
use Rattle.std.specs.List.Sorted.{IsStrictlySortedBy}
use Rattle.std.specs.Map.{keys_of}
use Rattle.std.specs.Ordering.{eq_by_cmp, is_eq}
use Rattle.lay_layouts.specs.declared.id.ItemId.{ItemId}
use Rattle.lay_layouts.specs.declared.item.Item.{Item}
use Rattle.lay_layouts.specs.IdOrder.{ids_total}
use Rattle.lay_layouts.specs.Ids.{id_cmp}
use Rattle.lay_layouts.specs.Layout.{map_of_items}
use Rattle.lay_layouts.specs.LayoutWith.{numbered_from, text_id}
use Rattle.lay_items.specs.Numbered.{AreNumbered, items_under}
use Rattle.lay_layouts.proofs.DistinctLemmas.{AreDistinct}
use Rattle.lay_layouts.proofs.MapLemmas.{entries_again}
use Rattle.lay_layouts.proofs.SlotLemmas.{lesser}

-- ids of a text are ordered by their numbers
text_ids : (p q : ℕ) → p < q → id_cmp (text_id p) (text_id q) ≡ Less
text_ids p q h = lesser p q h

-- an id before all others isn't found among them
unnumbered : (p q : ℕ) (items : List Item) → p < q → find id_cmp (text_id p) (numbered_from q items) ≡ None
unnumbered p q [] h = refl
unnumbered p q (item ∷ items) h =
    ap (λ o. cond (is_eq o) (Some item) (find id_cmp (text_id p) (numbered_from (q + 1) items))) (text_ids p q h)
    ∙ unnumbered p (q + 1) items (omega arith)

-- items under such ids are distinct
pub numbered-distinct : (k : ℕ) (items : List Item) → AreDistinct id_cmp (numbered_from k items)
numbered-distinct k [] = tt
numbered-distinct k (item ∷ items) = (unnumbered k (k + 1) items (omega arith), numbered-distinct (k + 1) items)

id_first : (p q : ℕ) (items : List Item) → p < q → AllByRecursion (λ y. id_cmp (text_id p) y ≡ Less) (keys_of (numbered_from q items))
id_first p q [] h = tt
id_first p q (item ∷ items) h = (text_ids p q h, id_first p (q + 1) items (omega arith))

-- and in order of them
pub numbered_sorted : (k : ℕ) (items : List Item) → IsStrictlySortedBy id_cmp (keys_of (numbered_from k items))
unfolding IsStrictlySortedBy
numbered_sorted k [] = tt
numbered_sorted k (item ∷ items) = (id_first k (k + 1) items (omega arith), numbered_sorted (k + 1) items)

-- the entries of their map
pub entries-numbered : (k : ℕ) (items : List Item) → entries (map_of_items (numbered_from k items)) ≡ numbered_from k items
entries-numbered k items = entries_again id_cmp ids_total (numbered_from k items) (numbered_sorted k items)

-- what is so of all items is so of one that is found
pub found-all : (P : Item → Type 0) (k : ℕ) (items : List Item) (id : ItemId) (found : Item) → AllByRecursion P items
    → find id_cmp id (numbered_from k items) ≡ Some found → P found
found-all P k [] id found all at = absurd cc
found-all P k (item ∷ items) id found all at =
    by_id (eq_by_cmp id_cmp id (text_id k)) (found-all P (k + 1) items id found all.1) at where
      by_id : (b : Bool) → (find id_cmp id (numbered_from (k + 1) items) ≡ Some found → P found)
          → cond b (Some item) (find id_cmp id (numbered_from (k + 1) items)) ≡ Some found → P found
      by_id true rest e = let same : item ≡ found = cc in subst P same all.0
      by_id false rest e = rest e

-- the last item is numbered behind those before it
pub numbered-last : (k : ℕ) (items : List Item) (item : Item)
    → numbered_from k (items ++ item ∷ []) ≡ numbered_from k items ++ (text_id (length items + k), item) ∷ []
numbered-last k [] item = let same : k ≡ 0 + k = omega arith in ap (λ n. (text_id n, item) ∷ []) same
numbered-last k (first ∷ items) item =
    let same : length items + (k + 1) ≡ length (first ∷ items) + k = omega arith in
    ap (λ (rest : List (ItemId × Item)). (text_id k, first) ∷ rest)
    (numbered-last (k + 1) items item
    ∙ ap (λ n. numbered_from (k + 1) items ++ (text_id n, item) ∷ []) same)

-- with one item more they are still numbered
pub numbered-more : (entries new : List (ItemId × Item)) (count next : ℕ) (id : ItemId) (item : Item) → AreNumbered entries count
    → next ≡ count + 1 → id ≡ text_id next → new ≡ entries ++ (id, item) ∷ [] → AreNumbered new next
numbered-more entries new count next id item are n i e =
    let items : items_under new ≡ items_under entries ++ item ∷ [] =
    ap items_under e ∙ map-append (λ (entry : ItemId × Item). entry.1) entries ((id, item) ∷ []) in
    let len : length (items_under entries) ≡ length entries = length-map entries (λ (entry : ItemId × Item). entry.1) in
    let place : next ≡ length (items_under entries) + 1 = omega (arith, n, len, are.all) in
    let last : id ≡ text_id (length (items_under entries) + 1) = i ∙ ap text_id place in
    let grown : length (entries ++ (id, item) ∷ []) ≡ length entries + 1 = length-append entries ((id, item) ∷ []) in
    record {
      ids = e ∙ ap (λ es. es ++ (id, item) ∷ []) are.ids
          ∙ ap (λ (k : ItemId). numbered_from 1 (items_under entries) ++ (k, item) ∷ []) last
          ∙ sym (numbered-last 1 (items_under entries) item) ∙ ap (numbered_from 1) (sym items);
      all = ap length e ∙ omega (arith, grown, are.all, n);
    }
