-- An item that is no call adds none to a layout's calls.
use Rattle.std.proofs.Common.{◌≡◌, List, [], ◌∷◌, Option, Some, None, Contains, inl, inr, subst}
use Rattle.std.specs.declared.cmp.Ordering.{Ordering}
use Rattle.std.specs.declared.cmp.Ordering.TheVariants.{Equal, Greater, Less}
use Rattle.std.specs.FinMap.{put}
use Rattle.std.specs.FinMap.Entries.{by_order}
use Rattle.std.specs.List.{cons_option}
use Rattle.std.proofs.lemmas.List.Elements.{Contains-append_cases, Contains-append_left, Contains-append_right}
use Rattle.lay_cells.proofs.FewerCalls.{AreAmong}
use Rattle.lay_layouts.specs.declared.id.ItemId.{ItemId}
use Rattle.lay_layouts.specs.declared.item.Item.{Item}
use Rattle.lay_layouts.specs.Calls.{Call, as_call, calls_among}
use Rattle.lay_layouts.specs.Ids.{id_cmp}

-- what stands behind what may be there
contains_behind : (o : Option Call) (xs : List Call) → AreAmong xs (cons_option o xs)
contains_behind None xs x h = h
contains_behind (Some y) xs x h = Contains-append_right (y ∷ []) xs x h

contains_more : (o : Option Call) (xs ys : List Call) → AreAmong xs ys → AreAmong (cons_option o xs) (cons_option o ys)
contains_more None xs ys among x h = among x h
contains_more (Some y) xs ys among x h = elim (Contains-append_cases (y ∷ []) xs x h) [
  | inl first ↦ Contains-append_left (y ∷ []) ys x first
  | inr behind ↦ Contains-append_right (y ∷ []) ys x (among x behind)
]

-- an entry that is no call
no_call_first : (item : Item) (calls : List Call) → as_call item ≡ None → AreAmong (cons_option (as_call item) calls) calls
no_call_first item calls none x h = subst (λ (o : Option Call). Contains (cons_option o calls) x) none h

put_fewer : (id : ItemId) (item : Item) (es : List (ItemId × Item)) → as_call item ≡ None
    → AreAmong (calls_among (put id_cmp id item es)) (calls_among es)
put_fewer id item [] none = no_call_first item [] none
put_fewer id item (e ∷ es) none = by_id (id_cmp id e.0) (put_fewer id item es none) where
  by_id : (o : Ordering) → AreAmong (calls_among (put id_cmp id item es)) (calls_among es)
      → AreAmong (calls_among (by_order o ((id, item) ∷ e ∷ es) ((e.0, item) ∷ es) (e ∷ put id_cmp id item es))) (calls_among (e ∷ es))
  by_id Less rest = no_call_first item (calls_among (e ∷ es)) none
  by_id Equal rest = λ x h. contains_behind (as_call e.1) (calls_among es) x (no_call_first item (calls_among es) none x h)
  by_id Greater rest = contains_more (as_call e.1) (calls_among (put id_cmp id item es)) (calls_among es) rest
