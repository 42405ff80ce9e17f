-- What an id has after writes.
use Rattle.std.proofs.Common.{◌≡◌, ◌∙◌, List, [], ◌∷◌, Option, Some, None, cond, refl, ap}
use Rattle.std.specs.declared.cmp.Ordering.TheVariants.{Less}
use Rattle.std.specs.FinMap.{FinMap, get, get-insert, get-remove}
use Rattle.std.specs.List.{AllByRecursion}
use Rattle.std.specs.Map.{keys_of}
use Rattle.std.specs.Ordering.{eq_by_cmp, is_eq}
use Rattle.lay_layouts.specs.declared.id.ItemId.{ItemId}
use Rattle.lay_layouts.specs.declared.item.Item.{Item}
use Rattle.lay_layouts.specs.IdOrder.{ids_total}
use Rattle.lay_layouts.specs.Ids.{id_cmp}
use Rattle.lay_layouts.specs.Layout.{Write, put, put_all}

-- what an id has after the writes, from what it had
abbrev pub latest : List Write → ItemId → Option Item → Option Item
latest [] q old = old
latest (w ∷ ws) q old = latest ws q (cond (eq_by_cmp id_cmp q w.0) w.1 old)

pub get-put_all : (items : FinMap id_cmp Item) (ws : List Write) (q : ItemId) → get (put_all items ws) q ≡ latest ws q (get items q)
get-put_all items [] q = refl
get-put_all items (w ∷ ws) q = get-put_all (put items w.0 w.1) ws q ∙ ap (latest ws q) (one w.1) where
  one : (o : Option Item) → get (put items w.0 o) q ≡ cond (eq_by_cmp id_cmp q w.0) o (get items q)
  one None = get-remove ids_total items w.0 q
  one (Some item) = get-insert ids_total items w.0 item q

-- an id before all of them isn't written
pub unwritten : (ws : List Write) (q : ItemId) (old : Option Item) → AllByRecursion (λ y. id_cmp q y ≡ Less) (keys_of ws)
    → latest ws q old ≡ old
unwritten [] q old all = refl
unwritten (w ∷ ws) q old all = ap (λ o. latest ws q (cond (is_eq o) w.1 old)) all.0 ∙ unwritten ws q old all.1
