-- Equality of ids and layouts: the tests, and that they decide. What an `==` answers is such a test.
use Rattle.std.specs.Prelude.{◌≡◌, ◌==◌, Bool, ◌&&◌}
use Rattle.std.specs.FinMap.{FinMap}
use Rattle.std.specs.Bool.{Decides}
use Rattle.std.specs.Cmp.{IsEquivalence, IsPartialEquivalence, decided, partial_equiv_from_equiv}
use Rattle.std.proofs.Common.{ap}
use Rattle.std.proofs.lemmas.Bool.Decides.{Decides-and, Decides-eqb, Decides-like}
use Rattle.lay_layouts.specs.declared.id.ItemId.{ItemId}
use Rattle.lay_layouts.specs.declared.item.Item.{Item}
use Rattle.lay_layouts.specs.Ids.{id_cmp}
use Rattle.lay_layouts.specs.Layout.{Layout}
use Rattle.lay_layouts.specs.Same.{item_eq, item_eq-Decides, symbols_eq, symbols_eq-Decides}
use Rattle.lay_layouts.specs.SameMap.{map_eq, map_eq-Decides}

-- the same id
abbrev pub id_eq : ItemId → ItemId → Bool
id_eq a b = (a.session == b.session) && ((a.txn == b.txn) && (a.seq == b.seq))

pub id_eq-Decides : (a b : ItemId) → Decides (id_eq a b) (a ≡ b)
id_eq-Decides a b =
    Decides-like (id_eq a b) (λ all. λ i. record { session = all.0 i; txn = all.1.0 i; seq = all.1.1 i })
    (λ e. (ap (λ (d : ItemId). d.session) e, (ap (λ (d : ItemId). d.txn) e, ap (λ (d : ItemId). d.seq) e)))
    (Decides-and _ _ (Decides-eqb a.session b.session) (Decides-and _ _ (Decides-eqb a.txn b.txn) (Decides-eqb a.seq b.seq)))

-- the same items under the same ids
abbrev pub items_eq : FinMap id_cmp Item → FinMap id_cmp Item → Bool
items_eq = map_eq id_eq item_eq

pub items_eq-Decides : (m n : FinMap id_cmp Item) → Decides (items_eq m n) (m ≡ n)
items_eq-Decides = map_eq-Decides id_eq item_eq id_eq-Decides item_eq-Decides

-- the same symbols in the same slots, and the same items under the same ids
abbrev pub layout_eq : Layout → Layout → Bool
layout_eq l m = symbols_eq l.symbols m.symbols && items_eq l.items m.items

pub layout_eq-Decides : (l m : Layout) → Decides (layout_eq l m) (l ≡ m)
layout_eq-Decides l m =
    Decides-like (layout_eq l m) (λ both. λ i. record { symbols = both.0 i; items = both.1 i })
    (λ e. (ap (λ (v : Layout). v.symbols) e, ap (λ (v : Layout). v.items) e))
    (Decides-and _ _ (symbols_eq-Decides l.symbols m.symbols) (items_eq-Decides l.items m.items))

pub layout_eq_equiv : IsEquivalence layout_eq
layout_eq_equiv = decided layout_eq layout_eq-Decides

pub layout_eq_partial : IsPartialEquivalence layout_eq
layout_eq_partial = partial_equiv_from_equiv layout_eq_equiv
