-- Equality of rings, items and symbols: the tests, and that they decide. What an `==` answers is such a test.
use Rattle.std.specs.Prelude.{◌≡◌, ◌==◌, nat_eq, List, Option, None, Some, Bool, true, false, ◌&&◌, refl}
use Rattle.std.specs.Ordering.{nat_cmp}
use Rattle.std.specs.FinMap.{FinMap}
use Rattle.std.specs.Bool.{Decides}
use Rattle.std.specs.Cmp.{IsEquivalence, IsPartialEquivalence, decided, partial_equiv_from_equiv}
use Rattle.std.specs.Cmp.Lexicographic.{pointwise}
use Rattle.std.proofs.Common.{ap}
use Rattle.std.proofs.lemmas.Bool.Decides.{Decides-and, Decides-eqb, Decides-like}
use Rattle.std.proofs.lemmas.Slice.Eq.{bytes_eq-Decides, slice_eq-Decides}
use Rattle.lay_point.specs.declared.point.Point.{Point}
use Rattle.lay_cells.specs.SameCell.{cell_eq, cell_eq-Decides}
use Rattle.lay_point.specs.Same.{names_eq, points_eq, points_eq-Decides}
use Rattle.lay_point.specs.SameTurn.{turn_eq, turn_eq-Decides}
use Rattle.lay_layouts.specs.declared.item.Item.{Item}
use Rattle.lay_layouts.specs.declared.item.Item.TheVariants.{Placed, Shape}
use Rattle.lay_layouts.specs.declared.slot.CellSlot.{CellSlot}
use Rattle.lay_layouts.specs.declared.slot.CellSlot.TheVariants.{Base, Made}
use Rattle.lay_layouts.specs.SameMap.{map_eq, map_eq-Decides}

-- the same rings in the same order
abbrev pub rings_eq : List (List Point) → List (List Point) → Bool
rings_eq = pointwise points_eq

pub rings_eq-Decides : (rs ss : List (List Point)) → Decides (rings_eq rs ss) (rs ≡ ss)
rings_eq-Decides rs ss = slice_eq-Decides points_eq-Decides rs ss (rings_eq rs ss) refl

pub rings_eq_equiv : IsEquivalence rings_eq
rings_eq_equiv = decided rings_eq rings_eq-Decides

pub rings_eq_partial : IsPartialEquivalence rings_eq
rings_eq_partial = partial_equiv_from_equiv rings_eq_equiv

-- the same item
abbrev pub item_eq : Item → Item → Bool
item_eq (Shape c l r) (Shape d m s) = cell_eq c d && (names_eq l m && rings_eq r s)
item_eq (Shape c l r) (Placed d t v) = false
item_eq (Placed c t v) (Shape d m s) = false
item_eq (Placed c t v) (Placed d u w) = cell_eq c d && ((t == u) && turn_eq v w)

pub item_eq-Decides : (x y : Item) → Decides (item_eq x y) (x ≡ y)
item_eq-Decides (Shape c l r) (Shape d m s) =
    Decides-like (item_eq (Shape c l r) (Shape d m s)) (λ all. λ i. Shape (all.0 i) (all.1.0 i) (all.1.1 i)) (λ e. ((cc), ((cc), (cc))))
    (Decides-and _ _ (cell_eq-Decides c d) (Decides-and _ _ (bytes_eq-Decides l m) (rings_eq-Decides r s)))
item_eq-Decides (Shape c l r) (Placed d t v) = (λ e. cc, λ e. cc)
item_eq-Decides (Placed c t v) (Shape d m s) = (λ e. cc, λ e. cc)
item_eq-Decides (Placed c t v) (Placed d u w) =
    Decides-like (item_eq (Placed c t v) (Placed d u w)) (λ all. λ i. Placed (all.0 i) (all.1.0 i) (all.1.1 i)) (λ e. ((cc), ((cc), (cc))))
    (Decides-and _ _ (cell_eq-Decides c d) (Decides-and _ _ (Decides-eqb t u) (turn_eq-Decides v w)))

-- the same item, or none in both
abbrev pub option_item_eq : Option Item → Option Item → Bool
option_item_eq None None = true
option_item_eq None (Some y) = false
option_item_eq (Some x) None = false
option_item_eq (Some x) (Some y) = item_eq x y

pub option_item_eq-Decides : (x y : Option Item) → Decides (option_item_eq x y) (x ≡ y)
option_item_eq-Decides None None = (λ _. refl, λ _. refl)
option_item_eq-Decides None (Some y) = (λ e. cc, λ e. cc)
option_item_eq-Decides (Some x) None = (λ e. cc, λ e. cc)
option_item_eq-Decides (Some x) (Some y) = Decides-like (item_eq x y) (λ e. ap Some e) (λ e. cc) (item_eq-Decides x y)

-- the same slot
abbrev pub slot_eq : CellSlot → CellSlot → Bool
slot_eq (Base m) (Base n) = m == n
slot_eq (Base m) Made = false
slot_eq Made (Base n) = false
slot_eq Made Made = true

pub slot_eq-Decides : (a b : CellSlot) → Decides (slot_eq a b) (a ≡ b)
slot_eq-Decides (Base m) (Base n) = Decides-like (m == n) (λ e. ap Base e) (λ e. cc) (Decides-eqb m n)
slot_eq-Decides (Base m) Made = (λ e. cc, λ e. cc)
slot_eq-Decides Made (Base n) = (λ e. cc, λ e. cc)
slot_eq-Decides Made Made = (λ _. refl, λ _. refl)

-- the same symbols in the same slots
abbrev pub symbols_eq : FinMap nat_cmp CellSlot → FinMap nat_cmp CellSlot → Bool
symbols_eq = map_eq nat_eq slot_eq

pub symbols_eq-Decides : (m n : FinMap nat_cmp CellSlot) → Decides (symbols_eq m n) (m ≡ n)
symbols_eq-Decides = map_eq-Decides nat_eq slot_eq Decides-eqb slot_eq-Decides
