-- Layouts that agree on elements: what they have in common, and that the same writes keep it.
use Rattle.std.proofs.Common.{◌≡◌, ℕ, Bool, true, List, Option, None, Some, is_some, refl, ap, sym, ◌∙◌}
use Rattle.std.proofs.lemmas.Bool.Decides.{Decides-eqb}
use Rattle.std.specs.Cmp.{nat_cmp_total}
use Rattle.std.specs.FinMap.{get}
use Rattle.lay_cells.specs.declared.cell_id.CellId.{CellId}
use Rattle.lay_cells.specs.declared.cell_id.CellId.TheVariants.{Symbol, Top}
use Rattle.lay_layouts.specs.declared.id.ItemId.{ItemId}
use Rattle.lay_layouts.specs.IdOrder.{ids_total}
use Rattle.lay_layouts.specs.Layout.{Layout, Write, is_cell, item_at}
use Rattle.lay_layouts.specs.SameLayout.{id_eq-Decides}
use Rattle.txn_commands.specs.declared.element.Element.{Element}
use Rattle.txn_commands.specs.declared.element.Element.TheVariants.{Cell, Item}
use Rattle.txn_commands.specs.Acts.{cell_elements}
use Rattle.txn_commands.specs.Agreement.{Agree, AgreeOnEach, AreAlike}
use Rattle.txn_commands.specs.Lies.{lies, lies_slot}
use Rattle.lay_layouts.specs.Layout.{SymbolWrite}
use Rattle.txn_commands.specs.Writing.{rewritten}
use Rattle.txn_commands.proofs.Maps.{put_all-alike}

-- values that are alike, and pass the test whatever they are, are equal
alike-equal : {V : Type 0} (test : V → Bool) (x y : Option V) → ((v : V) → test v ≡ true) → AreAlike test x y → x ≡ y
alike-equal test None None all alike = refl
alike-equal test None (Some w) all alike = alike.back w refl (all w)
alike-equal test (Some v) y all alike = sym (alike.forth v refl (all v))

-- equal values are alike
pub equal-alike : {V : Type 0} (test : V → Bool) (x y : Option V) → x ≡ y → AreAlike test x y
equal-alike test x y e = record { forth = λ v h t. sym e ∙ h; back = λ v h t. e ∙ h }

pub alike-sym : {V : Type 0} (test : V → Bool) (x y : Option V) → AreAlike test x y → AreAlike test y x
alike-sym test x y alike = record { forth = alike.back; back = alike.forth }

pub alike-trans : {V : Type 0} (test : V → Bool) (x y z : Option V) → AreAlike test x y → AreAlike test y z → AreAlike test x z
alike-trans test x y z first next = record {
  forth = λ v h t. next.forth v (first.forth v h t) t;
  back = λ v h t. first.back v (next.back v h t) t;
}

pub same_item : (l m : Layout) (id : ItemId) → Agree l m (Item id) → item_at l id ≡ item_at m id
same_item l m id agree =
    alike-equal (lies (Item id) id) (item_at l id) (item_at m id) (λ v. (id_eq-Decides id id).1 refl) (agree.items id)

pub same_slot : (l m : Layout) (number : ℕ) → Agree l m (Cell number) → get l.symbols number ≡ get m.symbols number
same_slot l m number agree = alike-equal (lies_slot (Cell number) number) (get l.symbols number) (get m.symbols number)
    (λ v. (Decides-eqb number number).1 refl) (agree.symbols number)

-- a cell is there in both
pub same_is_cell : (l m : Layout) (cell : CellId) → AgreeOnEach l m (cell_elements cell) → is_cell l cell ≡ is_cell m cell
same_is_cell l m Top agree = refl
same_is_cell l m (Symbol number) agree = ap is_some (same_slot l m number agree.0)

-- agreement is an equivalence
pub agree-equal : (l m : Layout) (e : Element) → l ≡ m → Agree l m e
agree-equal l m e same = record {
  items = λ id. equal-alike (lies e id) (item_at l id) (item_at m id) (ap (λ (k : Layout). item_at k id) same);
  symbols = λ number. equal-alike (lies_slot e number) (get l.symbols number) (get m.symbols number)
      (ap (λ (k : Layout). get k.symbols number) same);
}

pub agree-sym : (l m : Layout) (e : Element) → Agree l m e → Agree m l e
agree-sym l m e agree = record {
  items = λ id. alike-sym (lies e id) (item_at l id) (item_at m id) (agree.items id);
  symbols = λ number. alike-sym (lies_slot e number) (get l.symbols number) (get m.symbols number) (agree.symbols number);
}

pub agree-trans : (k l m : Layout) (e : Element) → Agree k l e → Agree l m e → Agree k m e
agree-trans k l m e first next = record {
  items = λ id. alike-trans (lies e id) (item_at k id) (item_at l id) (item_at m id) (first.items id) (next.items id);
  symbols = λ number. alike-trans (lies_slot e number) (get k.symbols number) (get l.symbols number) (get m.symbols number)
      (first.symbols number) (next.symbols number);
}

-- the same writes keep it
pub agree-rewritten : (l m : Layout) (e : Element) (items : List Write) (symbols : List SymbolWrite) → Agree l m e →
    Agree (rewritten l items symbols) (rewritten m items symbols) e
agree-rewritten l m e items symbols agree = record {
  items = λ id. put_all-alike ids_total (lies e id) l.items m.items items id (agree.items id);
  symbols = λ number. put_all-alike nat_cmp_total (lies_slot e number) l.symbols m.symbols symbols number (agree.symbols number);
}
