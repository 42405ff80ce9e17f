-- Layouts that agree on elements.
-- Source: this project's own.
-- Checked on: the layouts before and after a box 1.1.1 on M agree on Layer(top, N), and not on
-- Layer(top, M).
use Rattle.std.specs.Prelude.{◌≡◌, ℕ, Bool, true, List, Option, Some}
use Rattle.std.specs.FinMap as map
use Rattle.std.specs.FinSet as set
use Rattle.std.specs.List.{AllByRecursion}
use Rattle.lay_layouts.specs.declared.id.ItemId.{ItemId}
use Rattle.lay_layouts.specs.Layout.{Layout, item_at}
use Rattle.txn_commands.specs.declared.element.Element.{Element}
use Rattle.txn_commands.specs.Elements.{Touched}
use Rattle.txn_commands.specs.Lies.{lies, lies_slot}

-- where one of two values passes the test, the other is the same value
pub record AreAlike {V : Type 0} (test : V → Bool) (x y : Option V) : Type 0 where
  pub forth : (v : V) → x ≡ Some v → test v ≡ true → y ≡ Some v
  pub back : (v : V) → y ≡ Some v → test v ≡ true → x ≡ Some v

-- two layouts have the same of what lies in the element
pub record Agree (l m : Layout) (e : Element) : Type 0 where
  pub items : (id : ItemId) → AreAlike (lies e id) (item_at l id) (item_at m id)
  pub symbols : (number : ℕ) → AreAlike (lies_slot e number) (map.get l.symbols number) (map.get m.symbols number)

-- on each of these elements
abbrev pub AgreeOnEach : Layout → Layout → List Element → Type 0
AgreeOnEach l m elements = AllByRecursion (Agree l m) elements

-- on each element of the set
abbrev pub AgreeOn : Layout → Layout → Touched → Type 0
AgreeOn l m touched = (e : Element) → set.contains touched e ≡ true → Agree l m e
