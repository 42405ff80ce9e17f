-- Elements that are added to a footprint, and taken out again where an allocation fails behind them.
use Rattle.std.specs.Prelude.{◌≡◌, false, List, [], ◌∷◌, filter, not}
use Rattle.std.specs.FinSet as set
use Rattle.std.specs.List.{AllByRecursion}
use Rattle.txn_commands.specs.declared.element.Element.{Element}
use Rattle.txn_commands.specs.Elements.{Touched}

-- those of these elements that the footprint hasn't
abbrev pub missing_in : Touched → List Element → List Element
missing_in touched elements = filter (λ e. not (set.contains touched e)) elements

-- the footprint has none of these elements
abbrev pub HasNone : Touched → List Element → Type 0
HasNone touched elements = AllByRecursion (λ e. set.contains touched e ≡ false) elements

-- the footprint without these elements
abbrev pub without_elements : Touched → List Element → Touched
without_elements touched [] = touched
without_elements touched (e ∷ es) = without_elements (set.remove touched e) es
