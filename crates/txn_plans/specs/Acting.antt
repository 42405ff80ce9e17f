-- What contracts see of an act.
use Rattle.std.specs.Prelude.{List, [], ◌∷◌, refl, ℕ}
use Rattle.std.specs.Coded.{Coded, code_by, coded×, coded_list, coded_option, coded_ℕ}
use Rattle.lay_layouts.specs.contracts.item.Item as item
use Rattle.lay_layouts.specs.contracts.slot.CellSlot as slot
use Rattle.lay_layouts.specs.Ids.{coded_id}
use Rattle.lay_layouts.specs.Layout.{SymbolWrite, Write}
use Rattle.txn_commands.specs.contracts.command.Done as done
use Rattle.txn_commands.specs.contracts.element.Element as element
use Rattle.txn_commands.specs.declared.command.Done.{Done}
use Rattle.txn_commands.specs.declared.element.Element.{Element}
use Rattle.txn_commands.specs.Acts.{Act}
use Rattle.txn_plans.specs.declared.act.Act.TheInside.{Inside}
use Rattle.txn_plans.specs.declared.act.Written.{Written}
use Rattle.txn_plans.specs.declared.act.Written.TheVariants.{Item, Items, Nothing, Symbol}

-- what is written of items
abbrev pub item_writes : Written → List Write
item_writes Nothing = []
item_writes (Item id item) = (id, item) ∷ []
item_writes (Items writes) = writes.items
item_writes (Symbol number slot) = []

-- and of symbols
abbrev pub symbols_in : Written → List SymbolWrite
symbols_in Nothing = []
symbols_in (Item id item) = []
symbols_in (Items writes) = []
symbols_in (Symbol number slot) = (number, slot) ∷ []

abbrev pub act_in : Inside → Act
act_in a = record {
  done = a.done;
  elements = a.elements.items;
  items = item_writes a.written;
  symbols = symbols_in a.written;
  made = a.made;
}

-- an act is stored as its parts
abbrev pub coded_act : Coded Act
coded_act =
    code_by (Done × (List Element × (List Write × (List SymbolWrite × ℕ))))
    (coded× done.the_row.coded (coded× (coded_list element.the_row.coded)
    (coded× (coded_list (coded× coded_id (coded_option item.the_row.coded)))
    (coded× (coded_list (coded× coded_ℕ (coded_option slot.the_row.coded))) coded_ℕ))))
    (λ a. (a.done, (a.elements, (a.items, (a.symbols, a.made)))))
    (λ p. record { done = p.0; elements = p.1.0; items = p.1.1.0; symbols = p.1.1.1.0; made = p.1.1.1.1 })
    (λ _. refl)
