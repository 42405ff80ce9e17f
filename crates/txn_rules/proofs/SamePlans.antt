-- A command that is accepted does the same on each sound layout that agrees with the first on the elements that it touches.
use Rattle.std.proofs.Common.{◌≡◌, ℕ, Bool, true, false, not, ◌||◌, ◌&&◌, List, [], ◌∷◌, map, Option, None, Some, is_some}
use Rattle.std.proofs.Common.{Result, Ok, Err, nat_lt, refl, ap, sym, subst, ◌∙◌, inl, inr}
use Rattle.std.proofs.lemmas.Bool.{not-false, or_cases}
use Rattle.std.specs.FinMap.{entries, get}
use Rattle.std.specs.Ordering.{int_eq}
use Rattle.lay_cells.specs.declared.cell_id.CellId.{CellId}
use Rattle.lay_cells.specs.declared.cell_id.CellId.TheVariants.{Symbol}
use Rattle.lay_cells.specs.declared.cells.TheConstants.{MAX_SYMBOL}
use Rattle.lay_point.specs.declared.point.Point.{Point}
use Rattle.lay_point.specs.declared.ring.RingFault.{RingFault}
use Rattle.lay_point.specs.declared.turn.Turn.{Turn}
use Rattle.lay_point.specs.Points.{is_in_range}
use Rattle.lay_point.specs.Rings.{ring_of}
use Rattle.lay_layouts.specs.declared.id.ItemId.{ItemId}
use Rattle.lay_layouts.specs.declared.item.Item as items
use Rattle.lay_layouts.specs.declared.item.Item.TheVariants.{Placed, Shape}
use Rattle.lay_layouts.specs.IdOrder.{ids_exact, ids_total}
use Rattle.lay_layouts.specs.Layout.{Layout, is_cell, item_at}
use Rattle.lay_layouts.specs.Sound.{IsSound}
use Rattle.txn_commands.specs.declared.command.Command.{Command}
use Rattle.txn_commands.specs.declared.command.Command.TheVariants.{
  Bool as Combine,
  Box,
  Delete,
  DropCell,
  Look,
  MakeCell,
  Move,
  Place,
  Poly,
}
use Rattle.txn_commands.specs.declared.command.Command.TheVariants.{SetLayer}
use Rattle.txn_commands.specs.declared.element.Element.{Element}
use Rattle.txn_commands.specs.declared.element.Element.TheVariants.{Calls, Cell, Content, Item, Uses}
use Rattle.txn_commands.specs.declared.fault.CmdFault.{CmdFault}
use Rattle.txn_commands.specs.declared.fault.CmdFault.TheVariants.{CellThere, CellUsed, Cycle, FewPoints, NoCell, NoItem, OutOfRange}
use Rattle.txn_commands.specs.Acts.{Act, cell_elements, change_act, drop_cell_act, look_act, make_cell_act, place_act, shape_act}
use Rattle.txn_commands.specs.Agreement.{Agree, AgreeOnEach, AreAlike}
use Rattle.txn_commands.specs.Figures.{box_ring, is_item_in_range, moved, shape_of}
use Rattle.txn_commands.specs.Lies.{lies}
use Rattle.txn_commands.specs.Plans.{is_used, move_to, plan, refused_if, relayer, ring_act, with_value}
use Rattle.txn_commands.specs.Reach.{is_among, reached}
use Rattle.txn_rules.proofs.Booleans.{same_bool}
use Rattle.txn_commands.proofs.Agreements.{same_is_cell, same_item, same_slot}
use Rattle.txn_commands.proofs.Lists.{all_mapped, all_parts}
use Rattle.txn_commands.proofs.Lying.{filter-alike_maps, is_some_entry, list_any-filter}
use Rattle.txn_rules.proofs.Reach.{same_reach}

-- a test that isn't met, and what comes behind it
pub passed : {X : Type 0} (test : Bool) (fault : CmdFault) (rest : Result X CmdFault) (x : X) → refused_if test fault rest ≡ Ok x →
    (test ≡ false) × (rest ≡ Ok x)
passed true fault rest x h = absurd cc
passed false fault rest x h = (refl, h)

-- a value that is there, and what comes behind it
pub given : {V X : Type 0} (value : Option V) (fault : CmdFault) (rest : V → Result X CmdFault) (x : X) →
    with_value value fault rest ≡ Ok x →
    (v : V) × (value ≡ Some v) × (rest v ≡ Ok x)
given None fault rest x h = absurd cc
given (Some v) fault rest x h = (v, refl, h)

pub drawn_by : (new : ItemId) (cell : CellId) (layer : List ℕ) (ring : Result (List Point) RingFault) (act : Act) →
    ring_act new cell layer ring ≡ Ok act →
    (points : List Point) × (ring ≡ Ok points) × (shape_act new cell (shape_of cell layer points) ≡ act)
drawn_by new cell layer (Ok points) act h = (points, refl, cc)
drawn_by new cell layer (Err fault) act h = absurd cc

pub moved_to : (id : ItemId) (item : items.Item) (act : Act) → move_to id item ≡ Ok act →
    (is_item_in_range item ≡ true) × (change_act id (Some item) ≡ act)
moved_to id item act h =
    let ok = passed (not (is_item_in_range item)) OutOfRange (Ok (change_act id (Some item))) act h in
    (by_case (is_item_in_range item) ok.0, cc (ok.1)) where
      by_case : (b : Bool) → not b ≡ false → b ≡ true
      by_case true h = refl
      by_case false h = absurd cc

pub relayered : (id : ItemId) (layer : List ℕ) (item : items.Item) (act : Act) → relayer id layer item ≡ Ok act →
    (cell : CellId) × (old : List ℕ) × (rings : List (List Point)) × (item ≡ Shape cell old rings)
    × (change_act id (Some (Shape cell layer rings)) ≡ act)
relayered id layer (Shape cell old rings) act h = (cell, old, rings, refl, cc)
relayered id layer (Placed cell target turn) act h = absurd cc

-- a command on one item reads it alone
on_item : (l m : Layout) (id : ItemId) (rest : items.Item → Result Act CmdFault) (act : Act) → act.elements ≡ Item id ∷ [] →
    with_value (item_at l id) NoItem rest ≡ Ok act → AgreeOnEach l m act.elements → with_value (item_at m id) NoItem rest ≡ Ok act
on_item l m id rest act elements h agree =
    let one : AgreeOnEach l m (Item id ∷ []) = subst (λ (es : List Element). AgreeOnEach l m es) elements agree in
    ap (λ x. with_value x NoItem rest) (sym (same_item l m id one.0)) ∙ h

-- a symbol is used in both or in none
used_in : (l m : Layout) (number : ℕ) → Agree l m (Content number) → Agree l m (Uses number) → is_used l number ≡ is_used m number
used_in l m number content uses =
    list_any-filter p (entries l.items)
    ∙ ap is_some_entry (filter-alike_maps ids_total ids_exact (λ id item. lies (Content number) id item || lies (Uses number) id item)
    l.items m.items (λ id. either id (content.items id) (uses.items id)))
    ∙ sym (list_any-filter p (entries m.items)) where
      p : ItemId × items.Item → Bool
      p entry = lies (Content number) entry.0 entry.1 || lies (Uses number) entry.0 entry.1

      either : (id : ItemId) → AreAlike (lies (Content number) id) (item_at l id) (item_at m id) →
          AreAlike (lies (Uses number) id) (item_at l id) (item_at m id) →
          AreAlike (λ item. lies (Content number) id item || lies (Uses number) id item) (item_at l id) (item_at m id)
      either id one other = record {
        forth = λ v e h. elim (or_cases (lies (Content number) id v) (lies (Uses number) id v) h) [
          | inl t ↦ one.forth v e t
          | inr t ↦ other.forth v e t
        ];
        back = λ v e h. elim (or_cases (lies (Content number) id v) (lies (Uses number) id v) h) [
          | inl t ↦ one.back v e t
          | inr t ↦ other.back v e t
        ];
      }

-- a command in a cell finds it in both
in_cell : (l m : Layout) (cell : CellId) (rest : Result Act CmdFault) (act : Act) → AgreeOnEach l m (cell_elements cell) →
    refused_if (not (is_cell l cell)) NoCell rest ≡ Ok act → refused_if (not (is_cell m cell)) NoCell rest ≡ Ok act
in_cell l m cell rest act agree h = ap (λ b. refused_if (not b) NoCell rest) (sym (same_is_cell l m cell agree)) ∙ h

-- where the layouts agree on what an act touches, they do on what it is known to touch
agree_on : (l m : Layout) (known act : Act) → known ≡ act → AgreeOnEach l m act.elements → AgreeOnEach l m known.elements
agree_on l m known act same agree = subst (λ (x : Act). AgreeOnEach l m x.elements) (sym same) agree

same_box : (new : ItemId) (cell : CellId) (layer : List ℕ) (a b : Point) (l m : Layout) (act : Act) →
    plan new (Box cell layer a b) l ≡ Ok act → AgreeOnEach l m act.elements → plan new (Box cell layer a b) m ≡ Ok act
unfolding plan
same_box new cell layer a b l m act h agree =
    let known = shape_act new cell (shape_of cell layer (box_ring a b)) in
    let last : Result Act CmdFault = refused_if (not (is_in_range a && is_in_range b)) OutOfRange (Ok known) in
    let middle : Result Act CmdFault = refused_if (int_eq a.x b.x || int_eq a.y b.y) FewPoints last in
    let there = passed (not (is_cell l cell)) NoCell middle act h in
    let wide = passed (int_eq a.x b.x || int_eq a.y b.y) FewPoints last act there.1 in
    let near = passed (not (is_in_range a && is_in_range b)) OutOfRange (Ok known) act wide.1 in
    let same : known ≡ act = cc (near.1) in
    in_cell l m cell middle act (agree_on l m known act same agree).1 h

same_poly : (new : ItemId) (cell : CellId) (layer : List ℕ) (points : List Point) (l m : Layout) (act : Act) →
    plan new (Poly cell layer points) l ≡ Ok act → AgreeOnEach l m act.elements → plan new (Poly cell layer points) m ≡ Ok act
unfolding plan
same_poly new cell layer points l m act h agree =
    let there = passed (not (is_cell l cell)) NoCell (ring_act new cell layer (ring_of points)) act h in
    let ring = drawn_by new cell layer (ring_of points) act there.1 in
    in_cell l m cell (ring_act new cell layer (ring_of points)) act
    (agree_on l m (shape_act new cell (shape_of cell layer ring.0)) act ring.2 agree).1 h

-- what a call that is placed has passed, and what it does
pub record HasPlaced (new : ItemId) (cell : CellId) (target : ℕ) (turn : Turn) (l : Layout) (act : Act) : Type 0 where
  pub there : is_cell l cell ≡ true
  pub found : is_cell l (Symbol target) ≡ true
  pub near : is_in_range turn.shift ≡ true
  pub acyclic : is_among cell (reached l (Symbol target)) ≡ false
  pub acts : place_act new cell target turn (reached l (Symbol target)) ≡ act

pub has_placed : (new : ItemId) (cell : CellId) (target : ℕ) (turn : Turn) (l : Layout) (act : Act) →
    plan new (Place cell target turn) l ≡ Ok act → HasPlaced new cell target turn l act
unfolding plan
has_placed new cell target turn l act h =
    let cells = reached l (Symbol target) in
    let known = place_act new cell target turn cells in
    let fourth : Result Act CmdFault = refused_if (is_among cell cells) Cycle (Ok known) in
    let third : Result Act CmdFault = refused_if (not (is_in_range turn.shift)) OutOfRange fourth in
    let second : Result Act CmdFault = refused_if (not (is_cell l (Symbol target))) NoCell third in
    let there = passed (not (is_cell l cell)) NoCell second act h in
    let found = passed (not (is_cell l (Symbol target))) NoCell third act there.1 in
    let near = passed (not (is_in_range turn.shift)) OutOfRange fourth act found.1 in
    let acyclic = passed (is_among cell cells) Cycle (Ok known) act near.1 in
    record {
      there = not-false (is_cell l cell) there.0;
      found = not-false (is_cell l (Symbol target)) found.0;
      near = not-false (is_in_range turn.shift) near.0;
      acyclic = acyclic.0;
      acts = cc (acyclic.1);
    }

same_place : (new : ItemId) (cell : CellId) (target : ℕ) (turn : Turn) (l m : Layout) (act : Act) →
    plan new (Place cell target turn) l ≡ Ok act → AgreeOnEach l m act.elements → plan new (Place cell target turn) m ≡ Ok act
unfolding plan
same_place new cell target turn l m act h agree =
    let cells = reached l (Symbol target) in
    let same = (has_placed new cell target turn l act h).acts in
    let parts = all_parts (Agree l m) (cell_elements cell) (Cell target ∷ map Calls cells)
    (agree_on l m (place_act new cell target turn cells) act same agree).1 in
    let at_cell : is_cell m cell ≡ is_cell l cell = sym (same_is_cell l m cell parts.0) in
    let at_target : is_cell m (Symbol target) ≡ is_cell l (Symbol target) = sym (ap is_some (same_slot l m target parts.1.0)) in
    let at_calls : reached m (Symbol target) ≡ cells = same_reach l m (Symbol target) (all_mapped (Agree l m) Calls cells parts.1.1) in
    (λ i. refused_if (not (at_cell i)) NoCell (refused_if (not (at_target i)) NoCell (refused_if (not (is_in_range turn.shift)) OutOfRange
    (refused_if (is_among cell (at_calls i)) Cycle (Ok (place_act new cell target turn (at_calls i)))))))
    ∙ h

same_make_cell : (new : ItemId) (number : ℕ) (l m : Layout) (act : Act) →
    plan new (MakeCell number) l ≡ Ok act → AgreeOnEach l m act.elements → plan new (MakeCell number) m ≡ Ok act
unfolding plan
same_make_cell new number l m act h agree =
    let known = make_cell_act number in
    let rest : Result Act CmdFault = refused_if (is_some (get l.symbols number)) CellThere (Ok known) in
    let small = passed (nat_lt MAX_SYMBOL number) OutOfRange rest act h in
    let free = passed (is_some (get l.symbols number)) CellThere (Ok known) act small.1 in
    let same : known ≡ act = cc (free.1) in
    let slots = same_slot l m number (agree_on l m known act same agree).0 in
    ap (λ s. refused_if (nat_lt MAX_SYMBOL number) OutOfRange (refused_if (is_some s) CellThere (Ok known))) (sym slots) ∙ h

same_drop_cell : (new : ItemId) (number : ℕ) (l m : Layout) (act : Act) →
    plan new (DropCell number) l ≡ Ok act → AgreeOnEach l m act.elements → plan new (DropCell number) m ≡ Ok act
unfolding plan
same_drop_cell new number l m act h agree =
    let known = drop_cell_act number in
    let rest : Result Act CmdFault = refused_if (is_used l number) CellUsed (Ok known) in
    let there = passed (not (is_some (get l.symbols number))) NoCell rest act h in
    let unused = passed (is_used l number) CellUsed (Ok known) act there.1 in
    let same : known ≡ act = cc (unused.1) in
    let parts = agree_on l m known act same agree in
    let slots : get m.symbols number ≡ get l.symbols number = sym (same_slot l m number parts.0) in
    let uses : is_used m number ≡ is_used l number = sym (used_in l m number parts.1.0 parts.1.1.0) in
    (λ i. refused_if (not (is_some (slots i))) NoCell (refused_if (uses i) CellUsed (Ok known)))
    ∙ h

pub same_plan : (new : ItemId) (command : Command) (l m : Layout) (act : Act) → IsSound l → IsSound m → plan new command l ≡ Ok act →
    AgreeOnEach l m act.elements → plan new command m ≡ Ok act
unfolding plan
same_plan new (Box cell layer a b) l m act _ _ h agree = same_box new cell layer a b l m act h agree
same_plan new (Poly cell layer points) l m act _ _ h agree = same_poly new cell layer points l m act h agree
same_plan new (Delete id) l m act _ _ h agree =
    let item = given (item_at l id) NoItem (λ x. Ok (change_act id None)) act h in
    let same : change_act id None ≡ act = cc (item.2) in
    on_item l m id (λ x. Ok (change_act id None)) act (sym (ap (λ (x : Act). x.elements) same)) h agree
same_plan new (Move id dx dy) l m act _ _ h agree =
    let shift : Point = record { x = dx; y = dy } in
    let item = given (item_at l id) NoItem (λ x. move_to id (moved shift x)) act h in
    let same = (moved_to id (moved shift item.0) act item.2).1 in
    on_item l m id (λ x. move_to id (moved shift x)) act (sym (ap (λ (x : Act). x.elements) same)) h agree
same_plan new (SetLayer id layer) l m act _ _ h agree =
    let item = given (item_at l id) NoItem (relayer id layer) act h in
    let same = (relayered id layer item.0 act item.2).4 in
    on_item l m id (relayer id layer) act (sym (ap (λ (x : Act). x.elements) same)) h agree
same_plan new (Place cell target turn) l m act _ _ h agree = same_place new cell target turn l m act h agree
same_plan new (Look id) l m act _ _ h agree =
    let item = given (item_at l id) NoItem (λ x. Ok (look_act id x)) act h in
    let same : look_act id item.0 ≡ act = cc (item.2) in
    on_item l m id (λ x. Ok (look_act id x)) act (sym (ap (λ (x : Act). x.elements) same)) h agree
same_plan new (Combine op cell a b out) l m act one other h agree = same_bool new op cell a b out l m act one other h agree
same_plan new (MakeCell number) l m act _ _ h agree = same_make_cell new number l m act h agree
same_plan new (DropCell number) l m act _ _ h agree = same_drop_cell new number l m act h agree
