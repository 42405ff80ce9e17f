-- Elements of acts by the kinds of commands, and the test of agreement.
use Rattle.std.proofs.Common.{◌≡◌, ◌⊎◌, inl, inr, ℕ, Bool, true, false, not, ◌||◌, ◌&&◌, List, [], ◌∷◌, ◌++◌, map, None, Some}
use Rattle.std.proofs.Common.{Result, Ok, nat_lt, is_some, refl, sym, ap, subst, ◌∙◌}
use Rattle.std.proofs.lemmas.Bool.{false≢true, or_cases, or_left, or_right}
use Rattle.std.proofs.lemmas.Bool.Decides.{Decides-and, Decides-like}
use Rattle.std.proofs.lemmas.Slice.Eq.{slice_eq-Decides}
use Rattle.std.specs.Bool.{Decides}
use Rattle.std.specs.Cmp.{eq_by_cmp_equiv}
use Rattle.std.specs.FinMap.{entries, get}
use Rattle.std.specs.FinSet.{contains, contains-empty, contains-items, items}
use Rattle.std.specs.List.{list_all}
use Rattle.std.specs.Ordering.{eq_by_cmp, int_eq}
use Rattle.std.specs.Prelude.{flat_map}
use Rattle.lay_point.specs.declared.point.Point.{Point}
use Rattle.lay_point.specs.declared.turn.Turn.{Turn}
use Rattle.lay_point.specs.Points.{is_in_range}
use Rattle.lay_point.specs.Rings.{ring_of}
use Rattle.lay_point.proofs.Members.{Has, contains as contains_has}
use Rattle.lay_cells.specs.declared.cell_id.CellId.{CellId}
use Rattle.lay_cells.specs.declared.cell_id.CellId.TheVariants.{Symbol, Top}
use Rattle.lay_cells.specs.declared.cells.TheConstants.{MAX_SYMBOL}
use Rattle.lay_cells.specs.SameCell.{cell_eq}
use Rattle.lay_layouts.specs.declared.id.ItemId.{ItemId}
use Rattle.lay_layouts.specs.declared.item.Item as items_of
use Rattle.lay_layouts.specs.declared.item.Item.TheVariants.{Shape}
use Rattle.lay_layouts.specs.Calls.{calls_of}
use Rattle.lay_layouts.specs.IdOrder.{ids_exact, ids_total}
use Rattle.lay_layouts.specs.Layout.{Layout, Write, is_cell, item_at}
use Rattle.lay_layouts.specs.Same.{item_eq-Decides, option_item_eq-Decides}
use Rattle.lay_layouts.specs.SameLayout.{id_eq-Decides}
use Rattle.txn_commands.specs.declared.command.Command.{Command}
use Rattle.txn_commands.specs.declared.command.Command.TheVariants.{Bool as Combine, Box, Delete, DropCell, Look, MakeCell, Move, Place}
use Rattle.txn_commands.specs.declared.command.Command.TheVariants.{Poly}
use Rattle.txn_commands.specs.declared.command.Command.TheVariants.{SetLayer}
use Rattle.txn_commands.specs.declared.command.Done.{Done}
use Rattle.txn_commands.specs.declared.command.TxnId.{TxnId}
use Rattle.txn_commands.specs.declared.element.Element.{Element}
use Rattle.txn_commands.specs.declared.element.Element.TheVariants.{Calls, Cell, Content, Item, Layer, Uses}
use Rattle.txn_commands.specs.declared.fault.CmdFault.{CmdFault}
use Rattle.txn_commands.specs.declared.fault.CmdFault.TheVariants.{CellThere, CellUsed, FewPoints, NoCell, NoItem, OutOfRange}
use Rattle.bool_rules.specs.Booleans.{bool_shapes}
use Rattle.txn_commands.specs.Acts.{Act, bool_act, cell_elements, change_act, drop_cell_act, item_elements, look_act, make_cell_act}
use Rattle.txn_commands.specs.Acts.{operands, place_act, shape_act}
use Rattle.txn_commands.specs.Agreement.{Agree, AgreeOn}
use Rattle.txn_commands.specs.Compared.{agrees, entry_eq, lying, same_in, same_lying}
use Rattle.txn_commands.specs.Covers.{has}
use Rattle.txn_commands.specs.Effects.{Run, after_each, begun, effect, next_id, perform}
use Rattle.txn_commands.specs.Elements.{Touched, element_cmp, elements_exact, elements_total}
use Rattle.txn_commands.specs.Figures.{box_ring, moved, shape_of}
use Rattle.txn_commands.specs.Lies.{lies}
use Rattle.txn_commands.specs.Plans.{combination_in, is_used, move_to, plan, refused_if, relayer, ring_act}
use Rattle.txn_commands.specs.Reach.{is_among, reached}
use Rattle.txn_commands.proofs.Agreements.{same_item, same_slot}
use Rattle.txn_rules.proofs.Booleans.{replaced_by}
use Rattle.txn_commands.proofs.Lying.{filter-alike_maps}
use Rattle.txn_commands.proofs.Maps.{same_key}
use Rattle.txn_rules.proofs.Reach.{cell_eq-refl, reached-walks}
use Rattle.txn_rules.proofs.Runs.{IsAct, act_of, contains-with, goes_on}
use Rattle.txn_rules.proofs.SamePlans.{drawn_by, given, has_placed, moved_to, passed, relayered}
use Rattle.txn_commands.proofs.Steps.{option_slot_eq-Decides}
use Rattle.undo_laws.specs.Owed.{FootprintsAreOwed, IsOfCell, IsOfNew, IsOperand, IsOwed, IsOwedByOne, IsReached, IsWritten}

-- ---- lists of elements

has_either : (e x : Element) (xs : List Element) → has e (x ∷ xs) ≡ true → (e ≡ x) ⊎ (has e xs ≡ true)
has_either e x xs h = by (eq_by_cmp element_cmp e x) refl h where
  by : (b : Bool) → eq_by_cmp element_cmp e x ≡ b → (b || has e xs) ≡ true → (e ≡ x) ⊎ (has e xs ≡ true)
  by true is h = inl (same_key elements_exact e x is)
  by false is h = inr h

has_one : (e x : Element) → has e (x ∷ []) ≡ true → e ≡ x
has_one e x h = by (has_either e x [] h) where
  by : (e ≡ x) ⊎ (has e [] ≡ true) → e ≡ x
  by (inl same) = same
  by (inr none) = absurd cc

has_joined : (e : Element) (xs ys : List Element) → has e (xs ++ ys) ≡ true → (has e xs ≡ true) ⊎ (has e ys ≡ true)
has_joined e [] ys h = inr h
has_joined e (x ∷ xs) ys h = by (eq_by_cmp element_cmp e x) h (has_joined e xs ys) where
  by : (b : Bool) → (b || has e (xs ++ ys)) ≡ true → (has e (xs ++ ys) ≡ true → (has e xs ≡ true) ⊎ (has e ys ≡ true))
      → ((b || has e xs) ≡ true) ⊎ (has e ys ≡ true)
  by true h more = inl refl
  by false h more = more h

has_cell : (e : Element) (cell : CellId) → has e (cell_elements cell) ≡ true → IsOfCell cell e
has_cell e Top h = absurd cc
has_cell e (Symbol number) h = has_one e (Cell number) h

-- ---- cells

record IsFrom (cells : List CellId) (P : CellId → Type 0) : Type 0 where
  cell : CellId
  among : is_among cell cells ≡ true
  is : P cell

from_more : (P : CellId → Type 0) (c : CellId) (cells : List CellId) → IsFrom cells P → IsFrom (c ∷ cells) P
from_more P c cells f =
    record { cell = f.cell; among = or_right (cell_eq f.cell c) (is_among f.cell cells) f.among; is = f.is }

from_first : (P : CellId → Type 0) (c : CellId) (cells : List CellId) → P c → IsFrom (c ∷ cells) P
from_first P c cells p = record { cell = c; among = or_left (cell_eq c c) (is_among c cells) (cell_eq-refl c); is = p }

has_calls : (e : Element) (cells : List CellId) → has e (map Calls cells) ≡ true → IsFrom cells (λ c. e ≡ Calls c)
has_calls e [] h = absurd cc
has_calls e (c ∷ cells) h = by (has_either e (Calls c) (map Calls cells) h) (has_calls e cells) where
  by : (e ≡ Calls c) ⊎ (has e (map Calls cells) ≡ true) → (has e (map Calls cells) ≡ true → IsFrom cells (λ c. e ≡ Calls c))
      → IsFrom (c ∷ cells) (λ c. e ≡ Calls c)
  by (inl same) more = from_first (λ c. e ≡ Calls c) c cells same
  by (inr there) more = from_more (λ c. e ≡ Calls c) c cells (more there)

has_operand : (e : Element) (a b : List ℕ) (c : CellId) → has e (operands a b c) ≡ true → IsOperand a b c e
has_operand e a b c h = by (has_either e (Calls c) (Layer c a ∷ Layer c b ∷ []) h) where
  last : (e ≡ Layer c a) ⊎ (has e (Layer c b ∷ []) ≡ true) → IsOperand a b c e
  last (inl same) = inr (inl same)
  last (inr there) = inr (inr (has_one e (Layer c b) there))

  by : (e ≡ Calls c) ⊎ (has e (Layer c a ∷ Layer c b ∷ []) ≡ true) → IsOperand a b c e
  by (inl same) = inl same
  by (inr there) = last (has_either e (Layer c a) (Layer c b ∷ []) there)

has_operands : (e : Element) (a b : List ℕ) (cells : List CellId) → has e (flat_map (operands a b) cells) ≡ true
    → IsFrom cells (λ c. IsOperand a b c e)
has_operands e a b [] h = absurd cc
has_operands e a b (c ∷ cells) h =
    by (has_joined e (operands a b c) (flat_map (operands a b) cells) h) (has_operands e a b cells) where
      by : (has e (operands a b c) ≡ true) ⊎ (has e (flat_map (operands a b) cells) ≡ true)
          → (has e (flat_map (operands a b) cells) ≡ true → IsFrom cells (λ c. IsOperand a b c e))
          → IsFrom (c ∷ cells) (λ c. IsOperand a b c e)
      by (inl here) more = from_first (λ c. IsOperand a b c e) c cells (has_operand e a b c here)
      by (inr there) more = from_more (λ c. IsOperand a b c e) c cells (more there)

walk_to : (l : Layout) (from : CellId) (P : CellId → Type 0) → IsFrom (reached l from) P → (c : CellId) × IsReached l from c × P c
walk_to l from P f = (f.cell, (reached-walks (calls_of l) from f.cell).0 f.among, f.is)

has_written : (e : Element) (ws : List Write) → has e (item_elements ws) ≡ true → (w : Write) × Has ws w × (e ≡ Item w.0)
has_written e [] h = absurd cc
has_written e (w ∷ ws) h = by (has_either e (Item w.0) (item_elements ws) h) (has_written e ws) where
  by : (e ≡ Item w.0) ⊎ (has e (item_elements ws) ≡ true)
      → (has e (item_elements ws) ≡ true → (v : Write) × Has ws v × (e ≡ Item v.0)) → (v : Write) × Has (w ∷ ws) v × (e ≡ Item v.0)
  by (inl same) more = (w, inl refl, same)
  by (inr there) more = let r = more there in (r.0, inr r.1, r.2)

-- ---- acts

of_new : (e : Element) (new : ItemId) (cell : CellId) → has e (Item new ∷ cell_elements cell) ≡ true → IsOfNew new cell e
of_new e new cell h = by (has_either e (Item new) (cell_elements cell) h) where
  by : (e ≡ Item new) ⊎ (has e (cell_elements cell) ≡ true) → IsOfNew new cell e
  by (inl same) = inl same
  by (inr there) = inr (has_cell e cell there)

-- what an act has, the act that it is has
as_known : (e : Element) (known act : Act) → known ≡ act → has e act.elements ≡ true → has e known.elements ≡ true
as_known e known act same h = subst (λ (x : Act). has e x.elements ≡ true) (sym same) h

owed_box : (new : ItemId) (cell : CellId) (layer : List ℕ) (a b : Point) (l : Layout) (act : Act) (e : Element)
    → plan new (Box cell layer a b) l ≡ Ok act → has e act.elements ≡ true → IsOfNew new cell e
unfolding plan
owed_box new cell layer a b l act e h there =
    let known = shape_act new cell (shape_of cell layer (box_ring a b)) in
    let last : Result Act CmdFault = refused_if (not (is_in_range a && is_in_range b)) OutOfRange (Ok known) in
    let middle : Result Act CmdFault = refused_if (int_eq a.x b.x || int_eq a.y b.y) FewPoints last in
    let first = passed (not (is_cell l cell)) NoCell middle act h in
    let wide = passed (int_eq a.x b.x || int_eq a.y b.y) FewPoints last act first.1 in
    let near = passed (not (is_in_range a && is_in_range b)) OutOfRange (Ok known) act wide.1 in
    of_new e new cell (as_known e known act (cc (near.1)) there)

owed_poly : (new : ItemId) (cell : CellId) (layer : List ℕ) (points : List Point) (l : Layout) (act : Act) (e : Element)
    → plan new (Poly cell layer points) l ≡ Ok act → has e act.elements ≡ true → IsOfNew new cell e
unfolding plan
owed_poly new cell layer points l act e h there =
    let first = passed (not (is_cell l cell)) NoCell (ring_act new cell layer (ring_of points)) act h in
    let ring = drawn_by new cell layer (ring_of points) act first.1 in
    of_new e new cell (as_known e (shape_act new cell (shape_of cell layer ring.0)) act ring.2 there)

of_place : (e : Element) (new : ItemId) (cell : CellId) (target : ℕ) (l : Layout)
    → has e (Item new ∷ cell_elements cell ++ Cell target ∷ map Calls (reached l (Symbol target))) ≡ true
    → IsOfNew new cell e ⊎ (e ≡ Cell target) ⊎ ((c : CellId) × IsReached l (Symbol target) c × (e ≡ Calls c))
of_place e new cell target l h =
    by (has_either e (Item new) (cell_elements cell ++ Cell target ∷ map Calls (reached l (Symbol target))) h) where
      last : (e ≡ Cell target) ⊎ (has e (map Calls (reached l (Symbol target))) ≡ true)
          → IsOfNew new cell e ⊎ (e ≡ Cell target) ⊎ ((c : CellId) × IsReached l (Symbol target) c × (e ≡ Calls c))
      last (inl same) = inr (inl same)
      last (inr there) =
          inr (inr (walk_to l (Symbol target) (λ c. e ≡ Calls c) (has_calls e (reached l (Symbol target)) there)))

      next : (has e (cell_elements cell) ≡ true) ⊎ (has e (Cell target ∷ map Calls (reached l (Symbol target))) ≡ true)
          → IsOfNew new cell e ⊎ (e ≡ Cell target) ⊎ ((c : CellId) × IsReached l (Symbol target) c × (e ≡ Calls c))
      next (inl here) = inl (inr (has_cell e cell here))
      next (inr there) = last (has_either e (Cell target) (map Calls (reached l (Symbol target))) there)

      by : (e ≡ Item new) ⊎ (has e (cell_elements cell ++ Cell target ∷ map Calls (reached l (Symbol target))) ≡ true)
          → IsOfNew new cell e ⊎ (e ≡ Cell target) ⊎ ((c : CellId) × IsReached l (Symbol target) c × (e ≡ Calls c))
      by (inl same) = inl (inl same)
      by (inr there) = next (has_joined e (cell_elements cell) (Cell target ∷ map Calls (reached l (Symbol target))) there)

owed_place : (new : ItemId) (cell : CellId) (target : ℕ) (turn : Turn) (l : Layout) (act : Act) (e : Element)
    → plan new (Place cell target turn) l ≡ Ok act → has e act.elements ≡ true → IsOwed new (Place cell target turn) l act e
owed_place new cell target turn l act e h there =
    of_place e new cell target l
    (as_known e (place_act new cell target turn (reached l (Symbol target))) act (has_placed new cell target turn l act h).acts there)

of_bool : (e : Element) (cell : CellId) (a b out : List ℕ) (l : Layout) (act : Act)
    → has e (item_elements act.items ++ (cell_elements cell ++ Layer cell out ∷ flat_map (operands a b) (reached l cell))) ≡ true
    → IsWritten act e ⊎ IsOfCell cell e ⊎ (e ≡ Layer cell out) ⊎ ((c : CellId) × IsReached l cell c × IsOperand a b c e)
of_bool e cell a b out l act h =
    by (has_joined e (item_elements act.items) (cell_elements cell ++ Layer cell out ∷ flat_map (operands a b) (reached l cell)) h) where
      last : (e ≡ Layer cell out) ⊎ (has e (flat_map (operands a b) (reached l cell)) ≡ true)
          → IsWritten act e ⊎ IsOfCell cell e ⊎ (e ≡ Layer cell out) ⊎ ((c : CellId) × IsReached l cell c × IsOperand a b c e)
      last (inl same) = inr (inr (inl same))
      last (inr there) =
          inr (inr (inr (walk_to l cell (λ c. IsOperand a b c e) (has_operands e a b (reached l cell) there))))

      next : (has e (cell_elements cell) ≡ true) ⊎ (has e (Layer cell out ∷ flat_map (operands a b) (reached l cell)) ≡ true)
          → IsWritten act e ⊎ IsOfCell cell e ⊎ (e ≡ Layer cell out) ⊎ ((c : CellId) × IsReached l cell c × IsOperand a b c e)
      next (inl here) = inr (inl (has_cell e cell here))
      next (inr there) = last (has_either e (Layer cell out) (flat_map (operands a b) (reached l cell)) there)

      by : (has e (item_elements act.items) ≡ true)
          ⊎ (has e (cell_elements cell ++ Layer cell out ∷ flat_map (operands a b) (reached l cell)) ≡ true)
          → IsWritten act e ⊎ IsOfCell cell e ⊎ (e ≡ Layer cell out) ⊎ ((c : CellId) × IsReached l cell c × IsOperand a b c e)
      by (inl here) = let w = has_written e act.items here in inl (w.0, contains_has act.items w.0 w.1, w.2)
      by (inr there) = next (has_joined e (cell_elements cell) (Layer cell out ∷ flat_map (operands a b) (reached l cell)) there)

of_drop : (e : Element) (number : ℕ) → has e (Cell number ∷ Content number ∷ Uses number ∷ []) ≡ true
    → (e ≡ Cell number) ⊎ (e ≡ Content number) ⊎ (e ≡ Uses number)
of_drop e number h = by (has_either e (Cell number) (Content number ∷ Uses number ∷ []) h) where
  last : (e ≡ Content number) ⊎ (has e (Uses number ∷ []) ≡ true) → (e ≡ Cell number) ⊎ (e ≡ Content number) ⊎ (e ≡ Uses number)
  last (inl same) = inr (inl same)
  last (inr there) = inr (inr (has_one e (Uses number) there))

  by : (e ≡ Cell number) ⊎ (has e (Content number ∷ Uses number ∷ []) ≡ true)
      → (e ≡ Cell number) ⊎ (e ≡ Content number) ⊎ (e ≡ Uses number)
  by (inl same) = inl same
  by (inr there) = last (has_either e (Content number) (Uses number ∷ []) there)

owed : (new : ItemId) (command : Command) (l : Layout) (act : Act) (e : Element) → plan new command l ≡ Ok act
    → has e act.elements ≡ true → IsOwed new command l act e
unfolding plan
owed new (Box cell layer a b) l act e h there = owed_box new cell layer a b l act e h there
owed new (Poly cell layer points) l act e h there = owed_poly new cell layer points l act e h there
owed new (Delete id) l act e h there =
    let item = given (item_at l id) NoItem (λ x. Ok (change_act id None)) act h in
    has_one e (Item id) (as_known e (change_act id None) act (cc (item.2)) there)
owed new (Move id dx dy) l act e h there =
    let shift : Point = record { x = dx; y = dy } in
    let item = given (item_at l id) NoItem (λ x. move_to id (moved shift x)) act h in
    let near = moved_to id (moved shift item.0) act item.2 in
    has_one e (Item id) (as_known e (change_act id (Some (moved shift item.0))) act near.1 there)
owed new (SetLayer id layer) l act e h there =
    let item = given (item_at l id) NoItem (relayer id layer) act h in
    let shape = relayered id layer item.0 act item.2 in
    has_one e (Item id) (as_known e (change_act id (Some (Shape shape.0 layer shape.2))) act shape.4 there)
owed new (Place cell target turn) l act e h there = owed_place new cell target turn l act e h there
owed new (Look id) l act e h there =
    let item = given (item_at l id) NoItem (λ x. Ok (look_act id x)) act h in
    has_one e (Item id) (as_known e (look_act id item.0) act (cc (item.2)) there)
owed new (Combine op cell a b out) l act e h there =
    let is = replaced_by new (combination_in l cell a b out) (bool_shapes l op cell a b) act h in
    let known = bool_act new (combination_in l cell a b out) is.0 in
    subst (λ (x : Act). IsOwed new (Combine op cell a b out) l x e) is.2
    (of_bool e cell a b out l known (as_known e known act is.2 there))
owed new (MakeCell number) l act e h there =
    let rest : Result Act CmdFault = refused_if (is_some (get l.symbols number)) CellThere (Ok (make_cell_act number)) in
    let small = passed (nat_lt MAX_SYMBOL number) OutOfRange rest act h in
    let free = passed (is_some (get l.symbols number)) CellThere (Ok (make_cell_act number)) act small.1 in
    has_one e (Cell number) (as_known e (make_cell_act number) act (cc (free.1)) there)
owed new (DropCell number) l act e h there =
    let rest : Result Act CmdFault = refused_if (is_used l number) CellUsed (Ok (drop_cell_act number)) in
    let first = passed (not (is_some (get l.symbols number))) NoCell rest act h in
    let unused = passed (is_used l number) CellUsed (Ok (drop_cell_act number)) act first.1 in
    of_drop e number (as_known e (drop_cell_act number) act (cc (unused.1)) there)

-- ---- runs

owed_from : (txn : TxnId) (commands : List Command) (start end : Run) (e : Element) → after_each txn commands start ≡ Some end
    → contains end.footprint e ≡ true → (contains start.footprint e ≡ true) ⊎ IsOwedByOne txn commands start e
owed_from txn [] start end e h there =
    let same : start ≡ end = cc in inl (subst (λ (r : Run). contains r.footprint e ≡ true) (sym same) there)
owed_from txn (c ∷ cs) start end e h there =
    let step = goes_on (effect txn c start) (λ next. after_each txn cs next) end h in
    let is = act_of txn c start step.0 step.1 in
    by step.0 step.1 is (owed_from txn cs step.0.1 end e step.2 there) where
      first : (next : Done × Run) → effect txn c start ≡ Ok next → (is : IsAct txn c start next)
          → (has e is.act.elements ≡ true) ⊎ (contains start.footprint e ≡ true)
          → (contains start.footprint e ≡ true) ⊎ IsOwedByOne txn (c ∷ cs) start e
      first next accepted is (inr before) = inl before
      first next accepted is (inl here) = inr (record {
        before = [];
        command = c;
        rest = cs;
        parts = refl;
        run = start;
        runs = refl;
        act = is.act;
        planned = is.plan_is;
        owed = owed (next_id txn start) c start.layout is.act e is.plan_is here;
      })

      by : (next : Done × Run) → effect txn c start ≡ Ok next → IsAct txn c start next
          → (contains next.1.footprint e ≡ true) ⊎ IsOwedByOne txn cs next.1 e
          → (contains start.footprint e ≡ true) ⊎ IsOwedByOne txn (c ∷ cs) start e
      by next accepted is (inl touched) =
          let performed : contains (perform start is.act).footprint e ≡ true =
          subst (λ (p : Done × Run). contains p.1.footprint e ≡ true) (sym is.next_is) touched in
          first next accepted is (or_cases (has e is.act.elements) (contains start.footprint e)
          (sym (contains-with start.footprint is.act.elements e) ∙ performed))
      by next accepted is (inr one) = inr (record {
        before = c ∷ one.before;
        command = one.command;
        rest = one.rest;
        parts = ap (λ ds. c ∷ ds) one.parts;
        run = one.run;
        runs = rw accepted one.runs;
        act = one.act;
        planned = one.planned;
        owed = one.owed;
      })

owed_run : (txn : TxnId) (commands : List Command) (l : Layout) (end : Run) (e : Element) → after_each txn commands (begun l) ≡ Some end
    → contains end.footprint e ≡ true → IsOwedByOne txn commands (begun l) e
owed_run txn commands l end e h there = by (owed_from txn commands (begun l) end e h there) where
  by : (contains (begun l).footprint e ≡ true) ⊎ IsOwedByOne txn commands (begun l) e → IsOwedByOne txn commands (begun l) e
  by (inl some) = absurd (false≢true (sym (contains-empty element_cmp e) ∙ some))
  by (inr one) = one

-- ---- agreement

entry_eq-Decides : (a b : ItemId × items_of.Item) → Decides (entry_eq a b) (a ≡ b)
entry_eq-Decides a b = Decides-like (entry_eq a b) (λ both. λ i. (both.0 i, both.1 i))
    (λ e. (ap (λ (p : ItemId × items_of.Item). p.0) e, ap (λ (p : ItemId × items_of.Item). p.1) e))
    (Decides-and _ _ (id_eq-Decides a.0 b.0) (item_eq-Decides a.1 b.1))

lying_same : (e : Element) (l m : Layout) → Agree l m e → same_lying e l m ≡ true
lying_same e l m agree =
    (slice_eq-Decides entry_eq-Decides (lying e (entries l.items)) (lying e (entries m.items)) (same_lying e l m) refl).1
    (filter-alike_maps ids_total ids_exact (lies e) l.items m.items agree.items)

agree_same : (l m : Layout) (e : Element) → Agree l m e → same_in l m e ≡ true
agree_same l m (Item id) agree = (option_item_eq-Decides (item_at l id) (item_at m id)).1 (same_item l m id agree)
agree_same l m (Layer c x) agree = lying_same (Layer c x) l m agree
agree_same l m (Calls c) agree = lying_same (Calls c) l m agree
agree_same l m (Cell n) agree = (option_slot_eq-Decides (get l.symbols n) (get m.symbols n)).1 (same_slot l m n agree)
agree_same l m (Content n) agree = lying_same (Content n) l m agree
agree_same l m (Uses n) agree = lying_same (Uses n) l m agree

all_same : (l m : Layout) (es : List Element) → ((e : Element) → has e es ≡ true → Agree l m e) → list_all (same_in l m) es ≡ true
all_same l m [] agree = refl
all_same l m (x ∷ es) agree =
    ap (λ b. b && list_all (same_in l m) es)
    (agree_same l m x (agree x (or_left (eq_by_cmp element_cmp x x) (has x es) ((eq_by_cmp_equiv elements_total).refl x))))
    ∙ all_same l m es (λ e h. agree e (or_right (eq_by_cmp element_cmp e x) (has e es) h))

pub agree_found : (l m : Layout) (touched : Touched) → AgreeOn l m touched → agrees l m touched ≡ true
unfolding agrees
agree_found l m touched agree = all_same l m (items touched) (λ e h. agree e (contains-items touched e ∙ h))

pub owed_law : FootprintsAreOwed
owed_law = record { commands = owed; runs = owed_run; agreement = agree_found }
