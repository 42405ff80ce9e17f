-- Runs of commands: their steps, what they keep, and what they leave alone.
use Rattle.std.proofs.Common.{◌≡◌, Bool, true, false, ◌||◌, List, [], ◌∷◌, ◌++◌, Option, Some, Result, Ok, Err}
use Rattle.std.proofs.Common.{refl, ap, sym, ◌∙◌, subst}
use Rattle.std.proofs.lemmas.Bool.{or_from, or_left, or_right, true≢false}
use Rattle.std.specs.Cmp.{nat_cmp_total}
use Rattle.std.specs.FinSet.{contains, contains-insert, insert}
use Rattle.std.specs.FinMap.{IsAntisymmetric, nat_cmp-IsAntisymmetric}
use Rattle.std.specs.declared.cmp.Ordering.{Ordering}
use Rattle.std.specs.List.{AllByRecursion}
use Rattle.std.specs.Ordering.{eq_by_cmp, nat_cmp}
use Rattle.lay_point.proofs.ListLaws.{all_weaker}
use Rattle.lay_layouts.specs.IdOrder.{ids_exact, ids_total}
use Rattle.lay_layouts.specs.Ids.{id_cmp}
use Rattle.txn_commands.specs.declared.command.Command.{Command}
use Rattle.txn_commands.specs.declared.command.Done.{Done}
use Rattle.txn_commands.specs.declared.command.TxnId.{TxnId}
use Rattle.txn_commands.specs.declared.element.Element.{Element}
use Rattle.txn_commands.specs.declared.element.Element.TheVariants.{Cell, Item}
use Rattle.txn_commands.specs.declared.fault.CmdFault.{CmdFault}
use Rattle.txn_commands.specs.declared.fault.CmdFault.TheVariants.{TxnFull}
use Rattle.txn_commands.specs.Acts.{Act}
use Rattle.txn_commands.specs.Covers.{IsCovered, LeavesAlone, has}
use Rattle.txn_commands.specs.Effects.{Run, acted, after_each, effect, if_accepted, is_too_much, next_id, perform}
use Rattle.txn_commands.specs.Elements.{Touched, element_cmp, elements_total, with_elements}
use Rattle.txn_commands.specs.Plans.{plan}
use Rattle.txn_commands.proofs.Maps.{get-unwritten, other_key, writes_key}
use Rattle.txn_rules.proofs.Planned.{covered, planned}
use Rattle.txn_rules.proofs.SamePlans.{passed}

-- what a set with some more elements has
pub contains-with : (touched : Touched) (es : List Element) (e : Element) →
    contains (with_elements touched es) e ≡ (has e es || contains touched e)
contains-with touched [] e = refl
contains-with touched (x ∷ es) e =
    contains-with (insert touched x) es e
    ∙ ap (λ b. has e es || b) (contains-insert elements_total touched x e)
    ∙ swapped (has e es) (eq_by_cmp element_cmp e x) (contains touched e) where
      swapped : (a b c : Bool) → (a || (b || c)) ≡ ((b || a) || c)
      swapped true true c = refl
      swapped true false c = refl
      swapped false true c = refl
      swapped false false c = refl

kept_with : (touched : Touched) (es : List Element) (e : Element) → contains touched e ≡ true →
    contains (with_elements touched es) e ≡ true
kept_with touched es e there = contains-with touched es e ∙ or_right (has e es) (contains touched e) there

there_with : (touched : Touched) (es : List Element) (e : Element) → has e es ≡ true → contains (with_elements touched es) e ≡ true
there_with touched es e here = contains-with touched es e ∙ or_left (has e es) (contains touched e) here

-- an accepted command is an act of its plan
pub record IsAct (t : TxnId) (c : Command) (r : Run) (next : Done × Run) : Type 0 where
  pub act : Act
  pub plan_is : plan (next_id t r) c r.layout ≡ Ok act
  pub room : is_too_much r act ≡ false
  pub next_is : (act.done, perform r act) ≡ next

acts_so : (r : Run) (result : Result Act CmdFault) (next : Done × Run) → acted r result ≡ Ok next →
    (act : Act) × (result ≡ Ok act) × (is_too_much r act ≡ false) × ((act.done, perform r act) ≡ next)
acts_so r (Err fault) next h = absurd cc
acts_so r (Ok act) next h =
    let room = passed (is_too_much r act) TxnFull (Ok (act.done, perform r act)) next h in
    let same : (act.done, perform r act) ≡ next = cc (room.1) in
    (act, refl, room.0, same)

pub act_of : (t : TxnId) (c : Command) (r : Run) (next : Done × Run) → effect t c r ≡ Ok next → IsAct t c r next
unfolding effect
act_of t c r next h =
    let parts = acts_so r (plan (next_id t r) c r.layout) next h in
    record { act = parts.0; plan_is = parts.1; room = parts.2; next_is = parts.3 }

-- going on from an accepted command
pub goes_on : (answer : Result (Done × Run) CmdFault) (more : Run → Option Run) (end : Run) → if_accepted answer more ≡ Some end →
    (next : Done × Run) × (answer ≡ Ok next) × (more next.1 ≡ Some end)
goes_on (Ok next) more end h = (next, refl, h)
goes_on (Err fault) more end h = absurd cc

-- what each accepted command keeps, a run keeps
pub run_keeps : (P : Run → Type 0) (t : TxnId) → ((c : Command) (r : Run) (next : Done × Run) → IsAct t c r next → P r → P next.1) →
    (cs : List Command) (start end : Run) → after_each t cs start ≡ Some end → P start → P end
run_keeps P t each [] start end h p = let same : start ≡ end = cc in subst P same p
run_keeps P t each (c ∷ cs) start end h p =
    let step = goes_on (effect t c start) (λ next. after_each t cs next) end h in
    run_keeps P t each cs step.0.1 end step.2 (each c start step.0 (act_of t c start step.0 step.1) p)

-- what an act touches is in the footprint behind it
pub touched_by : (t : TxnId) (c : Command) (r : Run) (next : Done × Run) (is : IsAct t c r next) (e : Element) →
    has e is.act.elements ≡ true →
    contains next.1.footprint e ≡ true
touched_by t c r next is e here =
    subst (λ (p : Done × Run). contains p.1.footprint e ≡ true) is.next_is (there_with r.footprint is.act.elements e here)

-- what a run touched stays touched
pub grows : (t : TxnId) (cs : List Command) (start end : Run) → after_each t cs start ≡ Some end → (e : Element) →
    contains start.footprint e ≡ true → contains end.footprint e ≡ true
grows t cs start end h e there = run_keeps (λ (r : Run). contains r.footprint e ≡ true) t (λ c r next is old.
    subst (λ (p : Done × Run). contains p.1.footprint e ≡ true) is.next_is (kept_with r.footprint is.act.elements e old))
    cs start end h there

-- one more command at the end
pub after_each-push : (t : TxnId) (cs : List Command) (c : Command) (start r : Run) (next : Done × Run) → after_each t cs start ≡ Some r →
    effect t c r ≡ Ok next → after_each t (cs ++ c ∷ []) start ≡ Some next.1
after_each-push t [] c start r next h e =
    let same : start ≡ r = cc in
    rw same (rw e refl)
after_each-push t (d ∷ cs) c start r next h e =
    let first = goes_on (effect t d start) (λ run. after_each t cs run) r h in
    rw first.1 (after_each-push t cs c first.0.1 r next first.2 e)

-- a key that isn't touched isn't written
unwritten : {K V : Type 0} (R : K → K → Ordering) (exact : IsAntisymmetric R) (element : K → Element) (touched : Touched) (q : K) →
    contains touched (element q) ≡ false → (ws : List (K × Option V)) → AllByRecursion (λ w. contains touched (element w.0) ≡ true) ws →
    writes_key R q ws ≡ false
unwritten R exact element touched q out [] all = refl
unwritten R exact element touched q out (w ∷ ws) all =
    or_from (eq_by_cmp R q w.0) (writes_key R q ws)
    (other_key exact q w.0 (λ e. true≢false (sym all.0 ∙ sym (ap (λ k. contains touched (element k)) e) ∙ out)))
    (unwritten R exact element touched q out ws all.1)

-- an act leaves alone what isn't touched, where all that it touches is
act_alone : (r : Run) (act : Act) (touched : Touched) → IsCovered act →
    ((e : Element) → has e act.elements ≡ true → contains touched e ≡ true) →
    LeavesAlone r.layout (perform r act).layout touched
act_alone r act touched cover within = record {
  items = λ q out. get-unwritten ids_total r.layout.items act.items q (unwritten id_cmp ids_exact Item touched q out act.items
      (all_weaker (λ w. has (Item w.0) act.elements ≡ true) (λ w. contains touched (Item w.0) ≡ true) (λ w here. within (Item w.0) here)
      act.items cover.items));
  symbols = λ n out. get-unwritten nat_cmp_total r.layout.symbols act.symbols n
      (unwritten nat_cmp nat_cmp-IsAntisymmetric Cell touched n out
      act.symbols (all_weaker (λ w. has (Cell w.0) act.elements ≡ true) (λ w. contains touched (Cell w.0) ≡ true)
      (λ w here. within (Cell w.0) here) act.symbols cover.symbols));
}

pub local : (t : TxnId) (cs : List Command) (start end : Run) → after_each t cs start ≡ Some end →
    LeavesAlone start.layout end.layout end.footprint
local t [] start end h = let same : start ≡ end = cc in subst (λ (r : Run). LeavesAlone start.layout r.layout r.footprint) same
    (record { items = λ q out. refl; symbols = λ n out. refl })
local t (c ∷ cs) start end h =
    let step = goes_on (effect t c start) (λ next. after_each t cs next) end h in
    let is = act_of t c start step.0 step.1 in
    let rest = local t cs step.0.1 end step.2 in
    let cover = covered (next_id t start) start.layout is.act (planned (next_id t start) c start.layout is.act is.plan_is) in
    let first : LeavesAlone start.layout step.0.1.layout end.footprint =
    subst (λ (p : Done × Run). LeavesAlone start.layout p.1.layout end.footprint) is.next_is (act_alone start is.act end.footprint cover
    (λ e here. grows t cs step.0.1 end step.2 e (touched_by t c start step.0 is e here))) in
    record {
      items = λ q out. rest.items q out ∙ first.items q out;
      symbols = λ n out. rest.symbols n out ∙ first.symbols n out;
    }
