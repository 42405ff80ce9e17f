use Rattle.std.proofs.Common.{◌≡◌, ◌∙◌, ◌++◌, true, false, is_none, List, Some, Ok, Err, inr, ap, rules, subst, sym}
use Rattle.std.specs.List.{list_any}
use Rattle.lay_point.specs.declared.turn.Turn.{Turn}
use Rattle.lay_point.specs.Memory.{IsAnswer}
use Rattle.lay_layouts.specs.Layout.{Layout, is_cell}
use Rattle.lay_flat.specs.declared.ends.End.{End}
use Rattle.lay_flat.specs.declared.fault.FlatFault.TheVariants.{NoMemory}
use Rattle.lay_flat.specs.Ends.{ends_within}
use Rattle.lay_flat.specs.Flattening.{tested}
use Rattle.lay_flat.specs.Walked.{Start, walked}
use Rattle.lay_flat.proofs.Answered.{not_walked, passed_from, walks_pass, walks_refused}
use Rattle.lay_flat.proofs.LayoutWalks.{all_walks, ends_are}
use Rattle.lay_flat.proofs.Tested.{shallow}
use Rattle.lay_flat.proofs.walks.Walks.from.Goals as goal

pub returns-then-not-is_cell-clause-walks : goal.returns-then-not-is_cell-clause-walks
returns-then-not-is_cell-clause-walks c = all_walks c.args.snapshot.now c.version.ensures.sound.acyclic c.args.cell

pub returns-in_err-test_walks-clause-walks : goal.returns-in_err-test_walks-clause-walks
returns-in_err-test_walks-clause-walks c = all_walks c.args.snapshot.now c.version.ensures.sound.acyclic c.args.cell

pub returns-in_err-list_ends-clause-walks : goal.returns-in_err-list_ends-clause-walks
returns-in_err-list_ends-clause-walks c = all_walks c.args.snapshot.now c.version.ensures.sound.acyclic c.args.cell

pub returns-clause-walks : goal.returns-clause-walks
returns-clause-walks c = all_walks c.args.snapshot.now c.version.ensures.sound.acyclic c.args.cell

pub returns-then-not-is_cell-clause-answer : goal.returns-then-not-is_cell-clause-answer
returns-then-not-is_cell-clause-answer c =
    let is : is_cell c.args.snapshot.now c.args.cell ≡ false =
    ap (λ (l : Layout). is_cell l c.args.cell) (sym c.version.ensures.value) ∙ sym c.if-not-is_cell.ensures in
    inr (sym (not_walked c.args.snapshot.now c.args.cell is))

pub returns-in_err-test_walks-clause-answer : goal.returns-in_err-test_walks-clause-answer
returns-in_err-test_walks-clause-answer c =
    let is : is_cell c.args.snapshot.now c.args.cell ≡ true =
    ap (λ (l : Layout). is_cell l c.args.cell) (sym c.version.ensures.value) ∙ sym c.if-not-is_cell.ensures in
    let fact : IsAnswer {T = Start} NoMemory (Err c.in_err-test_walks.field-0.0) (walked c.args.snapshot.now c.args.cell) =
    walks_refused c.args.snapshot.now c.args.cell c.in_err-test_walks.field-0.0 is
    (subst (λ (l : Layout). IsAnswer {T = Unit {0}} NoMemory (Err c.in_err-test_walks.field-0.0) (tested l c.args.cell))
    c.new-lists.ensures c.in_err-test_walks.ensures.tested) in
    search (rules, fact)

pub returns-clause-answer : goal.returns-clause-answer
returns-clause-answer c =
    let is : is_cell c.args.snapshot.now c.args.cell ≡ true =
    ap (λ (l : Layout). is_cell l c.args.cell) (sym c.version.ensures.value) ∙ sym c.if-not-is_cell.ensures in
    let passed : tested c.args.snapshot.now c.args.cell ≡ Ok (tt {0}) =
    passed_from c.in_ok-test_walks.field-0 (tested c.args.snapshot.now c.args.cell)
    (subst (λ (l : Layout). IsAnswer NoMemory (Ok c.in_ok-test_walks.field-0) (tested l c.args.cell)) c.new-lists.ensures
    c.in_ok-test_walks.ensures.tested) in
    inr (sym (walks_pass c.args.snapshot.now c.args.cell is passed))

pub invariant_of-result : goal.invariant_of-result
invariant_of-result c =
    let layout : Layout = c.args.snapshot.now in
    let is : is_cell layout c.args.cell ≡ true =
    ap (λ (l : Layout). is_cell l c.args.cell) (sym c.version.ensures.value) ∙ sym c.if-not-is_cell.ensures in
    let passed : tested layout c.args.cell ≡ Ok (tt {0}) =
    passed_from c.in_ok-test_walks.field-0 (tested layout c.args.cell)
    (subst (λ (l : Layout). IsAnswer NoMemory (Ok c.in_ok-test_walks.field-0) (tested l c.args.cell)) c.new-lists.ensures
    c.in_ok-test_walks.ensures.tested) in
    record {
      there = is;
      passed = passed;
      all = c.in_ok-list_ends.ensures.ends
          ∙ ap (λ (l : Layout). c.new-ends.result.items ++ ends_within l 64 c.args.cell (Some c.unturned.result))
          (c.in_ok-test_walks.ensures.same ∙ c.new-lists.ensures)
          ∙ ap (λ (es : List End). es ++ ends_within layout 64 c.args.cell (Some c.unturned.result)) c.new-ends.ensures.items
          ∙ ap (λ (t : Turn). ends_within layout 64 c.args.cell (Some t)) c.unturned.ensures
          ∙ ends_are layout c.args.cell 64 c.version.ensures.sound.acyclic (shallow layout c.args.cell passed);
      turns = c.is_any_outside-outside.ensures ∙ ap (list_any (λ (end : End). is_none end.turn)) c.deref.ensures.value;
    }
