use Rattle.std.proofs.Common.{◌≡◌, Result, Err, Ok, List, rules, subst, sym}
use Rattle.lay_point.specs.Memory.{IsAnswer}
use Rattle.lay_flat.specs.declared.fault.FlatFault.TheVariants as flat_fault
use Rattle.lay_flat.proofs.Answered.{flattened_from}
use Rattle.layer_ops.specs.declared.fault.OpFault.TheVariants as op_fault
use Rattle.layer_ops.specs.Combining.{combined, shape_lists}
use Rattle.bool_rules.specs.Booleans.{bool_shapes}
use Rattle.txn_plans.specs.Shaping.{fault_of_op, lists_in, points_of}
use Rattle.txn_plans.proofs.Operated.{combined_refused, combined_shapes, first_refused, second_refused, walks_refused}
use Rattle.txn_plans.proofs.booleans.operation.Goals as goal

pub returns-in_err-walks : goal.returns-in_err-walks
returns-in_err-walks g c =
    let is : c.from_residual.result ≡ Err c.in_err-walks.field-0.0 = search rules in
    rw is (walks_refused c.args.layout.now c.args.asked.op c.args.asked.cell c.args.asked.a c.args.asked.b c.in_err-walks.field-0.0
    c.in_err-walks.ensures.answer)

pub returns-in_err-first : goal.returns-in_err-first
returns-in_err-first g c =
    let is : c.from_residual-in_err-first.result ≡ Err c.in_err-first.field-0.0 = search rules in
    let first = flattened_from c.args.layout.now c.args.asked.cell c.in_ok-walks.walks c.args.asked.a (Err c.in_err-first.field-0.0)
    c.in_ok-walks.ensures.answer c.in_err-first.ensures in
    rw is (first_refused c.args.layout.now c.args.asked.op c.args.asked.cell c.args.asked.a c.args.asked.b c.in_err-first.field-0.0 first)

pub returns-in_err-second : goal.returns-in_err-second
returns-in_err-second g c =
    let is : c.from_residual-in_err-second.result ≡ Err c.in_err-second.field-0.0 = search rules in
    let first = flattened_from c.args.layout.now c.args.asked.cell c.in_ok-walks.walks c.args.asked.a (Ok c.in_ok-first.first)
    c.in_ok-walks.ensures.answer c.in_ok-first.ensures in
    let second = flattened_from c.args.layout.now c.args.asked.cell c.in_ok-walks.walks c.args.asked.b (Err c.in_err-second.field-0.0)
    c.in_ok-walks.ensures.answer c.in_err-second.ensures in
    rw is (second_refused c.args.layout.now c.args.asked.op c.args.asked.cell c.args.asked.a c.args.asked.b c.in_ok-first.first
    c.in_err-second.field-0.0 first second)

pub returns-in-Ok : goal.returns-in-Ok
returns-in-Ok g c =
    let first = flattened_from c.args.layout.now c.args.asked.cell c.in_ok-walks.walks c.args.asked.a (Ok c.in_ok-first.first)
    c.in_ok-walks.ensures.answer c.in_ok-first.ensures in
    let second = flattened_from c.args.layout.now c.args.asked.cell c.in_ok-walks.walks c.args.asked.b (Ok c.in_ok-second.second)
    c.in_ok-walks.ensures.answer c.in_ok-second.ensures in
    combined_shapes c.args.layout.now c.args.asked.op c.args.asked.cell c.args.asked.a c.args.asked.b c.in_ok-first.first
    c.in_ok-second.second (points_of c.in-Ok.shapes.items) first second c.in-Ok.ensures.answer

pub returns : goal.returns
returns g c =
    let first = flattened_from c.args.layout.now c.args.asked.cell c.in_ok-walks.walks c.args.asked.a (Ok c.in_ok-first.first)
    c.in_ok-walks.ensures.answer c.in_ok-first.ensures in
    let second = flattened_from c.args.layout.now c.args.asked.cell c.in_ok-walks.walks c.args.asked.b (Ok c.in_ok-second.second)
    c.in_ok-walks.ensures.answer c.in_ok-second.ensures in
    rw c.fault_of_op.ensures (combined_refused c.args.layout.now c.args.asked.op c.args.asked.cell c.args.asked.a c.args.asked.b
    c.in_ok-first.first c.in_ok-second.second c.in-Err.fault first second c.in-Err.ensures.answer)
