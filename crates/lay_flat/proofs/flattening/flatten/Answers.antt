use Rattle.std.proofs.Common.{Err, List, rules}
use Rattle.lay_point.specs.Memory.{IsAnswer}
use Rattle.lay_flat.specs.declared.fault.FlatFault.TheVariants.{NoMemory}
use Rattle.lay_flat.specs.Flat.{FlatRing}
use Rattle.lay_flat.specs.Flattening.{flat_of}
use Rattle.lay_flat.proofs.Answered.{flattened_from, refused_from}
use Rattle.lay_flat.proofs.flattening.flatten.Goals as goal

pub returns-in_err-walks-clause-answer : goal.returns-in_err-walks-clause-answer
returns-in_err-walks-clause-answer c =
    let fact : IsAnswer {T = List FlatRing} NoMemory (Err c.in_err-walks.field-0.0)
    (flat_of c.args.snapshot.now c.args.cell c.args.layer.now) =
    refused_from c.args.snapshot.now c.args.cell c.args.layer.now c.in_err-walks.field-0.0 c.in_err-walks.ensures.answer in
    search (rules, fact)

pub returns-clause-answer : goal.returns-clause-answer
returns-clause-answer c =
    flattened_from c.args.snapshot.now c.args.cell c.in_ok-walks.walks c.args.layer.now c.layer.result c.in_ok-walks.ensures.answer
    c.layer.ensures
