use Rattle.std.proofs.Common.{false}
use Rattle.masklay.specs.Asked.{asked_by}
use Rattle.masklay.proofs.OutputLemmas.{given_ends}
use Rattle.masklay.proofs.program.write_in_turn.Goals as goal

pub returns-clause-output : goal.returns-clause-output
returns-clause-output g c =
    given_ends g.O.Out.written g.O.Out.failures c.args.out.now c.write_output.new.out (asked_by false c.args.options) c.args.bytes.items
    c.give_in_turn-given.result c.write_output.result c.give_in_turn-given.ensures.outcome c.give_in_turn-given.ensures.names
    c.write_output.ensures.output
