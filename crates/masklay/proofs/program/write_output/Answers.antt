use Rattle.std.proofs.Common.{subst, sym}
use Rattle.masklay.specs.Output.{WritesOrMemory, given_output}
use Rattle.masklay.proofs.program.write_output.Goals as goal

-- what is written is that of what is given
pub returns-in-Ok-clause-output : goal.returns-in-Ok-clause-output
returns-in-Ok-clause-output g c =
    subst (λ given. WritesOrMemory g.O.Out.written g.O.Out.failures c.args.out.now c.write_given-status.new.out
    (given_output c.args.options.strict c.args.options.boxed given) c.write_given-status.result) (sym c.in-Ok.is)
    c.write_given-status.ensures
