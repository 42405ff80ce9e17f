use Rattle.std.proofs.Common.{ℕ, List, arith, false, subst}
use Rattle.masklay.specs.Asked.{asked_by}
use Rattle.masklay.specs.Output.{EndsAsAsked}
use Rattle.masklay.proofs.OutputLemmas.{kept_ends, one_output, unread_run}
use Rattle.masklay.proofs.program.run_in_turn.Goals as goal

-- what was kept of the input has the input's output
pub returns-in-Ok-clause-run : goal.returns-in-Ok-clause-run
returns-in-Ok-clause-run g c =
    let P : List ℕ → Type 0 = λ kept. EndsAsAsked g.O.Out.written g.O.Out.failures c.args.out.now c.write_in_turn.new.out
    (asked_by false c.args.options) kept c.write_in_turn.result in
    record {
      answered = λ bytes told ended. kept_ends g.O.Out.written g.O.Out.failures c.args.out.now c.write_in_turn.new.out
          (asked_by false c.args.options) bytes c.write_in_turn.result
          (subst P (c.in-Ok.ensures.kept bytes told) c.write_in_turn.ensures.output);
      unended = λ same _. let ended = c.in-Ok.ensures.how.0 in absurd (omega arith);
      failed = λ failed. absurd (failed c.in-Ok.ensures.how.1);
      reads = c.in-Ok.ensures.reads;
    }

pub returns-in-Ok-clause-one : goal.returns-in-Ok-clause-one
returns-in-Ok-clause-one g c = one_output

-- what wasn't read has no output
pub returns-in-Err-clause-run : goal.returns-in-Err-clause-run
returns-in-Err-clause-run g c =
    unread_run (asked_by false c.args.options) g.I.In.remaining g.I.In.counts g.O.Out.written g.O.Out.failures
    c.args.input.now c.read_all.new.input c.args.out.now c.write_unread.new.out c.write_unread.result c.in-Err.fault
    c.in-Err.ensures.how c.in-Err.ensures.reads c.write_unread.ensures.output

pub returns-in-Err-clause-one : goal.returns-in-Err-clause-one
returns-in-Err-clause-one g c = one_output
