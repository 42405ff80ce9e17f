use Rattle.std.proofs.Common.{◌∙◌}
use Rattle.face_sweep.specs.Counts.{nth_shape}
use Rattle.face_sweep.proofs.CountLemmas.{few, in_range, some_first, some_second, turned_first, turned_second}
use Rattle.face_sweep.proofs.counts.Counts.turned_in.Goals as goal

pub turned_count-requires-clause-some : goal.turned_count-requires-clause-some
turned_count-requires-clause-some c = λ t.
    some_first c.args.self c.requires.1 (nth_shape c.args.input c.requires.0) c.requires.2 c.in-First.is (c.requires.3 ∙ t)

pub turned_count-requires-clause-few : goal.turned_count-requires-clause-few
turned_count-requires-clause-few c = (few c.args.self c.requires.1 c.requires.2).0

pub turned_count-requires-in-Second-clause-some : goal.turned_count-requires-in-Second-clause-some
turned_count-requires-in-Second-clause-some c = λ t.
    some_second c.args.self c.requires.1 (nth_shape c.args.input c.requires.0) c.requires.2 c.in-Second.is (c.requires.3 ∙ t)

pub turned_count-requires-in-Second-clause-few : goal.turned_count-requires-in-Second-clause-few
turned_count-requires-in-Second-clause-few c = (few c.args.self c.requires.1 c.requires.2).1

pub returns-in-First : goal.returns-in-First
returns-in-First c = λ shape holds small h is.
    turned_first c.args.self holds (nth_shape c.args.input shape) c.args.inside c.turned_count.result (in_range shape small) h is
    c.in-First.is c.turned_count.ensures

pub returns-in-Second : goal.returns-in-Second
returns-in-Second c = λ shape holds small h is.
    turned_second c.args.self holds (nth_shape c.args.input shape) c.args.inside c.turned_count-in-Second.result (in_range shape small) h
    is c.in-Second.is c.turned_count-in-Second.ensures
