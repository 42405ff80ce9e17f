use Rattle.std.proofs.Common.{rules}
use Rattle.locked_desk.proofs.RefusedLemmas.{shown_first}
use Rattle.locked_desk.proofs.guarded.Guarded.snapshot.Goals as goal

pub returns-in-Some-clause-refused : goal.returns-in-Some-clause-refused
returns-in-Some-clause-refused g c =
    shown_first c.args.origin.now c.args.self.now c.args.session c.args.own.now c.in-Some.place c.missed.result (search rules)
    c.missed.ensures
