use Rattle.lay_point.proofs.TurnLemmas.{turned-composed}
use Rattle.lay_point.proofs.turn.Turn.then.Goals as goal

pub returns-in_err-shift-clause-map : goal.returns-in_err-shift-clause-map
returns-in_err-shift-clause-map c = turned-composed c.args.self c.args.next

pub returns-clause-map : goal.returns-clause-map
returns-clause-map c = turned-composed c.args.self c.args.next
