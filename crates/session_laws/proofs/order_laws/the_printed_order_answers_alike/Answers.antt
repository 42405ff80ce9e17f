use Rattle.session_laws.proofs.PrintedOrders.{jobs_alike, steps_alike, steps_come_in_turn}
use Rattle.session_laws.proofs.order_laws.the_printed_order_answers_alike.Goals as goal

pub returns : goal.returns
returns c = record { turns = steps_come_in_turn; steps = steps_alike; jobs = jobs_alike }
