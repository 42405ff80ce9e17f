use Rattle.txn_rules.proofs.LawProofs.{framed, runs_keep_sound, runs_leave_alone, runs_make_their_own}
use Rattle.txn_rules.proofs.laws.runs_have_laws.Goals as goal

pub returns : goal.returns
returns c = record { alone = runs_leave_alone; sound = runs_keep_sound; own = runs_make_their_own; frame = framed }
