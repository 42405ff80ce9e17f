-- The laws are theorems about all rounded edges.
use Rattle.face_sweep.proofs.BehindLemmas.{status_behind}
use Rattle.face_sweep.proofs.NextTellsLemmas.{level_next, next_tells}
use Rattle.face_sweep.proofs.laws.nexts_tell.Goals as goal

pub returns-clause-status : goal.returns-clause-status
returns-clause-status c = status_behind

pub returns-clause-next : goal.returns-clause-next
returns-clause-next c = next_tells

pub returns-clause-level : goal.returns-clause-level
returns-clause-level c = level_next
