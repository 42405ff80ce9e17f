-- The laws are theorems about all rounded edges.
use Rattle.face_sweep.proofs.StatusLemmas.{places_tell, points_pass}
use Rattle.face_sweep.proofs.BehindLemmas.{passed_behind}
use Rattle.face_sweep.proofs.LevelLemmas.{level_behind}
use Rattle.face_sweep.proofs.NextLemmas.{follows, row_begins, row_ends}
use Rattle.face_sweep.proofs.TurnLemmas.{turns_order}
use Rattle.face_sweep.proofs.laws.points_pass.Goals as goal

pub returns-clause-places : goal.returns-clause-places
returns-clause-places c = places_tell

pub returns-clause-points : goal.returns-clause-points
returns-clause-points c = points_pass

pub returns-clause-follow : goal.returns-clause-follow
returns-clause-follow c = λ r p q numbers sound. follows r sound p q numbers

pub returns-clause-rows : goal.returns-clause-rows
returns-clause-rows c = λ r p numbers sound. row_ends r sound p numbers

pub returns-clause-behind : goal.returns-clause-behind
returns-clause-behind c = passed_behind

pub returns-clause-level : goal.returns-clause-level
returns-clause-level c = level_behind

pub returns-clause-order : goal.returns-clause-order
returns-clause-order c = turns_order

pub returns-clause-rows_begin : goal.returns-clause-rows_begin
returns-clause-rows_begin c = λ r q numbers sound. row_begins r sound q numbers
