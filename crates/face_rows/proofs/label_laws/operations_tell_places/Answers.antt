-- Each law is a theorem about all rounded inputs.
use Rattle.face_rows.proofs.Shapes.{inputs_are_their_shapes}
use Rattle.face_rows.proofs.UpwardLemmas.{even_operation, operation_among, operation_law, operation_rises}
use Rattle.face_rows.proofs.label_laws.operations_tell_places.Goals as goal

pub returns-clause-operations : goal.returns-clause-operations
returns-clause-operations c = operation_law

pub returns-clause-inputs : goal.returns-clause-inputs
returns-clause-inputs c = inputs_are_their_shapes

pub returns-clause-even : goal.returns-clause-even
returns-clause-even c = even_operation

pub returns-clause-rising : goal.returns-clause-rising
returns-clause-rising c = operation_rises

pub returns-clause-among : goal.returns-clause-among
returns-clause-among c = operation_among
