-- None of the operations holds where neither input does; so the laws of labels hold of each.
use Rattle.std.proofs.Common.{◌≡◌, false, refl}
use Rattle.face_rows.specs.declared.op.Op.{Op}
use Rattle.face_rows.specs.declared.op.Op.TheVariants.{And, Or, Not, Xor}
use Rattle.face_rows.specs.Operations.{answer}
use Rattle.face_rows.proofs.UpwardLemmas.{even_operation, operation_law, operation_rises}
use Rattle.face_rows.proofs.laws.operations_have_laws.Goals as goal

neither : (op : Op) → answer op false false ≡ false
neither And = refl
neither Or = refl
neither Not = refl
neither Xor = refl

pub returns : goal.returns
returns c = λ op r rounded clean lesser. record {
  places = operation_law r rounded clean lesser (answer op) (neither op);
  even = even_operation r rounded clean lesser (answer op) (neither op);
  rising = operation_rises r rounded (answer op);
}
