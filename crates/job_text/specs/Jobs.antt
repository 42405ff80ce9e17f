-- What a job says.
use Rattle.std.specs.Prelude.{ℕ, List}
use Rattle.session_steps.specs.declared.Step.{Step}

-- its CIF text, the steps of each session, in order, and the sessions in the order in which their steps run
pub record Job : Type 0 where
  pub cif : List ℕ
  pub scripts : List (List Step)
  pub order : List ℕ
