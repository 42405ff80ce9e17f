-- How refusals of steps are written.
use Rattle.std.specs.Prelude.{codes}
use Rattle.txn_commands.specs.Refusals.{Code, command_code}
use Rattle.undo_rules.specs.Refusals.{book_code}
use Rattle.session_steps.specs.declared.StepFault.{StepFault}
use Rattle.session_steps.specs.declared.StepFault.TheVariants.{AlreadyOpen, Book, Command, NoSession, NotOpen}

-- the number and the name of a refusal of a step
abbrev pub step_code : StepFault → Code
step_code (Command fault) = command_code fault
step_code (Book fault) = book_code fault
step_code NoSession = (30, codes "NoSession")
step_code AlreadyOpen = (31, codes "AlreadyOpen")
step_code NotOpen = (32, codes "NotOpen")
