-- The desk's ledger is the one that was made.
use Rattle.locked_desk.proofs.run.run_scripts.Given as goal

abbrev pub ghosts-run_on : goal.ghosts-run_on
ghosts-run_on g a = record { name = a.blank.name; parts = a.blank.parts }
