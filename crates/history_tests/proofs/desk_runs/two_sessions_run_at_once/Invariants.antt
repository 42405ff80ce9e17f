-- The desk's ledger is the one that was made.
use Rattle.history_tests.proofs.desk_runs.two_sessions_run_at_once.Given as goal

abbrev pub ghosts-run_two : goal.ghosts-run_two
ghosts-run_two g a = record { name = a.blank.name; parts = a.blank.parts }
