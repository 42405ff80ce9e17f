-- The desk's ledger is the one that was made.
use Rattle.history_tests.proofs.calls.a_log_of_one_call_is_full_at_the_commit.Given as goal

abbrev pub ghosts-fills : goal.ghosts-fills
ghosts-fills g a = record { name = a.blank.name; parts = a.blank.parts }
