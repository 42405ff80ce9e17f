-- The desk's ledger is the one that was made.
use Rattle.history_tests.proofs.calls.a_seat_is_missed_and_brought.Given as goal

abbrev pub ghosts-missed : goal.ghosts-missed
ghosts-missed g a = record { name = a.blank.name; parts = a.blank.parts }
