-- The desk's ledger is the one that was made.
use Rattle.history_tests.proofs.calls.a_write_is_read_back.Given as goal

abbrev pub ghosts-reads_back : goal.ghosts-reads_back
ghosts-reads_back g a = record { name = a.blank.name; parts = a.blank.parts }
