-- The desk's ledger is the one that was made.
use Rattle.history_tests.proofs.calls.a_slice_keeps_its_points.Given as goal

abbrev pub ghosts-keeps_points : goal.ghosts-keeps_points
ghosts-keeps_points g a = record { name = a.blank.name; parts = a.blank.parts }
