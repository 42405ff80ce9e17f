use Rattle.std.proofs.Common.{◌≡◌, drop}
use Rattle.undo_rules.specs.Steps.{stale_by}
use Rattle.undo_book.proofs.StaleLemmas.{NoneWrote}
use Rattle.undo_book.proofs.book.Book.first_stale.Given as goal

-- the calls that are left decide, and none of those before wrote it
abbrev pub invariant-loop-place : goal.invariant-loop-place
invariant-loop-place l = record {
  left : stale_by l.self.entries l.footprint (drop l.place l.self.log) ≡ stale_by l.self.entries l.footprint (drop l.since l.self.log);
  looked : NoneWrote l.self.entries l.footprint l.self.log l.since l.place;
}
