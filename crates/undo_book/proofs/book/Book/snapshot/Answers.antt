use Rattle.std.proofs.Common.{◌≡◌, Some, subst}
use Rattle.undo_rules.specs.Books.{History}
use Rattle.undo_rules.proofs.HistoryLaws.{replays}
use Rattle.undo_book.specs.Books.{history_of}
use Rattle.undo_book.specs.Replays.{replay}
use Rattle.undo_book.proofs.book.Book.snapshot.Goals as goal

pub returns-clause-replay : goal.returns-clause-replay
returns-clause-replay c =
    let h : History = history_of c.self.inside in
    subst (λ (x : History). replay x ≡ Some c.self.inside.layout) c.self.view_is
    (replays h.log h.base h.layout h.entries c.self.invariant.history.kept)
