-- What contracts see of a book, and what it keeps.
use Rattle.undo_rules.specs.Books.{History, IsHistory}
use Rattle.undo_book.specs.declared.book.Book.TheInside.{Inside}
use Rattle.undo_book.specs.Changes.{AreChanges, AreCommits}
use Rattle.undo_book.specs.Indexed.{AreIndexed}
use Rattle.undo_book.specs.Places.{IndexesByName}

-- a book as its history
abbrev pub history_of : Inside → History
history_of b = record {
  base = b.base;
  layout = b.layout;
  log = b.log.items;
  limit = b.limit;
  entries = b.entries.items;
  sessions = b.sessions.items;
}

-- a book keeps what a history keeps true, the places of its transactions, those of their changes in its log, behind which of them
-- there are only commits, and who of the live ones wrote and touched what
pub record IsBook (b : Inside) : Type 0 where
  pub history : IsHistory (history_of b)
  pub places : IndexesByName b.places.entries b.entries.items
  pub changes : AreChanges b.changes.previous_change.items b.changes.last.items b.log.items b.entries.items
  pub commits : AreCommits b.changes.last_undo_or_redo b.changes.last.items b.log.items b.entries.items
  pub index : AreIndexed b.index.writers b.index.readers b.entries.items
