use Rattle.undo_book.specs.Books.{history_of}
use Rattle.undo_book.proofs.SoundLemmas.{kept_found}
use Rattle.undo_book.proofs.book.Book.is_written_from.Goals as goal

pub is_written_from-requires-clause-found : goal.is_written_from-requires-clause-found
is_written_from-requires-clause-found c =
    kept_found (history_of c.self.inside) c.self.inside.places.entries c.deref.result.now c.self.invariant.history
    c.self.invariant.places c.deref.ensures.value
