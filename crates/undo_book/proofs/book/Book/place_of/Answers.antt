use Rattle.std.proofs.Common.{◌≡◌, rules}
use Rattle.undo_book.specs.Places.{place_of}
use Rattle.undo_book.proofs.FoundLemmas.{found_within}
use Rattle.undo_book.proofs.book.Book.place_of.Goals as goal

pub returns-clause-there : goal.returns-clause-there
returns-clause-there c =
    let value : c.copied.result ≡ place_of c.args.txn c.args.self.now.entries = search rules in
    found_within c.copied.result c.args.self.now.entries c.args.txn value
