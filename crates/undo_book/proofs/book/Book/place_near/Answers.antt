use Rattle.std.proofs.Common.{◌≡◌, ◌∙◌, ◌<◌, List, ap, get_or, length, refl, rules}
use Rattle.std.proofs.lemmas.Option.{slice_get_read}
use Rattle.undo_rules.specs.Books.{History}
use Rattle.undo_rules.specs.Links.{Entry}
use Rattle.undo_book.proofs.MovedLemmas.{place_at}
use Rattle.undo_book.proofs.book.Book.place_near.Goals as goal

pub returns-in-Some-clause-value : goal.returns-in-Some-clause-value
returns-in-Some-clause-value c =
    let es : List Entry = c.args.self.now.entries in
    let entry : Entry = c.in-Some.entry.now in
    let is : entry.txn ≡ c.args.txn = search rules in
    let within : c.args.near < length es = search rules in
    let read : entry ≡ get_or es c.args.near entry = c.in-Some.ensures.lookup.1
    ∙ ap (λ (l : List Entry). get_or l c.args.near entry) c.deref.ensures.value
    ∙ ap (λ (h : History). get_or h.entries c.args.near entry) c.self.view_is in
    place_at es c.args.near entry c.args.txn (search rules) (slice_get_read es (length es) c.args.near entry refl within read) is
