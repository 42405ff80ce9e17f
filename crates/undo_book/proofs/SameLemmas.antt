-- A book whose parts read as before.
use Rattle.std.proofs.Common.{◌≡◌, List, sym, ap, subst}
use Rattle.undo_rules.specs.Books.{History, IsHistory}
use Rattle.undo_rules.specs.Links.{Entry}
use Rattle.undo_index.specs.Listed.{Listed}
use Rattle.undo_book.specs.declared.book.Book.TheInside.{Inside}
use Rattle.undo_book.specs.Books.{IsBook, history_of}
use Rattle.undo_book.specs.Indexed.{AreIndexed}
use Rattle.undo_book.specs.Places.{IndexesByName}
use Rattle.undo_book.proofs.ChangeLemmas.{same_lists}
use Rattle.undo_book.proofs.SinceLemmas.{same_commits}

same_index : {v w r s : Listed} {es fs : List Entry} → v ≡ w → s ≡ r → fs ≡ es → AreIndexed w r es → AreIndexed v s fs
same_index {v} {w} {r} {s} {es} {fs} writers readers entries is =
    subst (λ (x : Listed). AreIndexed x s fs) (sym writers)
    (subst (λ (x : Listed). AreIndexed w x fs) (sym readers) (subst (λ (x : List Entry). AreIndexed w r x) (sym entries) is))

pub same_book : (b n : Inside) → history_of n ≡ history_of b → n.places.entries ≡ b.places.entries →
    n.changes.previous_change.items ≡ b.changes.previous_change.items → n.changes.last.items ≡ b.changes.last.items →
    n.changes.last_undo_or_redo ≡ b.changes.last_undo_or_redo → n.index.writers ≡ b.index.writers → n.index.readers ≡ b.index.readers
    → IsBook b → IsBook n
same_book b n history places earlier last again writers readers is = record {
  history = subst (λ (h : History). IsHistory h) (sym history) is.history;
  places = subst (λ ps. IndexesByName ps n.entries.items) (sym places)
      (subst (λ (h : History). IndexesByName b.places.entries h.entries) (sym history) is.places);
  changes = same_lists earlier last (ap (λ (h : History). h.log) history) (ap (λ (h : History). h.entries) history) is.changes;
  commits = same_commits again last (ap (λ (h : History). h.log) history) (ap (λ (h : History). h.entries) history) is.commits;
  index = same_index writers readers (ap (λ (h : History). h.entries) history) is.index;
}
