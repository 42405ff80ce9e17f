use Rattle.std.proofs.Common.{drop}
use Rattle.undo_index.proofs.ListedLemmas.{Adds}
use Rattle.undo_index.proofs.listing.Listing.add.Given as goal

-- with the elements that are left it is listed as it is to be
abbrev pub invariant-loop-element : goal.invariant-loop-element
invariant-loop-element l = Adds l.fn.self l.txn l.elements l.place l.self (drop l.element-index l.element-items)
