use Rattle.std.proofs.Common.{slice_get, subst, sym}
use Rattle.txn_commands.specs.Lies.{passes}
use Rattle.undo_index.specs.First.{IsFirst}
use Rattle.undo_book.specs.Indexed.{touched}
use Rattle.undo_book.proofs.MakerLemmas.{first_of_both}
use Rattle.undo_book.proofs.by_element.first_reader_of.Goals as goal

pub returns : goal.returns
returns c =
    let es = c.args.entries.now in
    let e = c.args.element.now in
    subst (IsFirst (λ p. passes (touched e) (slice_get es p)) c.args.from) (sym c.lesser.ensures)
    (first_of_both touched c.args.index.now.readers es e c.args.from c.first-listed.result c.reading_maker-maker.result
    c.requires.index.readers c.first-listed.ensures c.reading_maker-maker.ensures)
