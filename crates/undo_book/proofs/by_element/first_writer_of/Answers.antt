use Rattle.std.proofs.Common.{slice_get, subst, sym}
use Rattle.txn_commands.specs.Lies.{passes}
use Rattle.undo_index.specs.First.{IsFirst}
use Rattle.undo_index.proofs.FirstLemmas.{first_alike}
use Rattle.undo_book.specs.Indexed.{by_maker, wrote}
use Rattle.undo_book.specs.Places.{is_place}
use Rattle.undo_book.proofs.MakerLemmas.{first_of_both}
use Rattle.undo_book.proofs.by_element.first_writer_of.Goals as goal

pub returns : goal.returns
returns c =
    let es = c.args.entries.now in
    let e = c.args.element.now in
    let maker = first_alike (λ p. is_place p c.writing_maker.result) (λ p. passes (by_maker wrote e) (slice_get es p)) c.args.from
    c.from_on-maker.result c.writing_maker.ensures c.from_on-maker.ensures in
    subst (IsFirst (λ p. passes (wrote e) (slice_get es p)) c.args.from) (sym c.lesser.ensures)
    (first_of_both wrote c.args.index.now.writers es e c.args.from c.first-listed.result c.from_on-maker.result c.requires.index.writers
    c.first-listed.ensures maker)
