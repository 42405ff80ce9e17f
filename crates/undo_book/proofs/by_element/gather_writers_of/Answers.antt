use Rattle.undo_index.proofs.KeptLemmas.{on_ok}
use Rattle.undo_book.specs.Indexed.{wrote}
use Rattle.undo_book.proofs.MakerLemmas.{all_of_both}
use Rattle.undo_book.proofs.by_element.gather_writers_of.Goals as goal

pub returns : goal.returns
returns c =
    on_ok c.push_below.result
    (all_of_both wrote c.args.index.now.writers c.args.entries.now c.args.element.now c.args.below c.writing_maker.result
    c.args.found.now.items c.gather.new.places.items c.push_below.new.found.items c.requires.index.writers c.writing_maker.ensures
    c.in_ok-gather.ensures)
    c.push_below.ensures
