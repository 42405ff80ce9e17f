use Rattle.std.proofs.Common.{◌≡◌, ◌∙◌, ◌&&◌, Some, ap, length, refl, slice_get, sym}
use Rattle.std.proofs.lemmas.Option.{slice_get_read}
use Rattle.std.specs.FinSet.{contains}
use Rattle.txn_commands.specs.Lies.{passes}
use Rattle.undo_book.specs.Indexed.{touched}
use Rattle.undo_book.proofs.MakerLemmas.{element_there}
use Rattle.undo_book.proofs.by_element.has_touched.Goals as goal

pub returns-then-entry : goal.returns-then-entry
returns-then-entry c =
    let es = c.args.entries.now in
    let e = c.args.element.now in
    let footprint = c.entry.inside.footprint in
    let at : slice_get es c.args.place ≡ Some c.index-entries-place.result =
    slice_get_read es (length es) c.args.place c.index-entries-place.result refl c.requires c.index-entries-place.is in
    c.contains.ensures.value ∙ element_there c.as_slice.result.now e footprint c.as_slice.ensures
    ∙ sym (ap (λ b. b && contains footprint e) c.if-entry.true) ∙ ap (touched e) c.entry.view_is ∙ sym (ap (passes (touched e)) at)

pub returns-else-entry : goal.returns-else-entry
returns-else-entry c =
    let es = c.args.entries.now in
    let e = c.args.element.now in
    let at : slice_get es c.args.place ≡ Some c.index-entries-place.result =
    slice_get_read es (length es) c.args.place c.index-entries-place.result refl c.requires c.index-entries-place.is in
    c.if-entry.false ∙ sym (ap (λ b. b && contains c.entry.inside.footprint e) c.if-entry.false) ∙ ap (touched e) c.entry.view_is
    ∙ sym (ap (passes (touched e)) at)
