use Rattle.std.proofs.Common.{◌≡◌, ◌∙◌, None, Some, rules, sym}
use Rattle.undo_index.specs.Listed.{element_id}
use Rattle.undo_book.specs.Indexed.{wrote}
use Rattle.undo_book.proofs.MakerLemmas.{made_within, maker_fails, maker_missing, maker_passes, written_of}
use Rattle.undo_book.proofs.by_element.writing_maker.Goals as goal

pub returns-in_err-place : goal.returns-in_err-place
returns-in_err-place c =
    let id = c.in_ok-id.id in
    let is : element_id c.args.element.now ≡ Some id = search rules in
    let none : c.maker.result ≡ None = search rules in
    let gone : c.from_residual-in_err-place.result ≡ None = search rules in
    rw gone (maker_missing wrote c.args.entries.now c.args.places.now.entries c.requires c.args.element.now id is
    (sym none ∙ c.maker.ensures))

pub has_written-requires-clause-there : goal.has_written-requires-clause-there
has_written-requires-clause-there c =
    let at : c.maker.result ≡ Some c.in_ok-place.place = search rules in
    made_within c.args.places.now.entries c.args.entries.now c.in_ok-id.id c.in_ok-place.place c.requires (sym at ∙ c.maker.ensures)

pub returns-then-has_written : goal.returns-then-has_written
returns-then-has_written c =
    let id = c.in_ok-id.id in
    let q = c.in_ok-place.place in
    let is : element_id c.args.element.now ≡ Some id = search rules in
    let at : c.maker.result ≡ Some q = search rules in
    maker_passes wrote c.args.entries.now c.args.places.now.entries c.requires c.args.element.now id is q (sym at ∙ c.maker.ensures)
    (written_of c.args.element.now id is c.args.entries.now q ∙ sym c.has_written.ensures ∙ c.if-has_written.true)

pub returns : goal.returns
returns c =
    let id = c.in_ok-id.id in
    let q = c.in_ok-place.place in
    let is : element_id c.args.element.now ≡ Some id = search rules in
    let at : c.maker.result ≡ Some q = search rules in
    maker_fails wrote c.args.entries.now c.args.places.now.entries c.requires c.args.element.now id is q (sym at ∙ c.maker.ensures)
    (written_of c.args.element.now id is c.args.entries.now q ∙ sym c.has_written.ensures ∙ c.if-has_written.false)
