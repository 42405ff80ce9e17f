use Rattle.std.proofs.Common.{◌≡◌, ◌∙◌, None, Some, rules, slice_get, sym}
use Rattle.txn_commands.specs.Lies.{passes}
use Rattle.undo_index.specs.Listed.{element_id}
use Rattle.undo_book.specs.Indexed.{by_maker, touched}
use Rattle.undo_book.proofs.MakerLemmas.{made_within, maker_before, maker_fails, maker_missing, maker_passes, no_first, one_first}
use Rattle.undo_book.proofs.by_element.reading_maker.Goals as goal
use Rattle.undo_book.proofs.by_element.reading_maker.Goals.{else-from-place-via-else-from-place}
use Rattle.undo_book.proofs.by_element.reading_maker.Goals.{else-from-place-via-then-from-place+else-has_touched}

pub returns-in_err-place : goal.returns-in_err-place
returns-in_err-place c =
    let id = c.in_ok-id.id in
    let is : element_id c.args.element.now ≡ Some id = search rules in
    let none : c.maker.result ≡ None = search rules in
    let gone : c.from_residual-in_err-place.result ≡ None = search rules in
    rw gone (no_first (λ p. passes (by_maker touched c.args.element.now) (slice_get c.args.entries.now p)) c.args.from
    (maker_missing touched c.args.entries.now c.args.places.now.entries c.requires c.args.element.now id is
    (sym none ∙ c.maker.ensures)))

pub has_touched-requires : goal.has_touched-requires
has_touched-requires c =
    let at : c.maker.result ≡ Some c.in_ok-place.place = search rules in
    made_within c.args.places.now.entries c.args.entries.now c.in_ok-id.id c.in_ok-place.place c.requires (sym at ∙ c.maker.ensures)

pub returns-then-has_touched : goal.returns-then-has_touched
returns-then-has_touched c =
    let id = c.in_ok-id.id in
    let q = c.in_ok-place.place in
    let is : element_id c.args.element.now ≡ Some id = search rules in
    let at : c.maker.result ≡ Some q = search rules in
    one_first (λ p. passes (by_maker touched c.args.element.now) (slice_get c.args.entries.now p)) c.args.from q c.if-from-place.true
    (maker_passes touched c.args.entries.now c.args.places.now.entries c.requires c.args.element.now id is q (sym at ∙ c.maker.ensures)
    (sym c.has_touched.ensures ∙ c.if-has_touched.true))

pub returns : goal.returns
returns c =
    let es = c.args.entries.now in
    let e = c.args.element.now in
    let id = c.in_ok-id.id in
    let q = c.in_ok-place.place in
    let is : element_id e ≡ Some id = search rules in
    let at : c.maker.result ≡ Some q = search rules in
    let placed = sym at ∙ c.maker.ensures in
    elim c.else-from-place.branch [
      | else-from-place-via-then-from-place+else-has_touched w ↦
          no_first (λ p. passes (by_maker touched e) (slice_get es p)) c.args.from
          (maker_fails touched es c.args.places.now.entries c.requires e id is q placed
          (sym w.has_touched.ensures ∙ w.if-has_touched.false))
      | else-from-place-via-else-from-place w ↦
          maker_before touched es c.args.places.now.entries c.requires e id is q placed c.args.from w.if-from-place.false
    ]
