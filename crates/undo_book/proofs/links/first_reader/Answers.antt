use Rattle.std.proofs.Common.{◌≡◌, ◌∙◌, None, Some, ap, length, refl, rules, slice_get, subst, sym}
use Rattle.std.proofs.lemmas.Option.{slice_get_past, slice_get_read}
use Rattle.std.specs.FinSet.{items}
use Rattle.std.specs.List.{list_any}
use Rattle.txn_commands.specs.Lies.{passes}
use Rattle.undo_rules.specs.Links.{Entry}
use Rattle.undo_index.specs.First.{IsFirst}
use Rattle.undo_book.specs.Indexed.{touched}
use Rattle.undo_book.proofs.IndexedLemmas.{reader_found, reader_gone, reader_is}
use Rattle.undo_book.proofs.links.first_reader.Goals as goal

pub returns-in_err-place : goal.returns-in_err-place
returns-in_err-place c =
    let es = c.args.entries.now in
    let met = c.args.met.now in
    let none : c.from_residual.result ≡ None = search rules in
    let at : c.first_touching.result ≡ None = search rules in
    none ∙ sym (reader_found c.args.entry.now.writes es met c.args.from None c.requires.met
    (subst (IsFirst (λ q. list_any (λ e. passes (touched e) (slice_get es q)) (items met)) c.args.from) at c.first_touching.ensures))

pub returns-in_err-get : goal.returns-in_err-get
returns-in_err-get c =
    let es = c.args.entries.now in
    let met = c.args.met.now in
    let none : c.from_residual-in_err-get.result ≡ None = search rules in
    let at : c.first_touching.result ≡ Some c.in_ok-place.place = search rules in
    let gone : slice_get es c.in_ok-place.place ≡ None = slice_get_past es c.in_ok-place.place c.in_err-get.ensures.lookup.3 in
    none ∙ sym (reader_gone c.args.entry.now.writes es met c.args.from c.in_ok-place.place c.requires.met
    (subst (IsFirst (λ q. list_any (λ e. passes (touched e) (slice_get es q)) (items met)) c.args.from) at c.first_touching.ensures) gone)

pub returns : goal.returns
returns c =
    let es = c.args.entries.now in
    let met = c.args.met.now in
    let at : c.first_touching.result ≡ Some c.in_ok-place.place = search rules in
    let lookup = c.in_ok-get.ensures.lookup in
    let there : slice_get es c.in_ok-place.place ≡ Some c.in_ok-get.field-0.now =
    slice_get_read es (length es) c.in_ok-place.place c.in_ok-get.field-0.now refl lookup.3.0 lookup.1 in
    ap (λ (e : Entry). Some e.txn) c.branch.view_is
    ∙ sym (reader_is c.args.entry.now.writes es met c.args.from c.in_ok-place.place c.in_ok-get.field-0.now c.requires.met
    (subst (IsFirst (λ q. list_any (λ e. passes (touched e) (slice_get es q)) (items met)) c.args.from) at c.first_touching.ensures) there)
