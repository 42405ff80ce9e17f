use Rattle.std.proofs.Common.{◌≡◌, ◌∙◌, Err, None, Some, ap, rules, subst, sym}
use Rattle.std.specs.Prelude.{IfErr, ◌≢◌}
use Rattle.undo_rules.specs.declared.log.BookFault.TheVariants.{NoMemory}
use Rattle.undo_rules.specs.Books.{History}
use Rattle.undo_rules.specs.Steps.{redo_refusal}
use Rattle.undo_book.specs.Books.{history_of}
use Rattle.undo_book.proofs.FoundLemmas.{redo_answer, redo_refusal_none}
use Rattle.undo_book.proofs.SoundLemmas.{kept_found}
use Rattle.undo_book.proofs.book.Book.redo_place.Goals as goal

pub redo_met-requires-clause-found : goal.redo_met-requires-clause-found
redo_met-requires-clause-found c =
    kept_found (history_of c.self.inside) c.self.inside.places.entries c.deref.result.now c.self.invariant.history
    c.self.invariant.places c.deref.ensures.value

pub returns-in_default-clause-refused : goal.returns-in_default-clause-refused
returns-in_default-clause-refused c _ = redo_refusal_none c.args.self.now c.args.txn (sym c.place_of.ensures.value ∙ c.in_default.is)

pub returns-in_err-met-clause-refused : goal.returns-in_err-met-clause-refused
returns-in_err-met-clause-refused c =
    let fault = c.in_err-met.field-0.0 in
    let failed : c.from_residual.result ≡ Err fault = search rules in
    subst (λ r. IfErr r (λ f. f ≢ NoMemory → redo_refusal c.args.self.now c.args.txn ≡ Some f)) (sym failed)
    (λ other. redo_answer c.args.self.now c.args.txn c.in-Some.place c.deref.result.now (Some fault) c.in-Some.ensures.value
    (c.deref.ensures.value ∙ ap (λ (h : History). h.entries) c.self.view_is) (sym (c.in_err-met.ensures.refused other)))

pub returns-clause-free : goal.returns-clause-free
returns-clause-free c =
    redo_answer c.args.self.now c.args.txn c.in-Some.place c.deref.result.now None c.in-Some.ensures.value
    (c.deref.ensures.value ∙ ap (λ (h : History). h.entries) c.self.view_is) (sym c.in_ok-met.ensures.free)
