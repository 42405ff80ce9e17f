use Rattle.std.proofs.Common.{◌≡◌, Ok}
use Rattle.std.proofs.lemmas.Result.{err_from_is_err_and}
use Rattle.cif_read.specs.Meaning.{content_in, no_memory}
use Rattle.cif_read.proofs.MeaningLemmas.{value_wanted}
use Rattle.cif_read.proofs.ReadAnswers.{accepted_answer, bound_answer, complete_answer, faulty}
use Rattle.cif_read.proofs.reader.read.Goals as goal

pub returns-in_err-content-clause-complete : goal.returns-in_err-content-clause-complete
returns-in_err-content-clause-complete c =
    let p = err_from_is_err_and c.from_residual.result c.from_residual.ensures.1 in
    rw (p.1, p.2) (λ commands reads _. complete_answer c.args.text.now _ commands
    (faulty c.args.text.now c.in_err-content.field-0.0 c.in_err-content.ensures.answer) reads)

pub returns-clause-accepted : goal.returns-clause-accepted
returns-clause-accepted c =
    let means : content_in c.args.text.now ≡ Ok c.in_ok-content.content =
    value_wanted no_memory c.in_ok-content.content _ c.in_ok-content.ensures.answer in
    accepted_answer c.args.text.now c.in_ok-content.content c.bound.result means c.bound.ensures

pub returns-clause-complete : goal.returns-clause-complete
returns-clause-complete c =
    let means : content_in c.args.text.now ≡ Ok c.in_ok-content.content =
    value_wanted no_memory c.in_ok-content.content _ c.in_ok-content.ensures.answer in
    λ commands reads _. complete_answer c.args.text.now c.bound.result commands
    (bound_answer c.args.text.now c.in_ok-content.content c.bound.result means c.bound.ensures) reads
