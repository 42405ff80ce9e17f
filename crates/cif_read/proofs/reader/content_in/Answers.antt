use Rattle.std.proofs.Common.{rules, refl, ◌≡◌, ◌+◌, ◌∙◌, length, Ok, Some, None, arith, sym, ap, inr, take, true, false}
use Rattle.std.proofs.lemmas.List.{take_rest}
use Rattle.std.proofs.lemmas.Result.{err_from_is_err_and}
use Rattle.cif_grammar.specs.Bytes.{is_gap, skip}
use Rattle.cif_grammar.specs.Cutting.{Breaks, CommandOf, EndOf, behind_command, command_len, offset_of}
use Rattle.cif_grammar.proofs.CutLemmas.{length-behind_command, length-skip, some_bytes}
use Rattle.cif_read.specs.Content.{empty_content}
use Rattle.cif_read.specs.Kept.{IsKept}
use Rattle.cif_read.specs.Meaning.{after_bytes, begins_with_end, content_in, no_memory}
use Rattle.cif_read.proofs.MeaningLemmas.{at_end_keeps, end_parts, fault_wanted, front_breaks}
use Rattle.cif_read.proofs.MeaningLemmas.{front_command, front_end, rest_means, start_means, value_wanted, whole_means}
use Rattle.cif_read.proofs.PieceFacts.{kept_step}
use Rattle.cif_read.proofs.StepFacts.{start_kept}
use Rattle.cif_read.proofs.reader.content_in.Goals as goal

pub loop-alloc-init : goal.loop-alloc-init
loop-alloc-init c =
    let begun : c.new-content.result ≡ empty_content = c.new-content.ensures in
    rw (c.skip-rest.ensures, begun) (record {
      means = start_means c.args.text.now;
      few = omega (arith, length-skip is_gap c.args.text.now);
      kept = start_kept;
    })

pub returns-in_default-clause-answer : goal.returns-in_default-clause-answer
returns-in_default-clause-answer c =
    let rest = c.loop-alloc.rest.now in
    let total = length c.args.text.now in
    let no_end : begins_with_end rest ≡ false = search rules in
    let none : command_len rest ≡ None = search rules in
    inr (sym (whole_means c.loop-alloc.content total rest (EndOf (Breaks (offset_of total rest))) _ (front_breaks total rest no_end none)
    c.loop-alloc.invariant.means))

pub returns-in_err-apply-clause-answer : goal.returns-in_err-apply-clause-answer
returns-in_err-apply-clause-answer c =
    let p = err_from_is_err_and c.from_residual.result c.from_residual.ensures.1 in
    let rest = c.loop-alloc.rest.now in
    let total = length c.args.text.now in
    let no_end : begins_with_end rest ≡ false = search rules in
    let some : command_len rest ≡ Some c.in-Some.len = search rules in
    let whole = whole_means c.loop-alloc.content total rest (CommandOf c.in-Some.len) _ (front_command total rest c.in-Some.len no_end some)
    c.loop-alloc.invariant.means in
    rw (p.1, p.2) (fault_wanted no_memory c.in_err-apply.field-0.0 _ (content_in c.args.text.now) (λ f e. whole ∙ rw e refl)
    c.in_err-apply.ensures)

pub loop-alloc-preserved : goal.loop-alloc-preserved
loop-alloc-preserved c =
    let rest = c.loop-alloc.rest.now in
    let total = length c.args.text.now in
    let len = c.in-Some.len in
    let no_end : begins_with_end rest ≡ false = search rules in
    let some : command_len rest ≡ Some len = search rules in
    let front = front_command total rest len no_end some in
    let next : after_bytes c.loop-alloc.content (offset_of total rest) (take len rest) ≡ Ok c.apply.new.content =
    value_wanted no_memory c.apply.new.content _ c.in_ok-apply.ensures in
    let behind : c.skip-rest-in-loop-alloc.result.now ≡ behind_command len rest =
    c.skip-rest-in-loop-alloc.ensures ∙ ap (skip is_gap) (take_rest rest (len + 1)) in
    let whole : content_in c.args.text.now ≡ rest_means c.apply.new.content total (behind_command len rest) =
    whole_means c.loop-alloc.content total rest _ _ front c.loop-alloc.invariant.means ∙ rw next refl in
    let shorter = length-behind_command len rest (some_bytes total rest len front) in
    let step = (kept_step c.loop-alloc.content c.apply.new.content (offset_of total rest) (take len rest)
    c.loop-alloc.invariant.kept next).1 in
    rw behind (record {
      means = sym whole;
      few = omega (arith, step.count, shorter, c.loop-alloc.invariant.few);
      kept = step.kept c.loop-alloc.invariant.kept;
    })

pub returns-clause-answer : goal.returns-clause-answer
returns-clause-answer c =
    let rest = c.loop-alloc.rest.now in
    let total = length c.args.text.now in
    let ends : begins_with_end rest ≡ true = search rules in
    let parts = end_parts rest ends in
    let whole = whole_means c.loop-alloc.content total rest _ _ (front_end total rest parts.0 parts.1) c.loop-alloc.invariant.means in
    inr (c.ended.ensures parts.0 parts.1 ∙ sym whole)

pub returns-clause-kept : goal.returns-clause-kept
returns-clause-kept c =
    let ends : begins_with_end c.loop-alloc.rest.now ≡ true = search rules in
    let parts = end_parts c.loop-alloc.rest.now ends in
    at_end_keeps IsKept c.loop-alloc.content _ _ c.ended.result (c.ended.ensures parts.0 parts.1) c.loop-alloc.invariant.kept
