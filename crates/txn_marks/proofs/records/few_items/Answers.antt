use Rattle.std.proofs.Common.{◌≡◌, ◌∙◌, [], ◌∷◌, Some, ap, length, rules, slice_get, sym}
use Rattle.txn_marks.proofs.FewLemmas.{sole}
use Rattle.txn_marks.proofs.records.few_items.Goals as goal

pub returns : goal.returns
returns c =
    let entries = c.args.items.now.entries in
    let first : slice_get entries 0 ≡ Some (c.in-Some.id.now, c.in-Some.change.now) = search rules in
    let one : length entries ≡ 1 = search rules in
    let same : c.in_ok-clone.field-0 ≡ c.in-Some.change.now = search rules in
    c.one.ensures ∙ ap (λ x. (c.in-Some.id.now, x) ∷ []) same ∙ sym (sole entries (c.in-Some.id.now, c.in-Some.change.now) one first)
