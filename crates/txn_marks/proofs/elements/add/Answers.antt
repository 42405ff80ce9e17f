use Rattle.std.proofs.Common.{◌≡◌, ◌-◌, ◌∙◌, true, ap, drop, length, sym, take}
use Rattle.std.specs.FinSet.{from_list, from_list_push}
use Rattle.std.specs.List.{list_any}
use Rattle.txn_commands.specs.Elements.{element_cmp, element_eq, elements_exact, elements_total}
use Rattle.txn_marks.proofs.SetLemmas.{part_already}
use Rattle.txn_marks.proofs.elements.add.Goals as goal

pub returns-then-contains : goal.returns-then-contains
returns-then-contains c =
    let list = c.args.met.now.items in
    let n = c.saturating_sub.result in
    let there : list_any (λ y. element_eq y c.args.element) (take (length list - n) (drop n list)) ≡ true =
    ap (λ xs. list_any (λ y. element_eq y c.args.element) (take (length xs - n) (drop n xs))) (sym c.deref.ensures.value)
    ∙ sym c.contains.ensures.value ∙ c.if-contains.true in
    part_already elements_total elements_exact list (length list - n) n c.args.element there

pub returns : goal.returns
returns c =
    ap (from_list {R = element_cmp}) c.in_ok-push.ensures.items
    ∙ from_list_push elements_total elements_exact c.args.met.now.items c.args.element
