use Rattle.std.proofs.Common.{◌≡◌, ◌∙◌, ◌++◌, [], List, Some, ap, length, rules, slice_get, sym}
use Rattle.std.specs.FinSet.{from_list}
use Rattle.std.proofs.lemmas.List.{append-nil}
use Rattle.txn_commands.specs.declared.element.Element.{Element}
use Rattle.txn_commands.specs.Elements.{Touched, element_cmp}
use Rattle.txn_marks.proofs.FewLemmas.{sole}
use Rattle.txn_marks.proofs.listed.Elements.of.Goals as goal

abbrev set_of : List Element → Touched
set_of xs = from_list {R = element_cmp} xs

pub loop-element-init : goal.loop-element-init
loop-element-init c =
    let none : c.in_ok-list.list.items ≡ [] = search rules in
    let keys : c.into_iter-element-iterator.result ≡ c.elements-tree.result.now.keys = search rules in
    ap (λ xs. set_of (xs ++ c.into_iter-element-iterator.result)) none ∙ ap set_of keys ∙ c.elements-tree.ensures

pub returns : goal.returns
returns c =
    let keys = c.elements-tree.result.now.keys in
    let first : slice_get keys 0 ≡ Some c.in-Some.element.now = search rules in
    let one : length keys ≡ 1 = search rules in
    ap set_of (c.one-list.ensures ∙ sym (sole keys c.in-Some.element.now one first)) ∙ c.elements-tree.ensures

pub returns-2 : goal.returns-2
returns-2 c =
    let list = c.loop-element.list.items in
    ap set_of (c.of-list.ensures ∙ sym (append-nil list)) ∙ ap (λ xs. set_of (list ++ xs)) (sym c.in-None.ensures.steps.0)
    ∙ c.loop-element.invariant
