use Rattle.std.proofs.Common.{◌∙◌, subst, sym}
use Rattle.std.specs.List.Sorted.{IsStrictlySortedBy}
use Rattle.std.specs.Map.{keys_of}
use Rattle.lay_items.specs.Runs.{MarkList, mark_cmp}
use Rattle.lay_items.proofs.MarkLemmas.{same_gone}
use Rattle.lay_items.proofs.marks.without.Goals as goal
use Rattle.lay_items.proofs.marks.without.Goals.{then-is_some+in_ok-new, else-is_some+in_ok-new-2}

pub returns : goal.returns
returns c = elim c.if-is_some.branch [
  | then-is_some+in_ok-new w ↦ w.new-is ∙ w.in_ok-new.ensures.entries
  | else-is_some+in_ok-new-2 w ↦
      let kept = w.in_ok-new-2.ensures.entries in
      w.new-is ∙ kept ∙ same_gone c.args.mark c.args.marks.now c.get.result c.get.ensures (sym c.is_some.ensures ∙ w.if-is_some.false)
      (subst (λ (ms : MarkList). IsStrictlySortedBy mark_cmp (keys_of ms)) kept w.in_ok-new-2.ensures.sorted)
]
