use Rattle.std.proofs.Common.{◌∙◌, subst, sym}
use Rattle.std.specs.List.Sorted.{IsStrictlySortedBy}
use Rattle.std.specs.Map.{keys_of}
use Rattle.lay_items.specs.Runs.{MarkList, mark_cmp}
use Rattle.lay_items.proofs.MarkLemmas.{same_there}
use Rattle.lay_items.proofs.marks.with.Goals as goal

pub returns-then-is_some : goal.returns-then-is_some
returns-then-is_some c =
    same_there c.args.mark c.args.marks c.get.result c.get.ensures (sym c.is_some.ensures ∙ c.if-is_some.true)
    (subst (λ (ms : MarkList). IsStrictlySortedBy mark_cmp (keys_of ms)) c.marks.view_is c.marks.invariant.kept.sorted)
