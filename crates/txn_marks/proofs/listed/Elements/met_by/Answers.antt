use Rattle.std.proofs.Common.{◌∙◌, ap}
use Rattle.std.specs.FinSet.{contains, from_list}
use Rattle.txn_commands.specs.Elements.{Touched, element_cmp}
use Rattle.txn_marks.proofs.OnceLemmas.{same_elements}
use Rattle.txn_marks.proofs.listed.Elements.met_by.Goals as goal

pub returns : goal.returns
returns c e =
    ap (λ (s : Touched). contains s e)
    (ap (from_list {R = element_cmp}) c.of-list.ensures
    ∙ same_elements c.in_ok-list.list.items c.sort_unstable.new.self.items c.dedup.new.self.items c.sort_unstable.ensures.permutation
    c.dedup.ensures.filtered)
    ∙ c.in_ok-list.ensures e
