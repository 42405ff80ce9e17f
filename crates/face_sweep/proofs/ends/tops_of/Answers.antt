use Rattle.std.proofs.Common.{subst}
use Rattle.face_sweep.specs.Ends.{AreFlagged}
use Rattle.face_sweep.proofs.EndLemmas.{are_tops}
use Rattle.face_sweep.proofs.ends.tops_of.Goals as goal

pub returns : goal.returns
returns c =
    let flags = c.in_ok-flags.flags.items in
    let tops = c.in_ok-tops.tops.items in
    are_tops c.args.edges.now c.args.order.now c.requires flags tops c.in_ok-flags.ensures.len c.in_ok-flags.ensures.flags
    (subst (λ fs. AreFlagged fs tops) c.as_slice.ensures.value c.in_ok-tops.ensures)
