use Rattle.std.proofs.Common.{rules}
use Rattle.locked_desk.proofs.GuardedLemmas.{new_guard}
use Rattle.locked_desk.proofs.guarded.fresh_guard.Goals as goal

pub invariant_of-result : goal.invariant_of-result
invariant_of-result g c =
    new_guard c.args.sessions c.args.book c.args.limit c.args.counts.items c.args.calls.total (search rules) c.requires.book
    c.requires.counts
    c.requires.calls
