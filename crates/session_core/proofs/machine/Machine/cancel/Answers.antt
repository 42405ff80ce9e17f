use Rattle.std.proofs.Common.{◌≤◌, length, arith}
use Rattle.std.proofs.lemmas.Bool.Decides.{nat_tests}
use Rattle.session_core.proofs.MachineLemmas.{cancelled}
use Rattle.session_core.proofs.machine.Machine.cancel.Goals as goal

pub invariant_of-self : goal.invariant_of-self
invariant_of-self c =
    let low : 1 ≤ c.args.session = grind (arith, nat_tests) in
    let high : c.args.session ≤ length c.self.inside.works.items = grind (arith, nat_tests) in
    cancelled c.self.inside.book c.self.inside.works.items c.index-place.result c.self.invariant
    (omega (arith, low, high, c.index-place.ensures.value))
