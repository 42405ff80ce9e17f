use Rattle.std.proofs.Common.{◌≡◌, ◌-◌, ◌≤◌, length, arith, rules}
use Rattle.std.proofs.lemmas.Bool.Decides.{nat_tests}
use Rattle.session_core.proofs.MachineLemmas.{open_err, opened, state_as}
use Rattle.session_core.proofs.machine.Machine.open.Goals as goal

pub invariant_of-self : goal.invariant_of-self
invariant_of-self c =
    let session = c.number.result in
    let low : 1 ≤ session = grind (arith, nat_tests) in
    let high : session ≤ length c.self.inside.works.items = grind (arith, nat_tests) in
    let place : c.index-place.result ≡ session - 1 = search rules in
    rw place (opened c.self.inside.book c.open.new.self c.self.inside.works.items session c.in-Ok.work
    c.self.invariant low high c.in-Ok.ensures.step)

pub invariant_of-self-in-Err : goal.invariant_of-self-in-Err
invariant_of-self-in-Err c =
    state_as c.self.inside.book c.open.new.self c.self.inside.works.items c.self.invariant
    (open_err c.self.inside.book c.open.new.self c.number.result c.in-Err.fault c.in-Err.ensures.step)
