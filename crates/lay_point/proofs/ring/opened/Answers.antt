use Rattle.std.proofs.Common.{◌≤◌, length, pos, arith, rules}
use Rattle.std.proofs.lemmas.Grind.{common_steps}
use Rattle.lay_point.proofs.RingLemmas.{opened_is}
use Rattle.lay_point.proofs.ring.opened.Goals as goal

pub returns-then-eq : goal.returns-then-eq
returns-then-eq c =
    let two : 2 ≤ length c.args.path.items = search rules in
    let e = opened_is c.args.path.items (record { x = pos 0; y = pos 0 }) two in
    grind (arith, common_steps)

pub returns-else-eq : goal.returns-else-eq
returns-else-eq c =
    let two : 2 ≤ length c.args.path.items = search rules in
    let e = opened_is c.args.path.items (record { x = pos 0; y = pos 0 }) two in
    grind (arith, common_steps)
