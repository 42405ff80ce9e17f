use Rattle.std.proofs.Common.{rules}
use Rattle.txn_commands.proofs.Exact.{command_exact}
use Rattle.txn_work.proofs.work.Work.known_refusal.Goals as goal

-- this command equals the one that was refused
pub returns-in-Some : goal.returns-in-Some
returns-in-Some c =
    let exact = command_exact in
    let kept = c.self.invariant.refused in
    let seen = c.self.view_is in
    search rules
