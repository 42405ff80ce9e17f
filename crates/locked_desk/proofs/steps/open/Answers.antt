use Rattle.std.proofs.Common.{ap, inl, refl}
use Rattle.txn_commands.specs.declared.command.TxnId.{TxnId}
use Rattle.session_steps.specs.declared.Reply.TheVariants.{Opened}
use Rattle.locked_desk.proofs.steps.open.Goals as goal

pub returns-in-Ok : goal.returns-in-Ok
returns-in-Ok g c = inl (record {
  work = c.in-Ok.work;
  replied = ap (λ (t : TxnId). Opened t.txn) c.id.ensures.value;
  holds = refl;
  opens = c.in-Ok.ensures.opens;
})
