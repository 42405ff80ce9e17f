use Rattle.std.specs.Prelude.{◌≡◌, take}
use Rattle.locked_desk.proofs.calls.copied.Given as goal

abbrev pub invariant-loop-command : goal.invariant-loop-command
invariant-loop-command l = l.copy.items ≡ take l.command-index l.commands
