use Rattle.std.proofs.Common.{rules}
use Rattle.snap_edge_laws.proofs.Tests.{IsEndpoint-Decides}
use Rattle.snap_edge_laws.proofs.meeting.is_end.Goals as goal

pub returns-else-eq : goal.returns-else-eq
returns-else-eq c = IsEndpoint-Decides c.args.v c.args.c c.args.d c.eq-else-eq.result (search rules) (search rules)
