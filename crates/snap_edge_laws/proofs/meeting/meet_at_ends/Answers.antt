use Rattle.std.proofs.Common.{Decides}
use Rattle.snap_edge_laws.specs.Meeting.{MeetAtEnds}
use Rattle.snap_edge_laws.proofs.meeting.meet_at_ends.Goals as goal

pub returns : goal.returns
returns c =
    coe 0 1 (i. Decides c.ends_meet.result (MeetAtEnds (c.low.ensures.value i, c.high.ensures.value i)
    (c.low-2.ensures.value i, c.high-2.ensures.value i)))
    c.ends_meet.ensures
