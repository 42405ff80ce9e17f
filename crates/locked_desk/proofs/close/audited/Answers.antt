use Rattle.std.proofs.Common.{rules, ◌≡◌, List, length, ◌∙◌}
use Rattle.desk_rules.specs.Seats.{Seat}
use Rattle.desk_rules.proofs.CloseLemmas.{put_back}
use Rattle.locked_desk.proofs.close.audited.Goals as goal

pub returns-clause-seats : goal.returns-clause-seats
returns-clause-seats g c =
    let seats : List Seat = c.args.seats.items in
    let same : c.as_mut_slice.result.now ≡ seats = search rules in
    let lent : c.audit_all.new.seats ≡ seats = c.audit_all.ensures.seats ∙ same in
    let len : c.args.seats.len ≡ length seats = search rules in
    put_back c.args.seats.len c.audit_all.new.seats seats lent len
