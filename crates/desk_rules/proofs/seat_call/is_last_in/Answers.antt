use Rattle.std.proofs.Common.{◌∙◌, sym, ap}
use Rattle.std.specs.Prelude.{option_copied}
use Rattle.desk_rules.specs.Seats.{is_last_in}
use Rattle.desk_rules.proofs.OwnLemmas.{last_as}
use Rattle.desk_rules.proofs.seat_call.is_last_in.Goals as goal

pub returns-in-Some : goal.returns-in-Some
returns-in-Some c =
    c.is_in.ensures ∙ ap (is_last_in c.args.log.now) (sym (ap option_copied c.in-Some.is) ∙ c.last.ensures.value ∙ last_as c.args.own.now)
