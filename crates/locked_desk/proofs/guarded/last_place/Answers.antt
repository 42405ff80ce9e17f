use Rattle.std.proofs.Common.{◌∙◌, sym, ap}
use Rattle.std.specs.Prelude.{option_copied}
use Rattle.desk_rules.specs.Seats.{place_or_zero}
use Rattle.desk_rules.proofs.OwnLemmas.{last_as}
use Rattle.locked_desk.proofs.guarded.last_place.Goals as goal

pub returns-in-Some : goal.returns-in-Some
returns-in-Some c =
    ap place_or_zero (sym (ap option_copied c.in-Some.is) ∙ c.last.ensures.value ∙ last_as c.args.own.now)
