use Rattle.std.proofs.Common.{ap, inr, refl, subst, ◌∙◌}
use Rattle.undo_rules.specs.declared.log.Call.TheVariants.{Commit}
use Rattle.desk_rules.specs.Seats.{GainsLogged}
use Rattle.locked_desk.specs.declared.fault.DeskFault.{DeskFault}
use Rattle.locked_desk.specs.declared.fault.DeskRefusal.{DeskRefusal}
use Rattle.locked_desk.specs.Desks.{IsRefusedAs, commit_fault, fault_answer, work_back}
use Rattle.locked_desk.proofs.steps.commit.Goals as goal

pub returns-in-Book : goal.returns-in-Book
returns-in-Book g c =
    let work = c.args.work in
    let seat = c.args.seat.now in
    inr (record {
      refused = record {
        fault = c.in-Book.fault;
        replied = refl;
        gains = subst (λ (f : DeskFault). GainsLogged c.args.desk.now (fault_answer f) seat (Commit work.id work.commands)
            c.commit.new.seat) c.in-Book.is c.in-Err.ensures.gains;
        cause = subst (λ (f : DeskFault). IsRefusedAs c.args.desk.now seat (commit_fault seat.session work) f) c.in-Book.is
            c.in-Err.ensures.refused;
      };
      back = ap (λ (r : DeskRefusal). r.work) c.in-Err.ensures.back ∙ ap (λ (f : DeskFault). work_back f work) c.in-Book.is;
    })
