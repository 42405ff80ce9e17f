use Rattle.std.proofs.Common.{◌≡◌, ◌+◌, ◌++◌, ◌∷◌, [], Ok, false, Result, ap, rules, refl, subst, sym, ◌∙◌}
use Rattle.std.specs.Prelude.{IfSome}
use Rattle.txn_commands.specs.declared.command.Done.{Done}
use Rattle.txn_commands.specs.declared.fault.CmdFault.{CmdFault}
use Rattle.txn_commands.specs.Acts.{Act}
use Rattle.txn_commands.specs.Effects.{is_too_much, next_id, perform}
use Rattle.txn_commands.specs.Elements.{with_elements}
use Rattle.txn_commands.specs.Plans.{plan}
use Rattle.txn_commands.specs.Records.{records_between}
use Rattle.txn_commands.specs.Transactions.{Transaction}
use Rattle.txn_commands.specs.Writing.{rewritten}
use Rattle.txn_work.specs.Answers.{after_command, run_so_far, with_command}
use Rattle.txn_work.specs.Works.{MatchesItsRun, transaction_of}
use Rattle.txn_work.proofs.Kept.{after_is, answer_is, next_kept, next_layout, performed, room_left, same_whole, writes_so_far}
use Rattle.txn_work.proofs.work.Work.perform.Goals as goal

-- the act's answer is the command's
pub returns-clause-done : goal.returns-clause-done
returns-clause-done c =
    ap (λ (a : Act). (let r : Result Done CmdFault = Ok a.done in r)) c.act.view_is
    ∙ sym (answer_is c.args.self.now c.args.command c.args.act c.requires.planned c.requires.room)

-- each part is what the act leaves there
pub invariant_of-self-2 : goal.invariant_of-self-2
invariant_of-self-2 c =
    let old = transaction_of c.self.inside in
    let same : old ≡ c.args.self.now = c.self.view_is in
    let next : Transaction = record {
      id = c.self.inside.id;
      opened = c.self.inside.opened;
      snapshot = c.self.inside.snapshot;
      commands = c.push.new.self.items;
      writes = c.mark.new.writes;
      footprint = c.mark.new.footprint;
    } in
    let act = c.args.act in
    let commands : next.commands ≡ old.commands ++ c.args.command ∷ [] = search rules in
    let elements : c.deref.result.now ≡ act.elements = search rules in
    let footprint : next.footprint ≡ with_elements old.footprint act.elements = search rules in
    let writes : next.writes ≡ records_between old.snapshot (rewritten (run_so_far old).layout act.items act.symbols) =
    c.in_ok-mark.ensures.writes (run_so_far old).layout (writes_so_far old c.self.inside.made c.self.invariant.kept)
    ∙ ap (λ (a : Act). records_between old.snapshot (rewritten (run_so_far old).layout a.items a.symbols)) c.act.view_is in
    let planned : plan (next_id old.id (run_so_far old)) c.args.command (run_so_far old).layout ≡ Ok act =
    subst (λ (t : Transaction). plan (next_id t.id (run_so_far t)) c.args.command (run_so_far t).layout ≡ Ok act) (sym same)
    c.requires.planned in
    let room : is_too_much (run_so_far old) act ≡ false =
    subst (λ (t : Transaction). is_too_much (run_so_far t) act ≡ false) (sym same) c.requires.room in
    let more : c.made_after-more.result ≡ c.self.inside.made + act.made = search rules in
    let is : next ≡ with_command old c.args.command (perform (run_so_far old) act) =
    performed old next c.self.inside.made c.args.command act c.self.invariant.kept refl refl refl commands writes footprint in
    let few = room_left old c.self.inside.made c.made_after-more.result act c.self.invariant.kept room more in
    let layout : (run_so_far next).layout ≡ rewritten (run_so_far old).layout act.items act.symbols =
    ap (λ (t : Transaction). (run_so_far t).layout) is
    ∙ next_layout old c.self.inside.made c.made_after-more.result c.args.command act c.self.invariant.kept planned room more few in
    record {
      kept = subst (λ (t : Transaction). MatchesItsRun t c.made_after-more.result) (sym is)
          (next_kept old c.self.inside.made c.made_after-more.result c.args.command act c.self.invariant.kept planned room more few);
      whole = same_whole c.whole_after-whole.result layout
          (subst (λ (t : Transaction). IfSome c.whole_after-whole.result
          (λ l. l ≡ rewritten (run_so_far t).layout act.items act.symbols)) (sym same) c.whole_after-whole.ensures);
      refused = tt;
      marks = tt;
    }

pub returns-clause-ok : goal.returns-clause-ok
returns-clause-ok c =
    let old = transaction_of c.self.inside in
    let same : old ≡ c.args.self.now = c.self.view_is in
    let next : Transaction = record {
      id = c.self.inside.id;
      opened = c.self.inside.opened;
      snapshot = c.self.inside.snapshot;
      commands = c.push.new.self.items;
      writes = c.mark.new.writes;
      footprint = c.mark.new.footprint;
    } in
    let act = c.args.act in
    let commands : next.commands ≡ old.commands ++ c.args.command ∷ [] = search rules in
    let elements : c.deref.result.now ≡ act.elements = search rules in
    let footprint : next.footprint ≡ with_elements old.footprint act.elements = search rules in
    let writes : next.writes ≡ records_between old.snapshot (rewritten (run_so_far old).layout act.items act.symbols) =
    c.in_ok-mark.ensures.writes (run_so_far old).layout (writes_so_far old c.self.inside.made c.self.invariant.kept)
    ∙ ap (λ (a : Act). records_between old.snapshot (rewritten (run_so_far old).layout a.items a.symbols)) c.act.view_is in
    let planned : plan (next_id old.id (run_so_far old)) c.args.command (run_so_far old).layout ≡ Ok act =
    subst (λ (t : Transaction). plan (next_id t.id (run_so_far t)) c.args.command (run_so_far t).layout ≡ Ok act) (sym same)
    c.requires.planned in
    let room : is_too_much (run_so_far old) act ≡ false =
    subst (λ (t : Transaction). is_too_much (run_so_far t) act ≡ false) (sym same) c.requires.room in
    let is : next ≡ with_command old c.args.command (perform (run_so_far old) act) =
    performed old next c.self.inside.made c.args.command act c.self.invariant.kept refl refl refl commands writes footprint in
    is ∙ sym (after_is old c.args.command act planned room) ∙ ap (λ (t : Transaction). after_command t c.args.command) same
