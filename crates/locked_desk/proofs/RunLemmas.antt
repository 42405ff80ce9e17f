-- Runs of steps grow step by step.
use Rattle.std.proofs.Common.{◌≡◌, List, [], ◌∷◌, ◌++◌, map, Option, None, Some, Ok, Err, refl, ap, sym, ◌∙◌, subst}
use Rattle.std.proofs.Common.{inl, inr}
use Rattle.std.specs.List.{cons_option, filter_map}
use Rattle.std.proofs.lemmas.List.{append_assoc, append-nil, map-append}
use Rattle.std.proofs.lemmas.List.Elements.{filter_map-append}
use Rattle.txn_commands.specs.declared.command.Command.{Command}
use Rattle.txn_commands.specs.Transactions.{Transaction}
use Rattle.undo_rules.specs.declared.log.Answer.{Answer}
use Rattle.undo_rules.specs.declared.log.Answer.TheVariants as answers
use Rattle.undo_rules.specs.declared.log.Call.{Call}
use Rattle.undo_rules.specs.declared.log.Call.TheVariants as calls
use Rattle.desk_rules.specs.declared.seat_call.SeatCall.{SeatCall}
use Rattle.session_steps.specs.declared.Reply.{Reply}
use Rattle.session_steps.specs.declared.Reply.TheVariants as replies
use Rattle.session_steps.specs.declared.Step.{Step}
use Rattle.session_steps.specs.declared.Step.TheVariants.{Cancel, Commit, Do, Open, Redo, Undo}
use Rattle.session_steps.specs.declared.StepFault.TheVariants as faults
use Rattle.desk_rules.specs.Legal.{Desk}
use Rattle.desk_rules.specs.Seats.{Gains, GainsLogged, Seat, kept_next, next_at}
use Rattle.locked_desk.specs.Desks.{OpensAt, open_call}
use Rattle.locked_desk.specs.Runs.{AreAnswers, BookCall, BookRefuses, CallsNothing, Changes, RanSteps, RunsCommand, SeatedSession, StepsTo}
use Rattle.locked_desk.specs.Runs.{StepsByCancel, StepsByCommand, StepsByCommit, StepsByOpen, asked_commit, logged_reply, asked_open}
use Rattle.locked_desk.specs.Runs.{asked_redo, reply_to_command, asked_undo}

pub ran_push : (d : Desk) (before : SeatedSession) (steps : List Step) (given : List Reply) (mid : SeatedSession) (step : Step)
    (reply : Reply) (after : SeatedSession) → RanSteps d before steps given mid → StepsTo d mid step reply after
    → RanSteps d before (steps ++ step ∷ []) (given ++ reply ∷ []) after
ran_push d before [] [] mid step reply after ran to = (after, subst (λ s. StepsTo d s step reply after) ran to, refl)
ran_push d before [] (r ∷ rs) mid step reply after ran to = absurd ran
ran_push d before (s ∷ ss) [] mid step reply after ran to = absurd ran
ran_push d before (s ∷ ss) (r ∷ rs) mid step reply after ran to =
    (ran.0, ran.1, ran_push d ran.0 ss rs mid step reply after ran.2 to)

-- ---- answers

filter_more : (given : List Reply) (reply : Reply)
    → filter_map logged_reply (given ++ reply ∷ []) ≡ filter_map logged_reply given ++ filter_map logged_reply (reply ∷ [])
filter_more given reply = filter_map-append logged_reply given (reply ∷ [])

-- a step whose reply isn't logged leaves the seat, and one whose reply is adds a call of that answer
pub record GainsSome (old : Seat) (answer : Answer) (new : Seat) : Type 0 where
  pub kept : SeatCall
  pub session : new.session ≡ old.session
  pub own : new.own ≡ old.own ++ kept ∷ []
  pub answered : kept.logged.answer ≡ answer

abbrev pub GainsAny : Option Answer → Seat → Seat → Type 0
GainsAny None old new = new ≡ old
GainsAny (Some answer) old new = GainsSome old answer new

gains_some : (d : Desk) (answer : Answer) (old : Seat) (call : Call) (new : Seat) → Gains d old call answer new → GainsSome old answer new
gains_some d answer old call new gains = record {
  kept = kept_next (next_at old call gains.place) answer;
  session = ap (λ (s : Seat). s.session) gains.gained;
  own = ap (λ (s : Seat). s.own) gains.gained;
  answered = refl;
}

gains_any : (d : Desk) (answer : Option Answer) (old : Seat) (call : Call) (new : Seat) → GainsLogged d answer old call new
    → GainsAny answer old new
gains_any d None old call new gains = gains
gains_any d (Some answer) old call new gains = gains_some d answer old call new gains

opens_some : (d : Desk) (seat : Seat) (work : Transaction) (end : Seat) → OpensAt d seat work end
    → GainsSome seat (answers.Opened work.id.txn) end
opens_some d seat work end opens = record {
  kept = kept_next (open_call seat work) (answers.Opened work.id.txn);
  session = ap (λ (s : Seat). s.session) opens.gained;
  own = ap (λ (s : Seat). s.own) opens.gained;
  answered = refl;
}

stays_any : (answer : Reply) (seat : Seat) (work : Option Transaction) (reply : Reply) (after : SeatedSession)
    → logged_reply answer ≡ None → CallsNothing answer seat work reply after → GainsAny (logged_reply reply) seat after.seat
stays_any answer seat work reply after silent stays =
    subst (λ p. GainsAny p seat after.seat) (sym (ap logged_reply stays.0 ∙ silent)) stays.1

refuses_any : (d : Desk) (seat : Seat) (asked : BookCall) (reply : Reply) (end : Seat)
    → BookRefuses d seat asked reply end → GainsAny (logged_reply reply) seat end
refuses_any d seat asked reply end refused =
    subst (λ p. GainsAny (logged_reply p) seat end) (sym refused.replied)
    (gains_any d (logged_reply (replies.Fault (faults.Book refused.fault))) seat asked.call end refused.gains)

changes_any : (d : Desk) (seat : Seat) (asked : BookCall) (done reply : Reply) (end : Seat)
    → Changes d seat asked done reply end → GainsAny (logged_reply reply) seat end
changes_any d seat asked done reply end (inl is) =
    subst (λ r. GainsAny (logged_reply r) seat end) (sym is.0) (gains_any d (logged_reply done) seat asked.call end is.1)
changes_any d seat asked done reply end (inr refused) = refuses_any d seat asked reply end refused

command_silent : (work : Transaction) (command : _) (reply : Reply) (after : Transaction) → RunsCommand work command reply after
    → logged_reply reply ≡ None
command_silent work command reply after (inr out) = ap logged_reply out.0
command_silent work command reply after (inl is) = ap logged_reply is.0 ∙ by _ where
  by : (answer : _) → logged_reply (reply_to_command answer) ≡ None
  by (Ok done) = refl
  by (Err fault) = refl

by_open : (d : Desk) (seat : Seat) (work : Option Transaction) (reply : Reply) (after : SeatedSession)
    → StepsByOpen d seat work reply after → GainsAny (logged_reply reply) seat after.seat
by_open d seat None reply after (inl o) =
    subst (λ r. GainsAny (logged_reply r) seat after.seat) (sym o.replied) (opens_some d seat o.work after.seat o.opens)
by_open d seat None reply after (inr r) = refuses_any d seat (asked_open seat) reply after.seat r.0
by_open d seat (Some work) reply after to = stays_any (replies.Fault faults.AlreadyOpen) seat (Some work) reply after refl to

by_command : (seat : Seat) (work : Option Transaction) (command : Command) (reply : Reply) (after : SeatedSession)
    → StepsByCommand seat work command reply after → GainsAny (logged_reply reply) seat after.seat
by_command seat None command reply after to = stays_any (replies.Fault faults.NotOpen) seat None reply after refl to
by_command seat (Some work) command reply after to =
    subst (λ p. GainsAny p seat after.seat) (sym (command_silent work command reply to.1 to.2)) to.0

by_commit : (d : Desk) (seat : Seat) (work : Option Transaction) (reply : Reply) (after : SeatedSession)
    → StepsByCommit d seat work reply after → GainsAny (logged_reply reply) seat after.seat
by_commit d seat None reply after to = stays_any (replies.Fault faults.NotOpen) seat None reply after refl to
by_commit d seat (Some work) reply after (inl is) =
    subst (λ p. GainsAny (logged_reply p) seat after.seat) (sym is.replied)
    (gains_some d answers.Committed seat (calls.Commit work.id work.commands) after.seat is.gains)
by_commit d seat (Some work) reply after (inr refuses) = refuses_any d seat (asked_commit seat work) reply after.seat refuses.refused

by_cancel : (seat : Seat) (work : Option Transaction) (reply : Reply) (after : SeatedSession)
    → StepsByCancel seat work reply after → GainsAny (logged_reply reply) seat after.seat
by_cancel seat None reply after to = stays_any (replies.Fault faults.NotOpen) seat None reply after refl to
by_cancel seat (Some work) reply after to = stays_any replies.Cancelled seat None reply after refl to

pub step_gains : (d : Desk) (before : SeatedSession) (step : Step) (reply : Reply) (after : SeatedSession)
    → StepsTo d before step reply after → GainsAny (logged_reply reply) before.seat after.seat
step_gains d before Open reply after to = by_open d before.seat before.work reply after to
step_gains d before (Do command) reply after to = by_command before.seat before.work command reply after to
step_gains d before Commit reply after to = by_commit d before.seat before.work reply after to
step_gains d before Cancel reply after to = by_cancel before.seat before.work reply after to
step_gains d before (Undo txn) reply after to =
    changes_any d before.seat (asked_undo before.seat txn) replies.Undone reply after.seat to.0
step_gains d before (Redo txn) reply after to =
    changes_any d before.seat (asked_redo before.seat txn) replies.Redone reply after.seat to.0

one_answer : (answer : Option Answer) (seat mid end : Seat) (given : List Reply) (reply : Reply) → logged_reply reply ≡ answer
    → AreAnswers seat given mid → GainsAny answer mid end → AreAnswers seat (given ++ reply ∷ []) end
one_answer None seat mid end given reply is are gains = record {
  gained = are.gained;
  session = ap (λ (s : Seat). s.session) gains ∙ are.session;
  own = ap (λ (s : Seat). s.own) gains ∙ are.own;
  answers = filter_more given reply ∙ ap (λ a. filter_map logged_reply given ++ cons_option a []) is
      ∙ append-nil (filter_map logged_reply given) ∙ are.answers;
}
one_answer (Some answer) seat mid end given reply is are gains = record {
  gained = are.gained ++ gains.kept ∷ [];
  session = gains.session ∙ are.session;
  own = gains.own ∙ ap (λ l. l ++ gains.kept ∷ []) are.own ∙ append_assoc seat.own are.gained (gains.kept ∷ []);
  answers = filter_more given reply ∙ ap (λ a. filter_map logged_reply given ++ cons_option a []) is
      ∙ ap (λ l. l ++ answer ∷ []) are.answers ∙ ap (λ a. map (λ (k : SeatCall). k.logged.answer) are.gained ++ a ∷ []) (sym gains.answered)
      ∙ sym (map-append (λ (k : SeatCall). k.logged.answer) are.gained (gains.kept ∷ []));
}

pub answers_push : (d : Desk) (seat : Seat) (mid : SeatedSession) (given : List Reply) (step : Step) (reply : Reply)
    (after : SeatedSession) → AreAnswers seat given mid.seat → StepsTo d mid step reply after
    → AreAnswers seat (given ++ reply ∷ []) after.seat
answers_push d seat mid given step reply after are to =
    one_answer (logged_reply reply) seat mid.seat after.seat given reply refl are (step_gains d mid step reply after to)

-- a command of an open transaction
pub steps_do : (d : Desk) (held : Option Transaction) (seat : Seat) (step : Step) (work next : Transaction) (command : Command)
    (reply : Reply) → held ≡ Some work → step ≡ Do command → RunsCommand work command reply next
    → StepsTo d (record { seat = seat; work = held }) step reply (record { seat = seat; work = Some next })
steps_do d held seat step work next command reply held-is step-is runs =
    let after : SeatedSession = record { seat = seat; work = Some next } in
    subst (λ (h : Option Transaction). StepsTo d (record { seat = seat; work = h }) step reply after) (sym held-is)
    (subst (λ (s : Step). StepsTo d (record { seat = seat; work = Some work }) s reply after) (sym step-is) (refl, next, runs, refl))
