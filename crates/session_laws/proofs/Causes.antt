-- Why steps of sessions in threads are refused, where the refusal isn't logged.
use Rattle.std.proofs.Common.{◌≡◌, ◌⊎◌, ℕ, ◌+◌, ◌==◌, Bool, true, false, cond, List, [], ◌∷◌, length, Option, None, Some, Ok, Err}
use Rattle.std.proofs.Common.{zero, suc, refl, ap, sym, ◌∙◌, subst, inl, inr, arith}
use Rattle.std.specs.List.{AllByRecursion, Contains}
use Rattle.std.proofs.lemmas.List.{length-append}
use Rattle.std.proofs.lemmas.List.Elements.{Contains-append_cases}
use Rattle.txn_commands.specs.declared.command.Command.{Command}
use Rattle.txn_commands.specs.Transactions.{Transaction}
use Rattle.undo_rules.specs.declared.log.Answer.{Answer}
use Rattle.undo_rules.specs.declared.log.BookFault.{BookFault}
use Rattle.undo_rules.specs.declared.log.BookFault.TheVariants.{Foreign, LogFull}
use Rattle.undo_rules.specs.declared.log.Call.{Call}
use Rattle.undo_rules.specs.Books.{History}
use Rattle.undo_rules.specs.Steps.{commit_step, is_log_full}
use Rattle.session_steps.specs.declared.Reply.{Reply}
use Rattle.session_steps.specs.declared.Reply.TheVariants.{Fault}
use Rattle.session_steps.specs.declared.Step.{Step}
use Rattle.session_steps.specs.declared.Step.TheVariants.{Cancel, Commit, Do, Open, Redo, Undo}
use Rattle.session_steps.specs.declared.StepFault.TheVariants.{Book}
use Rattle.desk_rules.specs.Close.{empty_seats}
use Rattle.desk_rules.specs.Legal.{Desk, IsFrom, on_base}
use Rattle.desk_rules.specs.Refusals.{IsRefused, fault_in, open_fault, redo_fault, undo_fault}
use Rattle.desk_rules.specs.Seats.{Seat, calls_added}
use Rattle.desk_rules.proofs.RefusalLemmas.{commit_full, open_full, open_own, redo_full, redo_own, undo_full, undo_own}
use Rattle.locked_desk.specs.Desks.{commit_fault, full_or_foreign}
use Rattle.locked_desk.specs.Runs.{AllRan, BookRefuses, Changes, RanSteps, RunsCommand, SeatedSession, StepsTo, logged_reply}
use Rattle.locked_desk.specs.Runs.{StepsByCancel, StepsByCommand, StepsByCommit, StepsByOpen, reply_to_command}
use Rattle.locked_desk.specs.Scripts.{desk_for, desk_scripts}
use Rattle.locked_desk.proofs.RunLemmas.{GainsAny, step_gains}
use Rattle.session_laws.specs.Logs.{AllAreForCause, AreForCause, IsForCause, IsFull, ThreadsAreRefusedForCause}

-- ---- a step

-- what the book refused, where a reply is that
abbrev book_fault : Reply → Option BookFault
book_fault (Fault (Book fault)) = Some fault
book_fault reply = None

quiet : (d : Desk) (session calls : ℕ) (step : Step) (reply : Reply) → book_fault reply ≡ None → IsForCause d session calls step reply
quiet d session calls step reply none = record {
  full = λ is. let e : None ≡ Some LogFull = sym none ∙ ap book_fault is in absurd cc;
  foreign = λ is. let e : None ≡ Some Foreign = sym none ∙ ap book_fault is in absurd cc;
}

module _ (d : Desk) (seat : Seat) (asked : History → Option BookFault) where
  full_for : ((h : History) → asked h ≡ Some LogFull → is_log_full h ≡ true) → IsRefused d seat asked LogFull
      → IsFull d seat.session (length seat.own)
  full_for full (inl out) = absurd cc
  full_for full (inr refuses) = record {
    history = refuses.history;
    legal = subst (λ base. IsFrom (on_base base d) refuses.history) (refuses.own refl) refuses.legal;
    count = refuses.count;
    full = full refuses.history refuses.refuses;
  }

  never_for : ((h : History) → asked h ≡ Some Foreign → ⊥) → IsRefused d seat asked Foreign → ⊥
  never_for own (inl out) = absurd cc
  never_for own (inr refuses) = own refuses.history refuses.refuses

  same_fault : (fault other : BookFault) (reply : Reply) → reply ≡ Fault (Book fault) → reply ≡ Fault (Book other) → fault ≡ other
  same_fault fault other reply is also = let e : Some fault ≡ Some other = sym (ap book_fault is) ∙ ap book_fault also in cc

  for_cause : (call : Call) (step : Step) (reply : Reply) (end : Seat)
      → ((h : History) → asked h ≡ Some LogFull → is_log_full h ≡ true)
      → (((h : History) → asked h ≡ Some Foreign → ⊥) ⊎ (step ≡ Commit))
      → BookRefuses d seat (record { call = call; fault = asked }) reply end
      → IsForCause d seat.session (length seat.own) step reply
  for_cause call step reply end full own refused = record {
    full = λ is. full_for full
        (subst (λ fault. IsRefused d seat asked fault) (same_fault refused.fault LogFull reply refused.replied is) refused.cause);
    foreign = λ is. by own
        (subst (λ fault. IsRefused d seat asked fault) (same_fault refused.fault Foreign reply refused.replied is) refused.cause);
  } where
    by : (((h : History) → asked h ≡ Some Foreign → ⊥) ⊎ (step ≡ Commit)) → IsRefused d seat asked Foreign → step ≡ Commit
    by (inr commits) cause = commits
    by (inl never) cause = absurd (never_for never cause)

  for_change : (done : Reply) (call : Call) (step : Step) (reply : Reply) (end : Seat) → book_fault done ≡ None
      → ((h : History) → asked h ≡ Some LogFull → is_log_full h ≡ true) → ((h : History) → asked h ≡ Some Foreign → ⊥)
      → Changes d seat (record { call = call; fault = asked }) done reply end → IsForCause d seat.session (length seat.own) step reply
  for_change done call step reply end none full own (inl is) =
      quiet d seat.session (length seat.own) step reply (ap book_fault is.0 ∙ none)
  for_change done call step reply end none full own (inr refused) = for_cause call step reply end full (inl own) refused

-- a commit is refused so where the log is full, or the work isn't the book's own
commit_is_full : (session : ℕ) (work : Transaction) (h : History) → commit_fault session work h ≡ Some LogFull → is_log_full h ≡ true
commit_is_full session work h = by (work.id.session == session) where
  other : (full : Bool) → Some (full_or_foreign full) ≡ Some LogFull → full ≡ true
  other true is = refl
  other false is = absurd cc

  own : (is_log_full h ≡ true) ⊎ (LogFull ≡ Foreign) → is_log_full h ≡ true
  own (inl full) = full
  own (inr foreign) = absurd cc

  by : (same : Bool) → cond same (fault_in (commit_step h work).0) (Some (full_or_foreign (is_log_full h))) ≡ Some LogFull
      → is_log_full h ≡ true
  by true is = own (commit_full h work LogFull is refl)
  by false is = other (is_log_full h) is

command_quiet : (work : Transaction) (command : Command) (reply : Reply) (after : Transaction) → RunsCommand work command reply after
    → book_fault reply ≡ None
command_quiet work command reply after (inr out) = ap book_fault out.0
command_quiet work command reply after (inl is) = ap book_fault is.0 ∙ by _ where
  by : (answer : _) → book_fault (reply_to_command answer) ≡ None
  by (Ok done) = refl
  by (Err fault) = refl

by_open : (d : Desk) (seat : Seat) (work : Option Transaction) (reply : Reply) (after : SeatedSession)
    → StepsByOpen d seat work reply after → IsForCause d seat.session (length seat.own) Open reply
by_open d seat None reply after (inl o) = quiet d seat.session (length seat.own) Open reply (ap book_fault o.replied)
by_open d seat None reply after (inr r) =
    for_cause d seat (open_fault seat.session) _ Open reply after.seat (λ h is. open_full h seat.session LogFull is refl)
    (inl (λ h. open_own h seat.session)) r.0
by_open d seat (Some work) reply after to = quiet d seat.session (length seat.own) Open reply (ap book_fault to.0)

by_command : (d : Desk) (seat : Seat) (work : Option Transaction) (command : Command) (reply : Reply) (after : SeatedSession)
    → StepsByCommand seat work command reply after → IsForCause d seat.session (length seat.own) (Do command) reply
by_command d seat None command reply after to = quiet d seat.session (length seat.own) (Do command) reply (ap book_fault to.0)
by_command d seat (Some work) command reply after to =
    quiet d seat.session (length seat.own) (Do command) reply (command_quiet work command reply to.1 to.2)

by_commit : (d : Desk) (seat : Seat) (work : Option Transaction) (reply : Reply) (after : SeatedSession)
    → StepsByCommit d seat work reply after → IsForCause d seat.session (length seat.own) Commit reply
by_commit d seat None reply after to = quiet d seat.session (length seat.own) Commit reply (ap book_fault to.0)
by_commit d seat (Some work) reply after (inl is) = quiet d seat.session (length seat.own) Commit reply (ap book_fault is.replied)
by_commit d seat (Some work) reply after (inr r) =
    for_cause d seat (commit_fault seat.session work) _ Commit reply after.seat (commit_is_full seat.session work) (inr refl) r.refused

by_cancel : (d : Desk) (seat : Seat) (work : Option Transaction) (reply : Reply) (after : SeatedSession)
    → StepsByCancel seat work reply after → IsForCause d seat.session (length seat.own) Cancel reply
by_cancel d seat None reply after to = quiet d seat.session (length seat.own) Cancel reply (ap book_fault to.0)
by_cancel d seat (Some work) reply after to = quiet d seat.session (length seat.own) Cancel reply (ap book_fault to.0)

step_cause : (d : Desk) (before : SeatedSession) (step : Step) (reply : Reply) (after : SeatedSession)
    → StepsTo d before step reply after → IsForCause d before.seat.session (length before.seat.own) step reply
step_cause d before Open reply after to = by_open d before.seat before.work reply after to
step_cause d before (Do command) reply after to = by_command d before.seat before.work command reply after to
step_cause d before Commit reply after to = by_commit d before.seat before.work reply after to
step_cause d before Cancel reply after to = by_cancel d before.seat before.work reply after to
step_cause d before (Undo t) reply after to =
    let session = before.seat.session in
    for_change d before.seat (undo_fault session t) _ _ (Undo t) reply after.seat refl
    (λ h is. undo_full h session t LogFull is refl) (λ h. undo_own h session t) to.0
step_cause d before (Redo t) reply after to =
    let session = before.seat.session in
    for_change d before.seat (redo_fault session t) _ _ (Redo t) reply after.seat refl
    (λ h is. redo_full h session t LogFull is refl) (λ h. redo_own h session t) to.0

-- ---- all steps

-- a seat that gains what is logged
gains_calls : (answer : Option Answer) (old new : Seat) → GainsAny answer old new
    → (new.session ≡ old.session) × (length new.own ≡ length old.own + calls_added answer)
gains_calls None old new gains =
    (ap (λ (s : Seat). s.session) gains, let l = ap (λ (s : Seat). length s.own) gains in omega (arith, l))
gains_calls (Some answer) old new gains =
    (gains.session, ap length gains.own ∙ length-append old.own (gains.kept ∷ []))

causes : (d : Desk) (before : SeatedSession) (calls : ℕ) (steps : List Step) (replies : List Reply) (after : SeatedSession)
    → length before.seat.own ≡ calls → RanSteps d before steps replies after
    → AreForCause d before.seat.session calls steps replies
causes d before calls [] [] after many ran = tt
causes d before calls [] (reply ∷ replies) after many ran = absurd ran
causes d before calls (step ∷ steps) [] after many ran = absurd ran
causes d before calls (step ∷ steps) (reply ∷ replies) after many ran =
    let more = gains_calls (logged_reply reply) before.seat ran.0.seat (step_gains d before step reply ran.0 ran.1) in (
      subst (λ n. IsForCause d before.seat.session n step reply) many (step_cause d before step reply ran.0 ran.1),
      subst (λ session. AreForCause d session (calls + calls_added (logged_reply reply)) steps replies) more.0
          (causes d ran.0 (calls + calls_added (logged_reply reply)) steps replies after
          (more.1 ∙ ap (λ n. n + calls_added (logged_reply reply)) many) ran.2),
    )

-- ---- all sessions

empty_last : (n : ℕ) (seat : Seat) → (Contains (empty_seats n) seat → seat.own ≡ [])
    → Contains (empty_seats n) seat ⊎ Contains (record { session = n + 1; own = [] } ∷ []) seat → seat.own ≡ []
empty_last n seat first (inl before) = first before
empty_last n seat first (inr (zero, below, is)) = sym (ap (λ (s : Seat). s.own) is)
empty_last n seat first (inr (suc k, below, is)) = absurd (omega (arith, below))

empty_own : (n : ℕ) (seat : Seat) → Contains (empty_seats n) seat → seat.own ≡ []
empty_own zero seat (k, below, is) = absurd (omega (arith, below))
empty_own (suc n) seat there =
    empty_last n seat (empty_own n seat) (Contains-append_cases (empty_seats n) (record { session = n + 1; own = [] } ∷ []) seat there)

all_causes : (d : Desk) (given n : ℕ) (seats : List Seat) (scripts : List (List Step)) (replies : List (List Reply)) (ends : List Seat)
    → AllByRecursion (Contains (empty_seats given)) seats → AllRan d n seats scripts replies ends → AllAreForCause d n scripts replies
all_causes d given n [] [] [] [] among ran = tt
all_causes d given n (s ∷ ss) (steps ∷ scripts) (r ∷ rs) (e ∷ es) among ran = (
  subst (λ session. AreForCause d session 0 steps r) ran.0
      (causes d (record { seat = s; work = None }) 0 steps r (record { seat = e; work = ran.1.last })
      (ap length (empty_own given s among.0)) ran.1.ran),
  all_causes d given (n + 1) ss scripts rs es among.1 ran.2,
)
all_causes d given n [] (steps ∷ scripts) replies ends among ran = absurd ran
all_causes d given n [] [] (r ∷ rs) ends among ran = absurd ran
all_causes d given n [] [] [] (e ∷ es) among ran = absurd ran
all_causes d given n (s ∷ ss) [] replies ends among ran = absurd ran
all_causes d given n (s ∷ ss) (steps ∷ scripts) [] ends among ran = absurd ran
all_causes d given n (s ∷ ss) (steps ∷ scripts) (r ∷ rs) [] among ran = absurd ran

pub refused_for_cause : ThreadsAreRefusedForCause
refused_for_cause base scripts replies book ran =
    let all = desk_scripts scripts in
    all_causes (desk_for base all) (length all) 1 ran.seats all replies ran.ends ran.among ran.ran
