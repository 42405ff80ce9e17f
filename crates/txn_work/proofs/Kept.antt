-- What a work keeps, and what follows.
use Rattle.std.proofs.Common.{◌≡◌, ◌≤◌, ◌+◌, ℕ, true, false, [], ◌∷◌, ◌++◌, length, Some}
use Rattle.std.proofs.Common.{Err, Ok, Result, inl, inr, refl, ap, sym, subst, ◌∙◌, arith, length-append}
use Rattle.std.specs.Prelude.{IfSome, Option, None, nat_lt, unwrap_or}
use Rattle.std.proofs.lemmas.Bool.Decides.{nat_tests}
use Rattle.lay_layouts.specs.Layout.{Layout}
use Rattle.lay_layouts.specs.Sound.{IsSound}
use Rattle.txn_commands.specs.declared.command.Command.{Command}
use Rattle.txn_commands.specs.declared.command.TheConstants.{MAX_COMMANDS}
use Rattle.txn_commands.specs.declared.command.TxnId.{TxnId}
use Rattle.txn_commands.specs.Acts.{Act}
use Rattle.txn_commands.specs.Effects.{Run, after_each, begun, effect, is_too_much, next_id, perform}
use Rattle.txn_commands.specs.declared.fault.CmdFault.{CmdFault}
use Rattle.txn_commands.specs.declared.command.Done.{Done}
use Rattle.txn_commands.specs.declared.fault.CmdFault.TheVariants.{NoMemory, TxnFull}
use Rattle.txn_commands.specs.Elements.{with_elements}
use Rattle.txn_commands.specs.Writing.{rewritten}
use Rattle.lay_point.specs.Memory.{IsAnswer}
use Rattle.std.proofs.lemmas.Bool.{or_parts}
use Rattle.txn_commands.specs.Plans.{plan}
use Rattle.txn_commands.specs.Records.{applied, records_between}
use Rattle.txn_commands.specs.Transactions.{IsTransaction, Transaction}
use Rattle.txn_rules.proofs.LawProofs.{records_lead, runs_keep_sound}
use Rattle.txn_rules.proofs.OneRecords.{one_records}
use Rattle.txn_rules.proofs.Runs.{after_each-push}
use Rattle.txn_work.specs.Answers.{after_command, answer_to, run_so_far, with_command}
use Rattle.txn_plans.specs.Seeing.{Overlays}
use Rattle.txn_work.specs.Works.{MatchesItsRun}

-- its run is what its commands bring it to
pub same_run : (txn : Transaction) (made : ℕ) (k : MatchesItsRun txn made) → run_so_far txn ≡ k.run
same_run txn made k = ap (λ o. unwrap_or o (begun txn.snapshot)) k.runs

pub runs_so_far : (txn : Transaction) (made : ℕ) → MatchesItsRun txn made
    → after_each txn.id txn.commands (begun txn.snapshot) ≡ Some (run_so_far txn)
runs_so_far txn made k = k.runs ∙ ap Some (sym (same_run txn made k))

pub writes_so_far : (txn : Transaction) (made : ℕ) → MatchesItsRun txn made
    → txn.writes ≡ records_between txn.snapshot (run_so_far txn).layout
writes_so_far txn made k = sym k.writes ∙ ap (λ (r : Run). records_between txn.snapshot r.layout) (sym (same_run txn made k))

pub footprint_so_far : (txn : Transaction) (made : ℕ) → MatchesItsRun txn made → (run_so_far txn).footprint ≡ txn.footprint
footprint_so_far txn made k = ap (λ (r : Run). r.footprint) (same_run txn made k) ∙ k.footprint

pub made_so_far : (txn : Transaction) (made : ℕ) → MatchesItsRun txn made → (run_so_far txn).made ≡ made
made_so_far txn made k = ap (λ (r : Run). r.made) (same_run txn made k) ∙ k.count

pub answered_so_far : (txn : Transaction) (made : ℕ) → MatchesItsRun txn made → length (run_so_far txn).dones ≡ length txn.commands
answered_so_far txn made k = ap (λ (r : Run). length r.dones) (same_run txn made k) ∙ k.answered

pub is_transaction : (txn : Transaction) (made : ℕ) → MatchesItsRun txn made → IsTransaction txn
is_transaction txn made k = record { run = k.run; runs = k.runs; writes = k.writes; footprint = k.footprint }

-- its writes over its snapshot are the layout that it sees
pub seen_so_far : (txn : Transaction) (made : ℕ) → MatchesItsRun txn made → applied txn.snapshot txn.writes ≡ (run_so_far txn).layout
seen_so_far txn made k =
    ap (applied txn.snapshot) (writes_so_far txn made k) ∙ (records_lead txn.snapshot (run_so_far txn).layout).2

-- a layout that is kept, told by another name
pub same_whole : {l m : Layout} (o : Option Layout) → l ≡ m → IfSome o (λ n. n ≡ m) → IfSome o (λ n. n ≡ l)
same_whole None same is = tt
same_whole (Some n) same is = is ∙ sym same

pub overlays : (txn : Transaction) (made : ℕ) → MatchesItsRun txn made → Overlays txn.snapshot txn.writes
overlays txn made k =
    let now = (run_so_far txn).layout in
    let leads = records_lead txn.snapshot now in
    let sound = runs_keep_sound txn.id txn.commands txn.snapshot (run_so_far txn) (runs_so_far txn made k) k.sound in
    let is : applied txn.snapshot (records_between txn.snapshot now) ≡ now = leads.2 in
    subst (Overlays txn.snapshot) (sym (writes_so_far txn made k)) (record {
      proper = leads.0;
      leads = rw is leads.1;
      sound = rw is sound;
    })

-- nothing differs in one layout
pub no_records : (l : Layout) → records_between l l ≡ record { items = []; symbols = [] }
no_records l = sym (one_records (record { items = []; symbols = [] }) l l
    (record { items = tt; symbols = tt; items_differ = tt; symbols_differ = tt })
    (record { items = λ id. refl; symbols = λ number. refl }))

-- a transaction without commands
pub new_kept : (txn : Transaction) → IsSound txn.snapshot → txn.commands ≡ [] → txn.writes ≡ record { items = []; symbols = [] } →
    (begun txn.snapshot).footprint ≡ txn.footprint → MatchesItsRun txn 0
new_kept txn sound none nothing untouched = record {
  sound = sound;
  run = begun txn.snapshot;
  runs = rw none refl;
  writes = no_records txn.snapshot ∙ sym nothing;
  footprint = untouched;
  count = refl;
  few = omega arith;
  answered = rw none refl;
}

-- an act that is planned, and for which there is room, is the command's effect
pub effect_is : (t : TxnId) (c : Command) (r : Run) (act : Act) → plan (next_id t r) c r.layout ≡ Ok act → is_too_much r act ≡ false →
    effect t c r ≡ Ok (act.done, perform r act)
unfolding effect
effect_is t c r act planned room = rw (planned, room) refl

-- the transaction after the act
pub next_kept : (txn : Transaction) (made more : ℕ) (c : Command) (act : Act) → MatchesItsRun txn made →
    plan (next_id txn.id (run_so_far txn)) c (run_so_far txn).layout ≡ Ok act → is_too_much (run_so_far txn) act ≡ false →
    more ≡ made + act.made → more ≤ MAX_COMMANDS → MatchesItsRun (with_command txn c (perform (run_so_far txn) act)) more
next_kept txn made more c act k planned room m few = record {
  sound = k.sound;
  run = perform (run_so_far txn) act;
  runs = after_each-push txn.id txn.commands c (begun txn.snapshot) (run_so_far txn) (act.done, perform (run_so_far txn) act)
      (runs_so_far txn made k) (effect_is txn.id c (run_so_far txn) act planned room);
  writes = refl;
  footprint = refl;
  count = ap (λ n. n + act.made) (made_so_far txn made k) ∙ sym m;
  few = few;
  answered = length-append (run_so_far txn).dones (act.done ∷ []) ∙ ap (λ n. n + 1) (answered_so_far txn made k)
      ∙ sym (length-append txn.commands (c ∷ []));
}

-- the layout after the act is sound
pub next_sound : (txn : Transaction) (made : ℕ) (c : Command) (act : Act) → MatchesItsRun txn made →
    plan (next_id txn.id (run_so_far txn)) c (run_so_far txn).layout ≡ Ok act → is_too_much (run_so_far txn) act ≡ false →
    IsSound (rewritten (run_so_far txn).layout act.items act.symbols)
next_sound txn made c act k planned room =
    runs_keep_sound txn.id (txn.commands ++ c ∷ []) txn.snapshot (perform (run_so_far txn) act)
    (after_each-push txn.id txn.commands c (begun txn.snapshot) (run_so_far txn) (act.done, perform (run_so_far txn) act)
    (runs_so_far txn made k) (effect_is txn.id c (run_so_far txn) act planned room)) k.sound

-- and it is the one that the transaction then sees
pub next_layout : (txn : Transaction) (made more : ℕ) (c : Command) (act : Act) → MatchesItsRun txn made →
    plan (next_id txn.id (run_so_far txn)) c (run_so_far txn).layout ≡ Ok act → is_too_much (run_so_far txn) act ≡ false →
    more ≡ made + act.made → more ≤ MAX_COMMANDS → (run_so_far (with_command txn c (perform (run_so_far txn) act))).layout
    ≡ rewritten (run_so_far txn).layout act.items act.symbols
unfolding next_kept
next_layout txn made more c act k planned room m few =
    ap (λ (r : Run). r.layout) (same_run (with_command txn c (perform (run_so_far txn) act)) more
    (next_kept txn made more c act k planned room m few))

-- what a command is answered, and the transaction after it, where its act was planned
pub answer_is : (txn : Transaction) (c : Command) (act : Act) → plan (next_id txn.id (run_so_far txn)) c (run_so_far txn).layout ≡ Ok act →
    is_too_much (run_so_far txn) act ≡ false → answer_to txn c ≡ Ok act.done
answer_is txn c act planned room = rw (effect_is txn.id c (run_so_far txn) act planned room) refl

pub after_is : (txn : Transaction) (c : Command) (act : Act) → plan (next_id txn.id (run_so_far txn)) c (run_so_far txn).layout ≡ Ok act →
    is_too_much (run_so_far txn) act ≡ false → after_command txn c ≡ with_command txn c (perform (run_so_far txn) act)
after_is txn c act planned room = rw (effect_is txn.id c (run_so_far txn) act planned room) refl

-- the transaction with what the act leaves in each part
pub performed : (txn next : Transaction) (made : ℕ) (c : Command) (act : Act) → MatchesItsRun txn made → next.id ≡ txn.id
    → next.opened ≡ txn.opened →
    next.snapshot ≡ txn.snapshot → next.commands ≡ txn.commands ++ c ∷ [] →
    next.writes ≡ records_between txn.snapshot (rewritten (run_so_far txn).layout act.items act.symbols) →
    next.footprint ≡ with_elements txn.footprint act.elements → next ≡ with_command txn c (perform (run_so_far txn) act)
performed txn next made c act k id opened snapshot commands writes footprint =
    let touched : next.footprint ≡ with_elements (run_so_far txn).footprint act.elements =
    footprint ∙ ap (λ t. with_elements t act.elements) (sym (footprint_so_far txn made k)) in
    λ i. record { id = id i; opened = opened i; snapshot = snapshot i; commands = commands i; writes = writes i; footprint = touched i }

-- there is room for one more
pub room_left : (txn : Transaction) (made more : ℕ) (act : Act) → MatchesItsRun txn made → is_too_much (run_so_far txn) act ≡ false →
    more ≡ made + act.made → more ≤ MAX_COMMANDS
room_left txn made more act k room m =
    let parts = or_parts (nat_lt MAX_COMMANDS (length (run_so_far txn).dones + 1))
    (nat_lt MAX_COMMANDS ((run_so_far txn).made + act.made)) room in
    let count = made_so_far txn made k in
    let few : (run_so_far txn).made + act.made ≤ MAX_COMMANDS = grind (arith, nat_tests, parts) in
    omega (arith, few, count, m)

-- a command whose plan is refused, or for whose act there is no room, is refused so
pub refused_so : (txn : Transaction) (c : Command) (fault : CmdFault)
    → plan (next_id txn.id (run_so_far txn)) c (run_so_far txn).layout ≡ Err fault →
    answer_to txn c ≡ Err fault
unfolding effect
refused_so txn c fault planned = rw planned refl

pub too_much_so : (txn : Transaction) (c : Command) (act : Act)
    → plan (next_id txn.id (run_so_far txn)) c (run_so_far txn).layout ≡ Ok act →
    is_too_much (run_so_far txn) act ≡ true → answer_to txn c ≡ Err TxnFull
unfolding effect
too_much_so txn c act planned full = rw (planned, full) refl

-- a refusal is that of the command, or memory was short
pub refusal_is : (txn : Transaction) (c : Command) (fault : CmdFault) (result : Result Act CmdFault) → result ≡ Err fault →
    IsAnswer NoMemory result (plan (next_id txn.id (run_so_far txn)) c (run_so_far txn).layout) →
    IsAnswer {T = Done} NoMemory (Err fault) (answer_to txn c)
refusal_is txn c fault result is (inl short) = let same : fault ≡ NoMemory = cc in inl (ap Err same)
refusal_is txn c fault result is (inr planned) = inr (sym (refused_so txn c fault (sym planned ∙ is)))

-- and so is one for want of room
pub full_is : (txn : Transaction) (c : Command) (act : Act) (result : Result Act CmdFault) → result ≡ Ok act →
    IsAnswer NoMemory result (plan (next_id txn.id (run_so_far txn)) c (run_so_far txn).layout) → is_too_much (run_so_far txn) act ≡ true →
    IsAnswer {T = Done} NoMemory (Err TxnFull) (answer_to txn c)
full_is txn c act result is (inl short) full = let no : Ok act ≡ Err NoMemory = sym is ∙ short in absurd cc
full_is txn c act result is (inr planned) full = inr (sym (too_much_so txn c act (sym planned ∙ is) full))
