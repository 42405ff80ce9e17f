-- How a live transaction of a history ran: on the layout of the live ones before it, up to one of its commands, and to its end.
use Rattle.std.proofs.Common.{◌≡◌, ◌==◌, ◌&&◌, Bool, true, false, cond, List, [], ◌∷◌, ◌++◌, map, Option, None, Some, refl, ap, sym}
use Rattle.std.proofs.Common.{◌∙◌}
use Rattle.std.specs.Prelude.{MatchBool}
use Rattle.std.specs.List.{AllByRecursion}
use Rattle.std.proofs.lemmas.Bool.Decides.{Decides-eqb}
use Rattle.lay_layouts.specs.declared.item.Item as items
use Rattle.lay_layouts.specs.Layout.{Layout, item_at}
use Rattle.txn_commands.specs.declared.command.Command.{Command}
use Rattle.txn_commands.specs.declared.command.TxnId.{TxnId}
use Rattle.txn_commands.specs.declared.element.Element.{Element}
use Rattle.txn_commands.specs.Agreement.{Agree}
use Rattle.txn_commands.specs.Effects.{Run, after_each, effect, if_accepted}
use Rattle.txn_commands.proofs.Agreements.{agree-equal, agree-trans}
use Rattle.txn_rules.proofs.Overlay.{unmet_agree}
use Rattle.txn_rules.proofs.Own.{new_own}
use Rattle.txn_rules.proofs.Runs.{goes_on}
use Rattle.undo_rules.specs.declared.log.Logged.{Logged}
use Rattle.undo_rules.specs.Histories.{Chain, RunsBetween, commands_at, if_run, replay_from, run_on}
use Rattle.undo_rules.specs.Links.{AreNamed, Entry, Trace, trace_of, txn_eq}
use Rattle.undo_rules.proofs.Grounds.{ran_leads}
use Rattle.undo_laws.specs.Staying.{NoLiveWriter, HasNoItemOf}

-- ---- commands

-- commands behind commands
pub run_cut : (t : TxnId) (cs ds : List Command) (start end : Run) → after_each t (cs ++ ds) start ≡ Some end →
    (mid : Run) × (after_each t cs start ≡ Some mid) × (after_each t ds mid ≡ Some end)
run_cut t [] ds start end h = (start, refl, h)
run_cut t (c ∷ cs) ds start end h =
    let step = goes_on (effect t c start) (λ next. after_each t (cs ++ ds) next) end h in
    let (mid, front, back) = run_cut t cs ds step.0.1 end step.2 in
    (mid, ap (λ answer. if_accepted answer (λ next. after_each t cs next)) step.1 ∙ front, back)

-- ---- transactions before it

-- what a transaction keeps wherever it runs
abbrev pub Keeps : List Logged → (Layout → Type 0) → Entry → Type 0
Keeps log P entry = (l m : Layout) → RunsBetween log entry l m → P l → P m

-- what each of the first transactions keeps is so of the layout behind them, which is their replay
pub chain_through : (log : List Logged) (P : Layout → Type 0) (before later : List Entry) (first last : Layout) →
    AllByRecursion (Keeps log P) before → Chain log first (before ++ later) last → P first →
    (ground : Layout) × (replay_from log first before ≡ Some ground) × P ground × Chain log ground later last
chain_through log P [] later first last each chain holds = (first, refl, holds, chain)
chain_through log P (entry ∷ before) later first last each chain holds =
    by entry.live chain (λ l. chain_through log P before later l last each.1) where
      by : (live : Bool) → MatchBool live ((next : Layout) × RunsBetween log entry first next × Chain log next (before ++ later) last)
          (Chain log first (before ++ later) last)
          → ((l : Layout) → Chain log l (before ++ later) last → P l
          → (ground : Layout) × (replay_from log l before ≡ Some ground) × P ground × Chain log ground later last)
          → (ground : Layout)
          × (cond live (run_on entry (commands_at log entry.place) first (λ next. replay_from log next before))
          (replay_from log first before) ≡ Some ground) × P ground × Chain log ground later last
      by true (next, ran, rest) more =
          let (ground, replays, still, back) = more next rest (each.0 first next ran holds) in (
            ground,
            ap (λ told. run_on entry told first (λ l. replay_from log l before)) ran.told
                ∙ ap (λ run. if_run run (λ l. replay_from log l before)) ran.runs
                ∙ ap (λ l. replay_from log l before) ran.after_is ∙ replays,
            still,
            back,
          )
      by false rest more = more first rest holds

-- names that aren't equal differ in a number
apart_names : (s t : TxnId) → txn_eq s t ≡ false → s.session ≡ t.session → s.txn ≡ t.txn → ⊥
apart_names s t other session number =
    let sessions : (s.session == t.session) ≡ true = (Decides-eqb s.session t.session).1 session in
    let numbers : (s.txn == t.txn) ≡ true = (Decides-eqb s.txn t.txn).1 number in
    absurd (cc (sym other ∙ (λ i. sessions i && numbers i)))

-- a transaction makes no item with an id of another
pub none_made : (log : List Logged) (txn : TxnId) (entry : Entry) → txn_eq entry.txn txn ≡ false → Keeps log (HasNoItemOf txn) entry
none_made log txn entry other l m ran none id session number = by_item (item_at m id) refl where
  by_item : (o : Option items.Item) → item_at m id ≡ o → o ≡ None
  by_item None is = refl
  by_item (Some item) is =
      let there : item_at ran.run.layout id ≡ Some item = ap (λ n. item_at n id) ran.after_is ∙ is in
      let own = new_own entry.txn ran.commands l ran.run ran.runs id item (none id session number) there in
      absurd (apart_names entry.txn txn other (sym own.session ∙ session) (sym own.txn_of ∙ number))

-- the transactions before one have other names
pub others_named : (before : List Entry) (entry : Entry) (later : List Entry) → AreNamed (map trace_of (before ++ entry ∷ later)) →
    AllByRecursion (λ other. txn_eq other.txn entry.txn ≡ false) before
others_named [] entry later named = tt
others_named (other ∷ before) entry later named = (here before named.0, others_named before entry later named.1) where
  here : (es : List Entry) → AllByRecursion (λ (t : Trace). txn_eq other.txn t.txn ≡ false) (map trace_of (es ++ entry ∷ later)) →
      txn_eq other.txn entry.txn ≡ false
  here [] all = all.0
  here (e ∷ es) all = here es all.1

-- ---- transactions behind it

-- transactions that write nothing that lies in the element keep it
pub aside_agree : (log : List Logged) (e : Element) (entries : List Entry) (first last : Layout) → NoLiveWriter e entries →
    Chain log first entries last → Agree first last e
aside_agree log e [] first last aside chain = agree-equal first last e chain
aside_agree log e (entry ∷ entries) first last aside chain =
    by entry.live refl chain (λ l. aside_agree log e entries l last aside.1) where
      by : (live : Bool) → entry.live ≡ live
          → MatchBool live ((next : Layout) × RunsBetween log entry first next × Chain log next entries last) (Chain log first entries last)
          → ((l : Layout) → Chain log l entries last → Agree l last e) → Agree first last e
      by true is (next, ran, rest) more =
          agree-trans first next last e (unmet_agree entry.writes first next e (ran_leads log entry first next ran) (aside.0 is))
          (more next rest)
      by false is rest more = more first rest
