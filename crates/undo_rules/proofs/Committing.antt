-- A transaction that is committed, and the replay.
use Rattle.std.proofs.Common.{◌≡◌, Bool, true, false, cond, List, [], ◌∷◌, ◌++◌, map, Some, refl, sym, ap, subst, ◌∙◌}
use Rattle.std.proofs.Common.{append-nil, append_assoc}
use Rattle.std.specs.Prelude.{MatchBool}
use Rattle.std.specs.List.{AllByRecursion}
use Rattle.std.proofs.lemmas.List.{length-map}
use Rattle.lay_layouts.specs.Layout.{Layout}
use Rattle.lay_layouts.specs.Sound.{IsSound}
use Rattle.txn_commands.specs.declared.element.Element.{Element}
use Rattle.txn_commands.specs.Agreement.{Agree, AgreeOn}
use Rattle.txn_commands.specs.Effects.{Run, begun}
use Rattle.txn_commands.specs.Elements.{Touched}
use Rattle.txn_commands.specs.Meets.{some_meets}
use Rattle.txn_commands.specs.Records.{Lead, Records, applied}
use Rattle.txn_commands.proofs.Agreements.{agree-sym, agree-trans}
use Rattle.txn_rules.proofs.Framing.{frame}
use Rattle.txn_rules.proofs.Overlay.{same_records}
use Rattle.txn_commands.specs.Covers.{LeavesAlone}
use Rattle.txn_rules.proofs.Runs.{local}
use Rattle.txn_commands.proofs.Steps.{applied_leads}
use Rattle.undo_rules.specs.declared.log.Logged.{Logged}
use Rattle.undo_rules.specs.Histories.{AreKept, AreRooted, Chain, IsRooted, IsSince, RunsBetween, commands_at, if_run, replay_from, run_on}
use Rattle.undo_rules.specs.Laws.{ACommitAppends}
use Rattle.undo_rules.specs.Links.{AreNamed, Entry, Trace, linked, links_to, live_of, trace_of, txn_eq}
use Rattle.txn_commands.specs.Meets.{meets_touched}
use Rattle.undo_rules.proofs.Grounds.{apart, ran_leads, ran_proper}
use Rattle.undo_rules.proofs.Undoing.{chain_join, chain_laid, chain_sound}

-- ---- the replay

pub chain_replays : (log : List Logged) (first : Layout) (entries : List Entry) (last : Layout) → Chain log first entries last →
    replay_from log first entries ≡ Some last
chain_replays log first [] last chain = ap Some chain
chain_replays log first (entry ∷ entries) last chain = by entry.live chain (λ l. chain_replays log l entries last) where
  by : (live : Bool) → MatchBool live ((next : Layout) × RunsBetween log entry first next × Chain log next entries last)
      (Chain log first entries last)
      → ((l : Layout) → Chain log l entries last → replay_from log l entries ≡ Some last)
      → cond live (run_on entry (commands_at log entry.place) first (λ next. replay_from log next entries)) (replay_from log first entries)
      ≡ Some last
  by true (next, ran, rest) replays =
      ap (λ told. run_on entry told first (λ l. replay_from log l entries)) ran.told
      ∙ ap (λ run. if_run run (λ l. replay_from log l entries)) ran.runs
      ∙ ap (λ l. replay_from log l entries) ran.after_is ∙ replays next rest
  by false rest replays = replays first rest

-- ---- what was changed since

-- one change more
pub since_more : (old now next : Layout) (changes : List Records) (ws : Records) → IsSince old changes now →
    ((e : Element) → some_meets ws e ≡ false → Agree now next e) → IsSince old (changes ++ ws ∷ []) next
since_more old now next changes ws since change e all =
    let parts = all_parts changes all in
    agree-trans old now next e (since e parts.0) (change e parts.1.0)
  where
    all_parts : (xs : List Records) → AllByRecursion (λ w. some_meets w e ≡ false) (xs ++ ws ∷ [])
        → AllByRecursion (λ w. some_meets w e ≡ false) xs × AllByRecursion (λ w. some_meets w e ≡ false) (ws ∷ [])
    all_parts [] h = (tt, h)
    all_parts (x ∷ xs) h = let rest = all_parts xs h.1 in ((h.0, rest.0), rest.1)

-- layouts agree on what none of the changes touches
agreed_since : (old now : Layout) (touched : Touched) (changes : List Records) → IsSince old changes now →
    AllByRecursion (λ ws. meets_touched ws touched ≡ false) changes → AgreeOn old now touched
agreed_since old now touched changes since free e has = since e (unmet changes free) where
  unmet : (xs : List Records) → AllByRecursion (λ ws. meets_touched ws touched ≡ false) xs
      → AllByRecursion (λ ws. some_meets ws e ≡ false) xs
  unmet [] h = tt
  unmet (x ∷ xs) h = (apart x touched h.0 e has, unmet xs h.1)

-- ---- a commit

-- what is rooted stays so with one transaction more
rooted_more : (log : List Logged) (base : Layout) (earlier : List Trace) (ms : List Bool) (entries : List Entry) (entry : Entry) →
    IsRooted log base (earlier ++ map trace_of entries) entry →
    linked entry.footprint (earlier ++ map trace_of entries) (ms ++ map live_of entries) ≡ entry.seen →
    AreRooted log base earlier ms entries → AreRooted log base earlier ms (entries ++ entry ∷ [])
rooted_more log base earlier ms [] entry root links rooted = (
  subst (λ (ts : List Trace). IsRooted log base ts entry) (append-nil earlier) root,
  λ _. (λ i. linked entry.footprint (sym (append-nil earlier) i) (sym (append-nil ms) i)) ∙ links,
  tt,
)
rooted_more log base earlier ms (e ∷ entries) entry root links (first, linked_so, rest) = (
  first,
  linked_so,
  rooted_more log base (earlier ++ trace_of e ∷ []) (ms ++ e.live ∷ []) entries entry
      (subst (λ (ts : List Trace). IsRooted log base ts entry) (sym (append_assoc earlier (trace_of e ∷ []) (map trace_of entries))) root)
      ((λ i. linked entry.footprint (append_assoc earlier (trace_of e ∷ []) (map trace_of entries) i)
      (append_assoc ms (e.live ∷ []) (map live_of entries) i)) ∙ links) rest,
)

named_more : (entries : List Entry) (entry : Entry) → AllByRecursion (λ (other : Entry). txn_eq other.txn entry.txn ≡ false) entries →
    AreNamed (map trace_of entries) → AreNamed (map trace_of (entries ++ entry ∷ []))
named_more [] entry apart named = (tt, tt)
named_more (e ∷ entries) entry apart named = (all_more entries named.0, named_more entries entry apart.1 named.1) where
  all_more : (xs : List Entry) → AllByRecursion (λ (u : Trace). txn_eq e.txn u.txn ≡ false) (map trace_of xs)
      → AllByRecursion (λ (u : Trace). txn_eq e.txn u.txn ≡ false) (map trace_of (xs ++ entry ∷ []))
  all_more [] h = (apart.0, tt)
  all_more (x ∷ xs) h = (h.0, all_more xs h.1)

-- a live transaction that runs on the sound layout is entered behind the others
pub entered_kept : (log : List Logged) (base layout next : Layout) (entries : List Entry) (entry : Entry) → IsSound layout →
    entry.live ≡ true → RunsBetween log entry layout next → links_to entries entry.footprint ≡ entry.seen →
    AllByRecursion (λ (other : Entry). txn_eq other.txn entry.txn ≡ false) entries → AreKept log base layout entries →
    AreKept log base next (entries ++ entry ∷ [])
entered_kept log base layout next entries entry sound is ran links named kept = record {
  chain = chain_join log entries (entry ∷ []) base layout next kept.chain
      (subst (λ (live : Bool). MatchBool live ((m : Layout) × RunsBetween log entry layout m × (m ≡ next)) (layout ≡ next)) (sym is)
      (next, ran, refl));
  rooted = rooted_more log base [] [] entries entry
      (record {
        marks = map live_of entries;
        count = length-map entries live_of ∙ sym (length-map entries trace_of);
        before = layout;
        after = next;
        sound = sound;
        laid = chain_laid log entries base layout kept.chain;
        ran = ran;
        seen = links;
      }) links kept.rooted;
  named = named_more entries entry named kept.named;
}

pub commits : ACommitAppends
commits t sound snapshot_sound work fresh entered kept =
    let touched = t.entry.footprint in
    let agree : AgreeOn t.snapshot t.layout touched = λ e has.
    agree-trans t.snapshot t.opened t.layout e (agree-sym t.opened t.snapshot e (fresh.agree e has))
    (agreed_since t.opened t.layout touched t.changes fresh.since fresh.apart e has) in
    let layout_sound = chain_sound t.log t.entries t.base t.layout kept.chain sound in
    let found = frame t.entry.txn t.commands (begun t.snapshot) t.run work.runs (begun t.layout) (record {
      made = refl;
      footprint = refl;
      dones = refl;
      sound = snapshot_sound;
      sound_there = layout_sound;
      agree = subst (AgreeOn t.snapshot t.layout) (sym work.footprint) agree;
    }) in
    let now : Run = found.0 in
    let alike = found.2 in
    let same : now.footprint ≡ touched = alike.footprint ∙ work.footprint in
    let from_snapshot : LeavesAlone t.snapshot t.run.layout touched =
    subst (LeavesAlone t.snapshot t.run.layout) work.footprint (local t.entry.txn t.commands (begun t.snapshot) t.run work.runs) in
    let from_layout : LeavesAlone t.layout now.layout touched =
    subst (LeavesAlone t.layout now.layout) same (local t.entry.txn t.commands (begun t.layout) now found.1) in
    let after : AgreeOn t.run.layout now.layout touched = subst (AgreeOn t.run.layout now.layout) work.footprint alike.agree in
    let ran : RunsBetween t.log t.entry t.layout now.layout = record {
      commands = t.commands;
      run = now;
      told = entered.told;
      runs = found.1;
      after_is = refl;
      writes = same_records t.snapshot t.layout t.run.layout now.layout touched agree from_snapshot from_layout after ∙ work.writes;
      footprint = same;
    } in
    let to : applied t.layout t.entry.writes ≡ now.layout =
    applied_leads t.entry.writes t.layout now.layout (ran_proper t.log t.entry t.layout now.layout ran)
    (ran_leads t.log t.entry t.layout now.layout ran) in
    record {
      now = now;
      runs = found.1;
      dones = alike.dones;
      footprint = same;
      writes = ran.writes;
      next = sym to;
      leads = subst (λ (l : Layout). Lead t.entry.writes t.layout l) (sym to) (ran_leads t.log t.entry t.layout now.layout ran);
      kept = subst (λ (l : Layout). AreKept t.log t.base l (t.entries ++ t.entry ∷ [])) (sym to)
          (entered_kept t.log t.base t.layout now.layout t.entries t.entry layout_sound entered.live ran entered.seen entered.named kept);
    }
