-- A transaction runs alike on sound layouts that agree on what it touched, and records that it didn't touch go past it.
use Rattle.std.proofs.Common.{◌≡◌, Bool, true, false, ◌||◌, List, [], ◌∷◌, refl, sym, ap, subst, ◌∙◌}
use Rattle.std.specs.FinSet.{contains-items, items}
use Rattle.std.specs.List.{list_any}
use Rattle.std.specs.Ordering.{eq_by_cmp}
use Rattle.lay_layouts.specs.Layout.{Layout}
use Rattle.lay_layouts.specs.Sound.{IsSound}
use Rattle.txn_commands.specs.declared.element.Element.{Element}
use Rattle.txn_commands.specs.Agreement.{AgreeOn}
use Rattle.txn_commands.specs.Effects.{Run, begun}
use Rattle.txn_commands.specs.Elements.{Touched, element_cmp, elements_exact}
use Rattle.txn_commands.specs.Meets.{AreApart, some_meets}
use Rattle.txn_commands.specs.Records.{AreProper, Lead, Records}
use Rattle.txn_rules.proofs.Framing.{frame}
use Rattle.txn_commands.proofs.Maps.{same_key}
use Rattle.txn_rules.proofs.Overlay.{past, same_records}
use Rattle.txn_commands.specs.Covers.{LeavesAlone}
use Rattle.txn_rules.proofs.Runs.{local}
use Rattle.txn_rules.proofs.Sound.{run_sound}
use Rattle.txn_commands.proofs.Steps.{lead_between, proper_between}
use Rattle.undo_rules.specs.declared.log.Logged.{Logged}
use Rattle.undo_rules.specs.Histories.{RunsBetween}
use Rattle.undo_rules.specs.Links.{Entry}
use Rattle.txn_commands.specs.Meets.{meets_touched}

-- records that touch nothing of a set meet no element of it
apart_from : (ws : Records) (es : List Element) (e : Element) → list_any (some_meets ws) es ≡ false →
    list_any (eq_by_cmp element_cmp e) es ≡ true → some_meets ws e ≡ false
apart_from ws [] e free has = absurd cc
apart_from ws (x ∷ es) e free has = by (some_meets ws x) refl (eq_by_cmp element_cmp e x) refl free has (apart_from ws es e) where
  by : (met : Bool) → some_meets ws x ≡ met → (same : Bool) → eq_by_cmp element_cmp e x ≡ same
      → (met || list_any (some_meets ws) es) ≡ false
      → (same || list_any (eq_by_cmp element_cmp e) es) ≡ true
      → (list_any (some_meets ws) es ≡ false → list_any (eq_by_cmp element_cmp e) es ≡ true → some_meets ws e ≡ false)
      → some_meets ws e ≡ false
  by true told same is free has rest = absurd cc
  by false told true is free has rest = ap (some_meets ws) (same_key elements_exact e x is) ∙ told
  by false told false is free has rest = rest free has

pub apart : (ws : Records) (touched : Touched) → meets_touched ws touched ≡ false → AreApart ws touched
apart ws touched free e has = apart_from ws (items touched) e free (sym (contains-items touched e) ∙ has)

-- a transaction's records lead from the layout before it to the one after it
pub ran_leads : (log : List Logged) (entry : Entry) (l m : Layout) → RunsBetween log entry l m → Lead entry.writes l m
ran_leads log entry l m ran = subst (λ (ws : Records). Lead ws l m) ran.writes (lead_between l m)

pub ran_proper : (log : List Logged) (entry : Entry) (l m : Layout) → RunsBetween log entry l m → AreProper entry.writes
ran_proper log entry l m ran = subst AreProper ran.writes (proper_between l m)

-- and leave alone what it doesn't touch
ran_alone : (log : List Logged) (entry : Entry) (l m : Layout) → RunsBetween log entry l m → LeavesAlone l m entry.footprint
ran_alone log entry l m ran =
    let alone : LeavesAlone l ran.run.layout ran.run.footprint = local entry.txn ran.commands (begun l) ran.run ran.runs in
    subst (λ (t : Touched). LeavesAlone l m t) ran.footprint
    (subst (λ (n : Layout). LeavesAlone l n ran.run.footprint) ran.after_is alone)

-- it keeps a layout sound
pub ran_sound : (log : List Logged) (entry : Entry) (l m : Layout) → RunsBetween log entry l m → IsSound l → IsSound m
ran_sound log entry l m ran sound =
    subst IsSound ran.after_is (run_sound entry.txn ran.commands (begun l) ran.run ran.runs sound)

-- on a sound layout that agrees on what it touches, a transaction runs alike, to a layout that agrees too
record RunsThere (log : List Logged) (entry : Entry) (m n : Layout) : Type 0 where
  after : Layout
  ran : RunsBetween log entry m after
  agree : AgreeOn n after entry.footprint

there : (log : List Logged) (entry : Entry) (l m n : Layout) → IsSound l → IsSound m → AgreeOn l m entry.footprint
    → RunsBetween log entry l n →
    RunsThere log entry m n
there log entry l m n l_sound m_sound agree ran =
    let agreed : AgreeOn l m ran.run.footprint = subst (AgreeOn l m) (sym ran.footprint) agree in
    let found = frame entry.txn ran.commands (begun l) ran.run ran.runs (begun m)
    (record { made = refl; footprint = refl; dones = refl; sound = l_sound; sound_there = m_sound; agree = agreed }) in
    let next : Run = found.0 in
    let runs = found.1 in
    let alike = found.2 in
    let touched : next.footprint ≡ entry.footprint = alike.footprint ∙ ran.footprint in
    let after : AgreeOn n next.layout entry.footprint =
    subst (λ (t : Touched). AgreeOn n next.layout t) ran.footprint
    (subst (λ (k : Layout). AgreeOn k next.layout ran.run.footprint) ran.after_is alike.agree) in
    let alone : LeavesAlone m next.layout entry.footprint =
    subst (λ (t : Touched). LeavesAlone m next.layout t) touched (local entry.txn ran.commands (begun m) next runs) in
    record {
      after = next.layout;
      ran = record {
        commands = ran.commands;
        run = next;
        told = ran.told;
        runs = runs;
        after_is = refl;
        writes = same_records l m n next.layout entry.footprint agree (ran_alone log entry l n ran) alone after ∙ ran.writes;
        footprint = touched;
      };
      agree = after;
    }

pub ran_again : (log : List Logged) (entry : Entry) (l m n : Layout) → IsSound l → IsSound m → AgreeOn l m entry.footprint →
    RunsBetween log entry l n → (k : Layout) × RunsBetween log entry m k × AgreeOn n k entry.footprint
ran_again log entry l m n l_sound m_sound agree ran =
    let found = there log entry l m n l_sound m_sound agree ran in (found.after, found.ran, found.agree)

-- records that the transaction doesn't touch lead from its one result to the other
pub ran_past : (log : List Logged) (ws : Records) (entry : Entry) (l m n k : Layout) → AreProper ws
    → meets_touched ws entry.footprint ≡ false →
    Lead ws l m → RunsBetween log entry l n → RunsBetween log entry m k → AgreeOn n k entry.footprint → Lead ws n k
ran_past log ws entry l m n k proper free lead from_l from_m agree =
    past ws l m n k entry.footprint proper lead (apart ws entry.footprint free) (ran_alone log entry l n from_l)
    (ran_alone log entry m k from_m) agree
