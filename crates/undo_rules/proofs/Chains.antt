-- A transaction that no later live one has touched can be taken out of a chain, and put in again.
use Rattle.std.proofs.Common.{◌≡◌, Bool, true, false, cond, ◌&&◌, List, [], ◌∷◌, None, Some, refl, subst}
use Rattle.std.specs.Prelude.{MatchBool}
use Rattle.lay_layouts.specs.Layout.{Layout}
use Rattle.lay_layouts.specs.Sound.{IsSound}
use Rattle.txn_commands.specs.Agreement.{AgreeOn}
use Rattle.txn_commands.specs.Elements.{Touched}
use Rattle.txn_commands.specs.Records.{AreProper, Lead, Records}
use Rattle.txn_commands.proofs.Agreements.{agree-sym}
use Rattle.undo_rules.specs.declared.log.Logged.{Logged}
use Rattle.undo_rules.specs.Histories.{Chain, RunsBetween}
use Rattle.undo_rules.specs.Links.{Entry, first_reader}
use Rattle.txn_commands.specs.Meets.{meets_touched}
use Rattle.undo_rules.proofs.Grounds.{apart, ran_again, ran_past, ran_sound}
use Rattle.txn_rules.proofs.Overlay.{unmet_agree}

-- no live one of these transactions has touched what was written
abbrev pub AreUnread : Records → List Entry → Type 0
AreUnread ws [] = Unit {0}
AreUnread ws (entry ∷ entries) = (entry.live ≡ true → meets_touched ws entry.footprint ≡ false) × AreUnread ws entries

pub no_reader : (ws : Records) (entries : List Entry) → first_reader ws entries ≡ None → AreUnread ws entries
no_reader ws [] h = tt
no_reader ws (entry ∷ entries) h = by entry.live refl (meets_touched ws entry.footprint) refl h (no_reader ws entries) where
  by : (live : Bool) → entry.live ≡ live → (met : Bool) → meets_touched ws entry.footprint ≡ met
      → cond (live && met) (Some entry.txn) (first_reader ws entries) ≡ None → (first_reader ws entries ≡ None → AreUnread ws entries)
      → (entry.live ≡ true → meets_touched ws entry.footprint ≡ false) × AreUnread ws entries
  by true is true told h rest = absurd cc
  by true is false told h rest = ((λ live. told), rest h)
  by false is met told h rest = ((λ live. absurd cc), rest h)

module _ (log : List Logged) where
  agreed : (ws : Records) (touched : Touched) (l m : Layout) → Lead ws l m → meets_touched ws touched ≡ false → AgreeOn l m touched
  agreed ws touched l m lead free e has = unmet_agree ws l m e lead (apart ws touched free e has)

  -- the chain without the records, which lead to the layout with them
  pub without_them : (ws : Records) (entries : List Entry) (l m last : Layout) → AreProper ws → Lead ws l m → IsSound l → IsSound m
      → AreUnread ws entries → Chain log m entries last
      → (end : Layout) × Chain log l entries end × Lead ws end last
  without_them ws [] l m last proper lead l_sound m_sound unread chain = (l, refl, subst (λ (x : Layout). Lead ws l x) chain lead)
  without_them ws (entry ∷ entries) l m last proper lead l_sound m_sound unread chain =
      by entry.live refl chain (λ k n. without_them ws entries k n last proper) where
        by : (live : Bool) → entry.live ≡ live
            → MatchBool live ((next : Layout) × RunsBetween log entry m next × Chain log next entries last) (Chain log m entries last)
            → ((k n : Layout) → Lead ws k n → IsSound k → IsSound n → AreUnread ws entries → Chain log n entries last
            → (end : Layout) × Chain log k entries end × Lead ws end last)
            → (end : Layout)
            × MatchBool live ((next : Layout) × RunsBetween log entry l next × Chain log next entries end) (Chain log l entries end)
            × Lead ws end last
        by true is (n, ran, chain) rest =
            let free = unread.0 is in
            let (k, alike, agree) = ran_again log entry m l n m_sound l_sound
            (λ e has. agree-sym l m e (agreed ws entry.footprint l m lead free e has)) ran in
            let past = ran_past log ws entry l m k n proper free lead alike ran (λ e has. agree-sym n k e (agree e has)) in
            let (end, others, led) = rest k n past (ran_sound log entry l k alike l_sound) (ran_sound log entry m n ran m_sound)
            unread.1 chain in
            (end, (k, alike, others), led)
        by false is chain rest = rest l m lead l_sound m_sound unread.1 chain

  -- the chain with the records, which lead to it from the layout without them
  pub with_them : (ws : Records) (entries : List Entry) (l m last : Layout) → AreProper ws → Lead ws l m → IsSound l → IsSound m
      → AreUnread ws entries → Chain log l entries last
      → (end : Layout) × Chain log m entries end × Lead ws last end
  with_them ws [] l m last proper lead l_sound m_sound unread chain = (m, refl, subst (λ (x : Layout). Lead ws x m) chain lead)
  with_them ws (entry ∷ entries) l m last proper lead l_sound m_sound unread chain =
      by entry.live refl chain (λ k n. with_them ws entries k n last proper) where
        by : (live : Bool) → entry.live ≡ live
            → MatchBool live ((next : Layout) × RunsBetween log entry l next × Chain log next entries last) (Chain log l entries last)
            → ((k n : Layout) → Lead ws k n → IsSound k → IsSound n → AreUnread ws entries → Chain log k entries last
            → (end : Layout) × Chain log n entries end × Lead ws last end)
            → (end : Layout)
            × MatchBool live ((next : Layout) × RunsBetween log entry m next × Chain log next entries end) (Chain log m entries end)
            × Lead ws last end
        by true is (k, ran, chain) rest =
            let free = unread.0 is in
            let (n, alike, agree) = ran_again log entry l m k l_sound m_sound (agreed ws entry.footprint l m lead free) ran in
            let past = ran_past log ws entry l m k n proper free lead ran alike agree in
            let (end, others, led) = rest k n past (ran_sound log entry l k ran l_sound) (ran_sound log entry m n alike m_sound)
            unread.1 chain in
            (end, (n, alike, others), led)
        by false is chain rest = rest l m lead l_sound m_sound unread.1 chain
