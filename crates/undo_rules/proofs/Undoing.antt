-- What is kept of the transactions is kept where one of them is undone, redone or committed.
use Rattle.std.proofs.Common.{◌≡◌, Bool, true, false, List, [], ◌∷◌, ◌++◌, map, refl, sym, ap, subst, ◌∙◌}
use Rattle.std.specs.Prelude.{MatchBool}
use Rattle.std.specs.List.{AllByRecursion}
use Rattle.std.proofs.lemmas.List.{length-map, map-append}
use Rattle.lay_layouts.specs.Layout.{Layout}
use Rattle.lay_layouts.specs.Sound.{IsSound}
use Rattle.txn_commands.specs.Agreement.{AgreeOn}
use Rattle.txn_commands.specs.Records.{Lead, applied, reverted}
use Rattle.txn_commands.proofs.Agreements.{agree-equal}
use Rattle.txn_commands.proofs.Steps.{applied_leads, reverted_leads}
use Rattle.undo_rules.specs.declared.log.Logged.{Logged}
use Rattle.undo_rules.specs.Histories.{AreKept, Chain, IsRooted, Laid, RunsBetween}
use Rattle.undo_rules.specs.Links.{AreNamed, Entry, Trace, links_to, live_of, marked, trace_of, txn_eq}
use Rattle.undo_rules.proofs.Chains.{AreUnread, with_them, without_them}
use Rattle.undo_rules.proofs.EqualLinks.{equal_links}
use Rattle.undo_rules.proofs.Grounds.{apart, ran_again, ran_leads, ran_proper, ran_sound}
use Rattle.undo_rules.proofs.Laying.{laid-agree}
use Rattle.undo_rules.proofs.Roots.{ran_marked, root_of, rooted_again}

-- ---- chains

-- the live ones of a chain lead from its first layout to its last
pub chain_laid : (log : List Logged) (entries : List Entry) (first last : Layout) → Chain log first entries last →
    Laid (map trace_of entries) (map live_of entries) first last
chain_laid log [] first last chain = chain
chain_laid log (entry ∷ entries) first last chain = by entry.live chain (λ l. chain_laid log entries l last) where
  by : (live : Bool) → MatchBool live ((next : Layout) × RunsBetween log entry first next × Chain log next entries last)
      (Chain log first entries last)
      → ((l : Layout) → Chain log l entries last → Laid (map trace_of entries) (map live_of entries) l last)
      → MatchBool live ((next : Layout) × Lead entry.writes first next × Laid (map trace_of entries) (map live_of entries) next last)
      (Laid (map trace_of entries) (map live_of entries) first last)
  by true (next, ran, rest) laid = (next, ran_leads log entry first next ran, laid next rest)
  by false rest laid = laid first rest

-- it leads from a sound layout to a sound one
pub chain_sound : (log : List Logged) (entries : List Entry) (first last : Layout) → Chain log first entries last → IsSound first →
    IsSound last
chain_sound log [] first last chain sound = subst IsSound chain sound
chain_sound log (entry ∷ entries) first last chain sound = by entry.live chain (λ l. chain_sound log entries l last) where
  by : (live : Bool)
      → MatchBool live ((next : Layout) × RunsBetween log entry first next × Chain log next entries last) (Chain log first entries last)
      → ((l : Layout) → Chain log l entries last → IsSound l → IsSound last) → IsSound last
  by true (next, ran, rest) more = more next rest (ran_sound log entry first next ran sound)
  by false rest more = more first rest sound

-- it goes through a layout behind its first transactions
chain_cut : (log : List Logged) (before later : List Entry) (first last : Layout) → Chain log first (before ++ later) last →
    (mid : Layout) × Chain log first before mid × Chain log mid later last
chain_cut log [] later first last chain = (first, refl, chain)
chain_cut log (entry ∷ before) later first last chain = by entry.live chain (λ l. chain_cut log before later l last) where
  by : (live : Bool) → MatchBool live ((next : Layout) × RunsBetween log entry first next × Chain log next (before ++ later) last)
      (Chain log first (before ++ later) last)
      → ((l : Layout) → Chain log l (before ++ later) last → (mid : Layout) × Chain log l before mid × Chain log mid later last)
      → (mid : Layout)
      × MatchBool live ((next : Layout) × RunsBetween log entry first next × Chain log next before mid) (Chain log first before mid)
      × Chain log mid later last
  by true (next, ran, rest) cut = let (mid, front, back) = cut next rest in (mid, (next, ran, front), back)
  by false rest cut = cut first rest

pub chain_join : (log : List Logged) (before later : List Entry) (first mid last : Layout) → Chain log first before mid →
    Chain log mid later last → Chain log first (before ++ later) last
chain_join log [] later first mid last front back = subst (λ (l : Layout). Chain log l later last) (sym front) back
chain_join log (entry ∷ before) later first mid last front back =
    by entry.live front (λ l rest. chain_join log before later l mid last rest back) where
      by : (live : Bool) → MatchBool live ((next : Layout) × RunsBetween log entry first next × Chain log next before mid)
          (Chain log first before mid)
          → ((l : Layout) → Chain log l before mid → Chain log l (before ++ later) last)
          → MatchBool live ((next : Layout) × RunsBetween log entry first next × Chain log next (before ++ later) last)
          (Chain log first (before ++ later) last)
      by true (next, ran, rest) join = (next, ran, join next rest)
      by false rest join = join first rest

-- ---- names

-- marks don't change what transactions are called and wrote
same_traces : (before : List Entry) (entry : Entry) (later : List Entry) (live : Bool) →
    map trace_of (before ++ marked live entry ∷ later) ≡ map trace_of (before ++ entry ∷ later)
same_traces [] entry later live = refl
same_traces (b ∷ before) entry later live = ap (λ ts. trace_of b ∷ ts) (same_traces before entry later live)

all_front : {X : Type 0} (P : X → Type 0) (xs ys : List X) → AllByRecursion P (xs ++ ys) → AllByRecursion P xs
all_front P [] ys all = tt
all_front P (x ∷ xs) ys all = (all.0, all_front P xs ys all.1)

pub named_front : (before later : List Entry) → AreNamed (map trace_of (before ++ later)) → AreNamed (map trace_of before)
named_front [] later named = tt
named_front (b ∷ before) later named = (
  all_front (λ (u : Trace). txn_eq b.txn u.txn ≡ false) (map trace_of before) (map trace_of later)
      (subst (AllByRecursion (λ (u : Trace). txn_eq b.txn u.txn ≡ false)) (map-append trace_of before later) named.0),
  named_front before later named.1,
)

-- ---- undo

-- a live transaction that no later live one touched is undone
pub undone_kept : (log : List Logged) (base layout : Layout) (before : List Entry) (entry : Entry) (later : List Entry) →
    IsSound base → entry.live ≡ true → AreUnread entry.writes later → AreKept log base layout (before ++ entry ∷ later) →
    (end : Layout) × AreKept log base end (before ++ marked false entry ∷ later)
    × (reverted layout entry.writes ≡ end) × (applied end entry.writes ≡ layout) × Lead entry.writes end layout
undone_kept log base layout before entry later sound is unread kept =
    let (first, front, back) = chain_cut log before (entry ∷ later) base layout kept.chain in
    by entry.live is first back front where
      by : (live : Bool) → live ≡ true → (first : Layout)
          → MatchBool live ((next : Layout) × RunsBetween log entry first next × Chain log next later layout) (Chain log first later layout)
          → Chain log base before first
          → (end : Layout) × AreKept log base end (before ++ marked false entry ∷ later)
          × (reverted layout entry.writes ≡ end) × (applied end entry.writes ≡ layout) × Lead entry.writes end layout
      by false is first back front = absurd cc
      by true is first (next, ran, rest) front =
          let proper = ran_proper log entry first next ran in
          let first_sound = chain_sound log before base first front sound in
          let (end, chain, lead) = without_them log entry.writes later first next layout proper (ran_leads log entry first next ran)
          first_sound (ran_sound log entry first next ran first_sound) unread rest in (
            end,
            record {
              chain = chain_join log before (marked false entry ∷ later) base first end front chain;
              rooted = rooted_again log base [] [] before entry later false refl unread (λ no. absurd cc) kept.rooted;
              named = subst AreNamed (sym (same_traces before entry later false)) kept.named;
            },
            reverted_leads entry.writes end layout proper lead,
            applied_leads entry.writes end layout proper lead,
            lead,
          )

-- ---- redo

-- an undone transaction that no later live one touched, and that is linked to what it has seen, is redone
pub redone_kept : (log : List Logged) (base layout : Layout) (before : List Entry) (entry : Entry) (later : List Entry) →
    IsSound base → entry.live ≡ false → AreUnread entry.writes later → links_to before entry.footprint ≡ entry.seen →
    AreKept log base layout (before ++ entry ∷ later) →
    (end : Layout) × AreKept log base end (before ++ marked true entry ∷ later) × (applied layout entry.writes ≡ end)
    × Lead entry.writes layout end
redone_kept log base layout before entry later sound is unread links kept =
    let (first, front, back) = chain_cut log before (entry ∷ later) base layout kept.chain in
    let (root, _) = root_of log base [] [] before entry later kept.rooted in
    by entry.live is first back front root where
      by : (live : Bool) → live ≡ false → (first : Layout)
          → MatchBool live ((next : Layout) × RunsBetween log entry first next × Chain log next later layout) (Chain log first later layout)
          → Chain log base before first → IsRooted log base (map trace_of before) entry
          → (end : Layout) × AreKept log base end (before ++ marked true entry ∷ later) × (applied layout entry.writes ≡ end)
          × Lead entry.writes layout end
      by true is first back front root = absurd cc
      by false is first back front root =
          let laid = chain_laid log before base first front in
          let named = named_front before (entry ∷ later) kept.named in
          let agree : AgreeOn root.before first entry.footprint = λ e has.
          laid-agree e (map trace_of before) root.marks (map live_of before) base base root.before first
          (equal_links entry.footprint e (λ ws free. apart ws entry.footprint free e has) (map trace_of before) root.marks
          (map live_of before)
          named root.count (length-map before live_of ∙ sym (length-map before trace_of)) (root.seen ∙ sym links)) root.laid laid
          (agree-equal base base e refl) in
          let first_sound = chain_sound log before base first front sound in
          let (next, ran, _) = ran_again log entry root.before first root.after root.sound first_sound agree root.ran in
          let proper = ran_proper log entry first next ran in
          let (end, chain, lead) = with_them log entry.writes later first next layout proper (ran_leads log entry first next ran)
          first_sound (ran_sound log entry first next ran first_sound) unread back in (
            end,
            record {
              chain = chain_join log before (marked true entry ∷ later) base first end front
                  (next, ran_marked log entry true first next ran, chain);
              rooted = rooted_again log base [] [] before entry later true refl unread (λ _. links) kept.rooted;
              named = subst AreNamed (sym (same_traces before entry later true)) kept.named;
            },
            applied_leads entry.writes layout end proper lead,
            lead,
          )
