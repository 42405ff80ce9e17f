-- What is kept of the transactions stays so where one of them is marked otherwise.
use Rattle.std.proofs.Common.{◌≡◌, ◌⊎◌, inl, inr, Bool, true, List, [], ◌∷◌, ◌++◌, length}
use Rattle.std.proofs.Common.{map, refl, sym, subst, ◌∙◌, append_assoc, append-nil, arith}
use Rattle.std.proofs.lemmas.List.{length-append}
use Rattle.lay_layouts.specs.Layout.{Layout}
use Rattle.txn_commands.specs.Records.{Records}
use Rattle.undo_rules.specs.declared.log.Logged.{Logged}
use Rattle.undo_rules.specs.Histories.{AreRooted, IsRooted, RunsBetween}
use Rattle.undo_rules.specs.Links.{Entry, Trace, linked, live_of, marked, trace_of}
use Rattle.undo_rules.proofs.Chains.{AreUnread}
use Rattle.undo_rules.proofs.EqualLinks.{SameBut, links_but}

-- a transaction runs as it did, whatever its mark
pub ran_marked : (log : List Logged) (entry : Entry) (live : Bool) (l m : Layout) → RunsBetween log entry l m
    → RunsBetween log (marked live entry) l m
ran_marked log entry live l m ran = record {
  commands = ran.commands;
  run = ran.run;
  told = ran.told;
  runs = ran.runs;
  after_is = ran.after_is;
  writes = ran.writes;
  footprint = ran.footprint;
}

-- and it is rooted as it was
pub rooted_marked : (log : List Logged) (base : Layout) (earlier : List Trace) (entry : Entry) (live : Bool) →
    IsRooted log base earlier entry → IsRooted log base earlier (marked live entry)
rooted_marked log base earlier entry live rooted = record {
  marks = rooted.marks;
  count = rooted.count;
  before = rooted.before;
  after = rooted.after;
  sound = rooted.sound;
  laid = rooted.laid;
  ran = ran_marked log entry live rooted.before rooted.after rooted.ran;
  seen = rooted.seen;
}

same_but-more : (ws : Records) (ts : List Trace) (ms ns : List Bool) (t : Trace) (m n : Bool) → SameBut ws ts ms ns →
    length ms ≡ length ts → length ns ≡ length ts → (m ≡ n) ⊎ (t.writes ≡ ws) → SameBut ws (ts ++ t ∷ []) (ms ++ m ∷ []) (ns ++ n ∷ [])
same_but-more ws [] [] [] t m n same long lasting last = (last, tt)
same_but-more ws [] [] (b ∷ ns) t m n same long lasting last = absurd cc
same_but-more ws [] (a ∷ ms) ns t m n same long lasting last = absurd cc
same_but-more ws (u ∷ ts) [] ns t m n same long lasting last = absurd same
same_but-more ws (u ∷ ts) (a ∷ ms) [] t m n same long lasting last = absurd same
same_but-more ws (u ∷ ts) (a ∷ ms) (b ∷ ns) t m n same long lasting last =
    (same.0, same_but-more ws ts ms ns t m n same.1 (omega (arith, long)) (omega (arith, lasting)) last)

longer : {X Y : Type 0} (xs : List X) (ys : List Y) (x : X) (y : Y) → length xs ≡ length ys → length (xs ++ x ∷ []) ≡ length (ys ++ y ∷ [])
longer xs ys x y h = omega (arith, h, length-append xs (x ∷ []), length-append ys (y ∷ []))

-- where marks differ only at transactions whose records no later live one touched, the later ones are rooted
pub rooted_but : (log : List Logged) (base : Layout) (ws : Records) (earlier : List Trace) (ms ns : List Bool) (entries : List Entry) →
    SameBut ws earlier ms ns → length ms ≡ length earlier → length ns ≡ length earlier → AreUnread ws entries →
    AreRooted log base earlier ms entries → AreRooted log base earlier ns entries
rooted_but log base ws earlier ms ns [] same long lasting unread rooted = tt
rooted_but log base ws earlier ms ns (entry ∷ entries) same long lasting unread (root, links, rest) = (
  root,
  λ live. sym (links_but ws entry.footprint earlier ms ns (unread.0 live) same) ∙ links live,
  rooted_but log base ws (earlier ++ trace_of entry ∷ []) (ms ++ entry.live ∷ []) (ns ++ entry.live ∷ []) entries
      (same_but-more ws earlier ms ns (trace_of entry) entry.live entry.live same long lasting (inl refl))
      (longer ms earlier entry.live (trace_of entry) long) (longer ns earlier entry.live (trace_of entry) lasting) unread.1 rest,
)

same_but-refl : (ws : Records) (ts : List Trace) (ms : List Bool) → length ms ≡ length ts → SameBut ws ts ms ms
same_but-refl ws [] ms long = tt
same_but-refl ws (t ∷ ts) [] long = absurd cc
same_but-refl ws (t ∷ ts) (m ∷ ms) long = (inl refl, same_but-refl ws ts ms (omega (arith, long)))

-- a transaction with another mark, which no later live one touched: it is linked to what it has seen where it is live
pub rooted_again : (log : List Logged) (base : Layout) (earlier : List Trace) (ms : List Bool) (before : List Entry) (entry : Entry)
    (later : List Entry) (live : Bool) → length ms ≡ length earlier → AreUnread entry.writes later →
    (live ≡ true → linked entry.footprint (earlier ++ map trace_of before) (ms ++ map live_of before) ≡ entry.seen) →
    AreRooted log base earlier ms (before ++ entry ∷ later) → AreRooted log base earlier ms (before ++ marked live entry ∷ later)
rooted_again log base earlier ms [] entry later live long unread linked_so (root, links, rest) = (
  rooted_marked log base earlier entry live root,
  λ is. (λ i. linked entry.footprint (sym (append-nil earlier) i) (sym (append-nil ms) i)) ∙ linked_so is,
  rooted_but log base entry.writes (earlier ++ trace_of entry ∷ []) (ms ++ entry.live ∷ []) (ms ++ live ∷ []) later
      (same_but-more entry.writes earlier ms ms (trace_of entry) entry.live live (same_but-refl entry.writes earlier ms long) long long
      (inr refl)) (longer ms earlier entry.live (trace_of entry) long) (longer ms earlier live (trace_of entry) long) unread rest,
)
rooted_again log base earlier ms (b ∷ before) entry later live long unread linked_so (root, links, rest) = (
  root,
  links,
  rooted_again log base (earlier ++ trace_of b ∷ []) (ms ++ b.live ∷ []) before entry later live
      (longer ms earlier b.live (trace_of b) long)
      unread (λ is. (λ i. linked entry.footprint (append_assoc earlier (trace_of b ∷ []) (map trace_of before) i)
      (append_assoc ms (b.live ∷ []) (map live_of before) i)) ∙ linked_so is) rest,
)

-- what a transaction in the list is rooted in
pub root_of : (log : List Logged) (base : Layout) (earlier : List Trace) (ms : List Bool) (before : List Entry) (entry : Entry)
    (later : List Entry) → AreRooted log base earlier ms (before ++ entry ∷ later) →
    IsRooted log base (earlier ++ map trace_of before) entry
    × (entry.live ≡ true → linked entry.footprint (earlier ++ map trace_of before) (ms ++ map live_of before) ≡ entry.seen)
root_of log base earlier ms [] entry later (root, links, rest) = (
  subst (λ (ts : List Trace). IsRooted log base ts entry) (sym (append-nil earlier)) root,
  λ is. (λ i. linked entry.footprint (append-nil earlier i) (append-nil ms i)) ∙ links is,
)
root_of log base earlier ms (b ∷ before) entry later (root, links, rest) =
    let found = root_of log base (earlier ++ trace_of b ∷ []) (ms ++ b.live ∷ []) before entry later rest in (
      subst (λ (ts : List Trace). IsRooted log base ts entry) (append_assoc earlier (trace_of b ∷ []) (map trace_of before)) found.0,
      λ is. (λ i. linked entry.footprint (sym (append_assoc earlier (trace_of b ∷ []) (map trace_of before)) i)
          (sym (append_assoc ms (b.live ∷ []) (map live_of before)) i)) ∙ found.1 is,
    )
