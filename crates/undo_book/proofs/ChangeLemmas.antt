-- What is kept of the changes in a log, as calls are logged.
use Rattle.std.proofs.Common.{◌≡◌, ℕ, ◌+◌, ◌<◌, zero, suc, Bool, true, false, cond, List, [], ◌∷◌, ◌++◌, length, take, Option, None, Some}
use Rattle.std.proofs.Common.{option_map, refl, sym, ap, subst, ◌∙◌, arith, append_assoc, append-nil, get_or, slice_get, slice_set}
use Rattle.std.proofs.lemmas.List.{length-append}
use Rattle.std.proofs.lemmas.Option.{get_or_from_slice_get, slice_get_read}
use Rattle.std.specs.List.{AllByRecursion}
use Rattle.txn_commands.specs.declared.command.TxnId.{TxnId}
use Rattle.undo_rules.specs.declared.log.Logged.{Logged}
use Rattle.undo_rules.specs.Books.{History, changed_in}
use Rattle.undo_rules.specs.Links.{Entry, marked, txn_eq}
use Rattle.undo_rules.specs.Steps.{remarked}
use Rattle.undo_rules.proofs.EqualLinks.{txn_eq-same}
use Rattle.undo_rules.proofs.OpenLaws.{set_length}
use Rattle.undo_rules.proofs.EqualLinks.{txn_eq-true}
use Rattle.undo_book.specs.Changes.{AreChanges, changed_at, changed_of, earlier_at, earlier_of, previous_changes, first_change, is_of}
use Rattle.undo_book.specs.Changes.{is_unchanged_since}
use Rattle.undo_book.specs.Changes.{kept_at, last_change, or_first}
use Rattle.undo_book.specs.Places.{place_of}
use Rattle.undo_book.proofs.FoundLemmas.{get_within}
use Rattle.undo_book.proofs.PlaceLemmas.{place_last, place_marked, place_pushed, place_within}

-- ---- one more call

-- the last change is the new call, or as it was
last_pushed : (txn : TxnId) (log : List Logged) (call : Logged) →
    last_change txn (log ++ call ∷ []) ≡ cond (is_of txn (changed_in call)) (Some (length log)) (last_change txn log)
last_pushed txn [] call = refl
last_pushed txn (x ∷ log) call =
    ap (λ rest. or_first rest (is_of txn (changed_in x))) (last_pushed txn log call) ∙ by (is_of txn (changed_in call)) where
      by : (b : Bool) → or_first (cond b (Some (length log)) (last_change txn log)) (is_of txn (changed_in x))
          ≡ cond b (Some (suc (length log))) (or_first (last_change txn log) (is_of txn (changed_in x)))
      by true = refl
      by false = refl

earliers_pushed : (before calls : List Logged) (call : Logged) →
    previous_changes before (calls ++ call ∷ []) ≡ previous_changes before calls ++ earlier_of (before ++ calls) (changed_in call) ∷ []
earliers_pushed before [] call = ap (λ all. earlier_of all (changed_in call) ∷ []) (sym (append-nil before))
earliers_pushed before (x ∷ calls) call =
    ap (λ rest. earlier_of before (changed_in x) ∷ rest)
    (earliers_pushed (before ++ x ∷ []) calls call
    ∙ ap (λ all. previous_changes (before ++ x ∷ []) calls ++ earlier_of all (changed_in call) ∷ []) (append_assoc before (x ∷ []) calls))

-- ---- what is kept of one call

earlier_read : (before calls : List Logged) (i : ℕ) (call : Logged) → slice_get calls i ≡ Some call →
    slice_get (previous_changes before calls) i ≡ Some (earlier_of (before ++ take i calls) (changed_in call))
earlier_read before [] i call at = absurd cc
earlier_read before (x ∷ calls) zero call at =
    let same : x ≡ call = cc in
    λ j. Some (earlier_of (sym (append-nil before) j) (changed_in (same j)))
earlier_read before (x ∷ calls) (suc i) call at =
    earlier_read (before ++ x ∷ []) calls i call at
    ∙ ap (λ all. Some (earlier_of all (changed_in call))) (append_assoc before (x ∷ []) (take i calls))

long_earliers : (before calls : List Logged) → length (previous_changes before calls) ≡ length calls
long_earliers before [] = refl
long_earliers before (x ∷ calls) = ap suc (long_earliers (before ++ x ∷ []) calls)

pub kept_long : (earlier : List (Option ℕ)) (last : List ℕ) (log : List Logged) (entries : List Entry) →
    AreChanges earlier last log entries → length earlier ≡ length log
kept_long earlier last log entries are = ap length are.calls ∙ long_earliers [] log

pub kept_read : (earlier : List (Option ℕ)) (last : List ℕ) (log : List Logged) (entries : List Entry) →
    AreChanges earlier last log entries → (i : ℕ) (d : Option ℕ) → i < length log → get_or earlier i d ≡ earlier_at log i
kept_read earlier last log entries are i d less = by (slice_get log i) refl where
  by : (o : Option Logged) → slice_get log i ≡ o → get_or earlier i d ≡ earlier_of (take i log) (changed_of o)
  by None none = absurd (get_within log i less none)
  by (Some call) at =
      get_or_from_slice_get earlier i (earlier_of (take i log) (changed_in call)) d
      (ap (λ xs. slice_get xs i) are.calls ∙ earlier_read [] log i call at)

-- what is kept of a call says whether its change is the first since a place
pub first_kept : (earlier : List (Option ℕ)) (last : List ℕ) (b now : History) → b ≡ now → AreChanges earlier last b.log b.entries →
    (place since : ℕ) (kept : Option ℕ) (first : Bool) → place < length now.log → kept ≡ get_or earlier place kept →
    first ≡ is_unchanged_since kept since → cond first (changed_at now.log place) None ≡ first_change now.log since place
first_kept earlier last b now view are place since kept first less read is =
    let within : place < length b.log = subst (λ (h : History). place < length h.log) (sym view) less in
    let same : kept ≡ earlier_at b.log place = read ∙ kept_read earlier last b.log b.entries are place kept within in
    subst (λ (h : History). cond first (changed_at h.log place) None ≡ first_change h.log since place) view
    (ap (λ t. cond t (changed_at b.log place) None) is ∙ ap (λ o. cond (is_unchanged_since o since) (changed_at b.log place) None) same)

-- the call that is read is the one at its place
pub changed_read : (b now : History) → b ≡ now → (place : ℕ) (call : Logged) → place < length now.log → call ≡ get_or b.log place call →
    changed_in call ≡ changed_at now.log place
changed_read b now view place call less read =
    subst (λ (h : History). changed_in call ≡ changed_at h.log place) view
    (sym (ap changed_of (slice_get_read b.log (length b.log) place call refl
    (subst (λ (h : History). place < length h.log) (sym view) less) read)))

-- ---- lists

get_pushed : {X : Type 0} (xs : List X) (x : X) (i : ℕ) → i < length xs → slice_get (xs ++ x ∷ []) i ≡ slice_get xs i
get_pushed [] x i less = absurd (omega (arith, less))
get_pushed (y ∷ xs) x zero less = refl
get_pushed (y ∷ xs) x (suc i) less = get_pushed xs x i (omega (arith, less))

get_last : {X : Type 0} (xs : List X) (x : X) (i : ℕ) → i ≡ length xs → slice_get (xs ++ x ∷ []) i ≡ Some x
get_last [] x zero last = refl
get_last [] x (suc i) last = absurd (omega (arith, last))
get_last (y ∷ xs) x zero last = absurd (omega (arith, last))
get_last (y ∷ xs) x (suc i) last = get_last xs x i (omega (arith, last))

get_set : {X : Type 0} (xs : List X) (i : ℕ) (x : X) → i < length xs → slice_get (slice_set xs i x) i ≡ Some x
get_set [] i x less = absurd (omega (arith, less))
get_set (y ∷ xs) zero x less = refl
get_set (y ∷ xs) (suc i) x less = get_set xs i x (omega (arith, less))

get_other : {X : Type 0} (xs : List X) (i j : ℕ) (x : X) → (i ≡ j → ⊥) → slice_get (slice_set xs i x) j ≡ slice_get xs j
get_other [] i j x apart = refl
get_other (y ∷ xs) zero zero x apart = absurd (apart refl)
get_other (y ∷ xs) zero (suc j) x apart = refl
get_other (y ∷ xs) (suc i) zero x apart = refl
get_other (y ∷ xs) (suc i) (suc j) x apart = get_other xs i j x (λ same. apart (ap suc same))

-- ---- a call that changes nothing

pub none_kept : AreChanges [] [] [] []
none_kept = record { calls = refl; named = λ txn. refl; long = refl }

pub unchanged_kept : (earlier : List (Option ℕ)) (last : List ℕ) (log : List Logged) (entries : List Entry) (call : Logged) →
    AreChanges earlier last log entries → changed_in call ≡ None → AreChanges (earlier ++ None ∷ []) last (log ++ call ∷ []) entries
unchanged_kept earlier last log entries call are none = record {
  calls = ap (λ xs. xs ++ None ∷ []) are.calls
      ∙ sym (earliers_pushed [] log call ∙ ap (λ o. previous_changes [] log ++ earlier_of log o ∷ []) none);
  named = λ txn. last_pushed txn log call ∙ ap (λ o. cond (is_of txn o) (Some (length log)) (last_change txn log)) none ∙ are.named txn;
  long = are.long;
}

-- ---- a commit

-- a name that no transaction has is at no place
no_place : (entries : List Entry) (txn : TxnId) → AllByRecursion (λ other. txn_eq other.txn txn ≡ false) entries →
    place_of txn entries ≡ None
no_place [] txn apart = refl
no_place (e ∷ es) txn apart =
    ap (λ b. cond b (Some 0) (option_map suc (place_of txn es))) apart.0 ∙ ap (option_map suc) (no_place es txn apart.1)

-- what is kept of the others stays
kept_pushed : (last : List ℕ) (place : ℕ) (entries : List Entry) (txn : TxnId) → length last ≡ length entries →
    kept_at (last ++ place ∷ []) (place_of txn entries) ≡ kept_at last (place_of txn entries)
kept_pushed last place entries txn long = by (place_of txn entries) refl where
  by : (p : Option ℕ) → place_of txn entries ≡ p → kept_at (last ++ place ∷ []) p ≡ kept_at last p
  by None at = refl
  by (Some i) at =
      let within = place_within entries txn i at in
      get_pushed last place i (omega (arith, within, long))

pub commit_kept : (earlier : List (Option ℕ)) (last : List ℕ) (log : List Logged) (entries : List Entry) (call : Logged) (entry : Entry) →
    AreChanges earlier last log entries → changed_in call ≡ Some entry.txn →
    AllByRecursion (λ other. txn_eq other.txn entry.txn ≡ false) entries →
    AreChanges (earlier ++ None ∷ []) (last ++ length log ∷ []) (log ++ call ∷ []) (entries ++ entry ∷ [])
commit_kept earlier last log entries call entry are changed apart = record {
  calls = ap (λ xs. xs ++ None ∷ []) are.calls
      ∙ sym (earliers_pushed [] log call ∙ ap (λ o. previous_changes [] log ++ earlier_of log o ∷ []) changed
      ∙ ap (λ o. previous_changes [] log ++ o ∷ []) first);
  named = λ txn. last_pushed txn log call
      ∙ ap (λ o. cond (is_of txn o) (Some (length log)) (last_change txn log)) changed ∙ by txn (txn_eq entry.txn txn) refl;
  long = length-append last (length log ∷ []) ∙ longer ∙ sym (length-append entries (entry ∷ []));
} where
  longer : length last + 1 ≡ length entries + 1
  longer = ap (λ n. n + 1) are.long

  -- no call changed it before
  first : last_change entry.txn log ≡ None
  first = are.named entry.txn ∙ ap (kept_at last) (no_place entries entry.txn apart)

  by : (txn : TxnId) (b : Bool) → txn_eq entry.txn txn ≡ b → cond b (Some (length log)) (last_change txn log)
      ≡ kept_at (last ++ length log ∷ []) (place_of txn (entries ++ entry ∷ []))
  by txn true is =
      sym (ap (λ name. kept_at (last ++ length log ∷ []) (place_of name (entries ++ entry ∷ []))) (sym (txn_eq-true entry.txn txn is))
      ∙ ap (kept_at (last ++ length log ∷ [])) (place_last entries entry apart)
      ∙ get_last last (length log) (length entries) (sym are.long))
  by txn false is =
      are.named txn ∙ sym (ap (kept_at (last ++ length log ∷ [])) (place_pushed entries entry txn is)
      ∙ kept_pushed last (length log) entries txn are.long)

-- ---- an undo and a redo

marked_long : (live : Bool) (txn : TxnId) (entries : List Entry) → length (remarked live txn entries) ≡ length entries
marked_long live txn [] = refl
marked_long live txn (e ∷ es) = by (txn_eq e.txn txn) (marked_long live txn es) where
  by : (b : Bool) → length (remarked live txn es) ≡ length es
      → length (cond b (marked live e ∷ es) (e ∷ remarked live txn es)) ≡ suc (length es)
  by true rest = refl
  by false rest = ap suc rest

-- a place is that of one name
one_name : (entries : List Entry) (s t : TxnId) (i : ℕ) → place_of s entries ≡ Some i → place_of t entries ≡ Some i → s ≡ t
one_name [] s t i at too = absurd cc
one_name (e ∷ es) s t i at too =
    by (txn_eq e.txn s) (txn_eq e.txn t) refl refl (place_of s es) (place_of t es) refl refl at too (λ k. one_name es s t k) where
      by : (a b : Bool) → txn_eq e.txn s ≡ a → txn_eq e.txn t ≡ b → (p q : Option ℕ) → place_of s es ≡ p → place_of t es ≡ q
          → cond a (Some 0) (option_map suc p) ≡ Some i → cond b (Some 0) (option_map suc q) ≡ Some i
          → ((k : ℕ) → place_of s es ≡ Some k → place_of t es ≡ Some k → s ≡ t) → s ≡ t
      by true true is its p q of too_of at too rest = sym (txn_eq-true e.txn s is) ∙ txn_eq-true e.txn t its
      by true false is its p None of too_of at too rest = absurd cc
      by true false is its p (Some k) of too_of at too rest =
          let first : 0 ≡ i = cc in
          let more : suc k ≡ i = cc in
          absurd (omega (arith, first, more))
      by false true is its None q of too_of at too rest = absurd cc
      by false true is its (Some k) q of too_of at too rest =
          let first : 0 ≡ i = cc in
          let more : suc k ≡ i = cc in
          absurd (omega (arith, first, more))
      by false false is its None q of too_of at too rest = absurd cc
      by false false is its (Some k) None of too_of at too rest = absurd cc
      by false false is its (Some k) (Some m) of too_of at too rest =
          let same : suc k ≡ i = cc in
          let its_same : suc m ≡ i = cc in
          let equal : m ≡ k = omega (arith, same, its_same) in
          rest k of (too_of ∙ ap Some equal)

pub again_kept : (earlier : List (Option ℕ)) (last : List ℕ) (log : List Logged) (entries : List Entry) (call : Logged) (txn : TxnId)
    (place : ℕ) (live : Bool) → AreChanges earlier last log entries → changed_in call ≡ Some txn → place_of txn entries ≡ Some place →
    AreChanges (earlier ++ slice_get last place ∷ []) (slice_set last place (length log)) (log ++ call ∷ []) (remarked live txn entries)
again_kept earlier last log entries call txn place live are changed placed = record {
  calls = ap (λ xs. xs ++ slice_get last place ∷ []) are.calls
      ∙ sym (earliers_pushed [] log call ∙ ap (λ o. previous_changes [] log ++ earlier_of log o ∷ []) changed
      ∙ ap (λ o. previous_changes [] log ++ o ∷ []) (are.named txn ∙ ap (kept_at last) placed));
  named = λ name. last_pushed name log call
      ∙ ap (λ o. cond (is_of name o) (Some (length log)) (last_change name log)) changed
      ∙ by name (txn_eq txn name) refl ∙ sym (ap (kept_at (slice_set last place (length log))) (place_marked live txn entries name));
  long = set_length last place (length log) ∙ are.long ∙ sym (marked_long live txn entries);
} where
  within : place < length last
  within = let less = place_within entries txn place placed in omega (arith, less, are.long)

  by : (name : TxnId) (b : Bool) → txn_eq txn name ≡ b → cond b (Some (length log)) (last_change name log)
      ≡ kept_at (slice_set last place (length log)) (place_of name entries)
  by name true is =
      sym (ap (λ n. kept_at (slice_set last place (length log)) (place_of n entries)) (sym (txn_eq-true txn name is))
      ∙ ap (kept_at (slice_set last place (length log))) placed ∙ get_set last place (length log) within)
  by name false is = are.named name ∙ other (place_of name entries) refl where
    other : (p : Option ℕ) → place_of name entries ≡ p → kept_at last p ≡ kept_at (slice_set last place (length log)) p
    other None at = refl
    other (Some i) at = sym (get_other last place i (length log) (λ same. apart (at ∙ ap Some (sym same)))) where
      apart : place_of name entries ≡ Some place → ⊥
      apart at =
          let same : txn ≡ name = one_name entries txn name place placed at in
          let equal : txn_eq txn name ≡ true = subst (λ (n : TxnId). txn_eq txn n ≡ true) same (txn_eq-same txn) in
          let none : true ≡ false = sym equal ∙ is in
          absurd cc

-- ---- the same of equal lists

pub same_lists : {e f : List (Option ℕ)} {l m : List ℕ} {g h : List Logged} {s t : List Entry} → f ≡ e → m ≡ l → h ≡ g → t ≡ s →
    AreChanges e l g s → AreChanges f m h t
same_lists {e} {f} {l} {m} {g} {h} {s} {t} earlier last log entries are =
    subst (λ (x : List (Option ℕ)). AreChanges x m h t) (sym earlier)
    (subst (λ (x : List ℕ). AreChanges e x h t) (sym last)
    (subst (λ (x : List Logged). AreChanges e l x t) (sym log)
    (subst (λ (x : List Entry). AreChanges e l g x) (sym entries) are)))

pub none_so : {earlier : List (Option ℕ)} {last : List ℕ} {log : List Logged} {entries : List Entry} →
    earlier ≡ [] → last ≡ [] → log ≡ [] → entries ≡ [] → AreChanges earlier last log entries
none_so earlier last log entries = same_lists earlier last log entries none_kept

pub unchanged_so : {earlier e : List (Option ℕ)} {last l : List ℕ} {log g : List Logged} {entries : List Entry} (call : Logged) →
    AreChanges earlier last log entries → changed_in call ≡ None → e ≡ earlier ++ None ∷ [] → l ≡ last → g ≡ log ++ call ∷ [] →
    AreChanges e l g entries
unchanged_so {earlier} {e} {last} {l} {log} {g} {entries} call are none kept others logged =
    same_lists kept others logged refl (unchanged_kept earlier last log entries call are none)

pub commit_so : {earlier e : List (Option ℕ)} {last l : List ℕ} {log g : List Logged} {entries s : List Entry} (call : Logged)
    (entry : Entry) → AreChanges earlier last log entries → changed_in call ≡ Some entry.txn →
    AllByRecursion (λ other. txn_eq other.txn entry.txn ≡ false) entries →
    e ≡ earlier ++ None ∷ [] → l ≡ last ++ length log ∷ [] → g ≡ log ++ call ∷ [] → s ≡ entries ++ entry ∷ [] → AreChanges e l g s
commit_so {earlier} {e} {last} {l} {log} {g} {entries} {s} call entry are changed apart kept others logged entered =
    same_lists kept others logged entered (commit_kept earlier last log entries call entry are changed apart)

pub again_so : {earlier e : List (Option ℕ)} {last l : List ℕ} {log g : List Logged} {entries s : List Entry} (call : Logged) (txn : TxnId)
    (place : ℕ) (live : Bool) → AreChanges earlier last log entries → changed_in call ≡ Some txn → place_of txn entries ≡ Some place →
    e ≡ earlier ++ slice_get last place ∷ [] → l ≡ slice_set last place (length log) → g ≡ log ++ call ∷ [] →
    s ≡ remarked live txn entries → AreChanges e l g s
again_so {earlier} {e} {last} {l} {log} {g} {entries} {s} call txn place live are changed placed kept others logged marks =
    same_lists kept others logged marks (again_kept earlier last log entries call txn place live are changed placed)
