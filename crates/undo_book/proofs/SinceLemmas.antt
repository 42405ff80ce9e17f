-- Where nothing was undone or redone since a place of the log, the transactions that were changed since are the last ones.
use Rattle.std.proofs.Common.{◌≡◌, ℕ, ◌+◌, ◌<◌, ◌≤◌, zero, suc, Bool, true, false, cond, ◌&&◌, ◌||◌, List, [], ◌∷◌, ◌++◌, length, drop}
use Rattle.std.proofs.Common.{◌⊎◌, inl, inr, Option, None, Some, refl, sym, ap, subst, ◌∙◌, arith, get_or, slice_get, slice_set, option_map}
use Rattle.std.proofs.lemmas.Bool.Decides.{nat_tests}
use Rattle.std.proofs.lemmas.List.{length-append}
use Rattle.std.proofs.lemmas.Option.{get_or_from_slice_get}
use Rattle.std.specs.Prelude.{nat_lt}
use Rattle.std.specs.List.{list_any}
use Rattle.std.specs.List.Sorted.{IsNonDecreasingBy, IsPartitionPoint}
use Rattle.txn_commands.specs.declared.command.TxnId.{TxnId}
use Rattle.txn_commands.specs.Elements.{Touched}
use Rattle.undo_rules.specs.declared.log.Logged.{Logged}
use Rattle.undo_rules.specs.Books.{changed_in, writes_of}
use Rattle.undo_rules.specs.Links.{Entry, marked, txn_eq}
use Rattle.txn_commands.specs.Meets.{meets_touched}
use Rattle.undo_rules.specs.Steps.{remarked, stale_by, stale_first, touching}
use Rattle.undo_rules.proofs.EqualLinks.{txn_eq-same}
use Rattle.undo_book.specs.Changes.{AreChanges, AreCommits, is_of, kept_at, last_change, or_first}
use Rattle.undo_book.specs.Indexed.{is_linked}
use Rattle.undo_book.specs.Places.{place_of}
use Rattle.undo_book.proofs.FoundLemmas.{get_within}
use Rattle.undo_book.proofs.PlaceLemmas.{entry_there, place_within}

-- ---- lists

get_there : {X : Type 0} (xs : List X) (i : ℕ) (x : X) → slice_get xs i ≡ Some x → i < length xs
get_there [] i x at = absurd cc
get_there (y ∷ xs) zero x at = omega arith
get_there (y ∷ xs) (suc i) x at = let less = get_there xs i x at in omega (arith, less)

-- what stands in a list with one item more is of the list, or is the item
pushed_is : {X : Type 0} (xs : List X) (x : X) (i : ℕ) (y : X) → slice_get (xs ++ x ∷ []) i ≡ Some y →
    (slice_get xs i ≡ Some y) ⊎ ((i ≡ length xs) × (x ≡ y))
pushed_is [] x zero y at = inr (refl, cc)
pushed_is [] x (suc i) y at = absurd cc
pushed_is (z ∷ xs) x zero y at = inl at
pushed_is (z ∷ xs) x (suc i) y at = by (pushed_is xs x i y at) where
  by : (slice_get xs i ≡ Some y) ⊎ ((i ≡ length xs) × (x ≡ y)) → (slice_get xs i ≡ Some y) ⊎ ((suc i ≡ suc (length xs)) × (x ≡ y))
  by (inl old) = inl old
  by (inr new) = inr (ap suc new.0, new.1)

-- what stands in a list with another item at a place is that, or is of the list
set_is : {X : Type 0} (xs : List X) (i : ℕ) (x : X) (j : ℕ) (y : X) → slice_get (slice_set xs i x) j ≡ Some y →
    (x ≡ y) ⊎ (slice_get xs j ≡ Some y)
set_is [] i x j y at = absurd cc
set_is (z ∷ xs) zero x zero y at = inl cc
set_is (z ∷ xs) zero x (suc j) y at = inr at
set_is (z ∷ xs) (suc i) x zero y at = inr at
set_is (z ∷ xs) (suc i) x (suc j) y at = set_is xs i x j y at

-- a transaction that is marked anew stays at its place, as that of its commit does
remarked_is : (live : Bool) (txn : TxnId) (es : List Entry) (i : ℕ) (y : Entry) → slice_get (remarked live txn es) i ≡ Some y →
    (x : Entry) × (slice_get es i ≡ Some x) × (x.place ≡ y.place)
remarked_is live txn [] i y at = absurd cc
remarked_is live txn (e ∷ es) i y at = by (txn_eq e.txn txn) i at (λ j. remarked_is live txn es j y) where
  by : (b : Bool) (i : ℕ) → slice_get (cond b (marked live e ∷ es) (e ∷ remarked live txn es)) i ≡ Some y →
      ((j : ℕ) → slice_get (remarked live txn es) j ≡ Some y → (x : Entry) × (slice_get es j ≡ Some x) × (x.place ≡ y.place)) →
      (x : Entry) × (slice_get (e ∷ es) i ≡ Some x) × (x.place ≡ y.place)
  by true zero at rest = let same : marked live e ≡ y = cc in (e, refl, ap (λ (x : Entry). x.place) same)
  by true (suc i) at rest = (y, at, refl)
  by false zero at rest = let same : e ≡ y = cc in (e, refl, ap (λ (x : Entry). x.place) same)
  by false (suc i) at rest = rest i at

get_dropped : {X : Type 0} (n : ℕ) (xs : List X) (k : ℕ) → slice_get (drop n xs) k ≡ slice_get xs (n + k)
get_dropped zero xs k = let same : k ≡ 0 + k = omega arith in ap (slice_get xs) same
get_dropped (suc n) [] k = refl
get_dropped (suc n) (x ∷ xs) k =
    let same : suc (n + k) ≡ suc n + k = omega arith in
    get_dropped n xs k ∙ ap (slice_get (x ∷ xs)) same

-- ---- the order of the commits

pub rising_so : (again : ℕ) (last : List ℕ) (log : List Logged) (entries : List Entry) → AreCommits again last log entries →
    IsNonDecreasingBy (λ (entry : Entry). entry.place) entries
rising_so again last log entries are i j d less within = by (slice_get entries i) refl (slice_get entries j) refl where
  by : (o : Option Entry) → slice_get entries i ≡ o → (p : Option Entry) → slice_get entries j ≡ p →
      (get_or entries i d).place ≤ (get_or entries j d).place
  by None none p there = absurd (get_within entries i (omega (arith, less, within)) none)
  by (Some one) at None none = absurd (get_within entries j within none)
  by (Some one) at (Some next) there =
      let low : (get_or entries i d).place ≡ one.place = ap (λ (e : Entry). e.place) (get_or_from_slice_get entries i one d at) in
      let high : (get_or entries j d).place ≡ next.place = ap (λ (e : Entry). e.place) (get_or_from_slice_get entries j next d there) in
      let rise = are.rising i j one next at there less in
      omega (arith, low, high, rise)

-- ---- a history without calls, and a call that changes nothing

pub no_commits : AreCommits 0 [] [] []
no_commits = record {
  rising = λ i j one next at there less. absurd cc;
  within = λ i entry at. absurd cc;
  ended = λ i place at. absurd cc;
  first = λ i place entry at there less. absurd cc;
}

pub unchanged_commits : (again : ℕ) (last : List ℕ) (log : List Logged) (entries : List Entry) (call : Logged) →
    AreCommits again last log entries → AreCommits again last (log ++ call ∷ []) entries
unchanged_commits again last log entries call are =
    let more = length-append log (call ∷ []) in
    record {
      rising = are.rising;
      within = λ i entry at. let less = are.within i entry at in omega (arith, less, more);
      ended = λ i place at. let less = are.ended i place at in omega (arith, less, more);
      first = are.first;
    }

-- ---- a commit

pub commit_commits : (again : ℕ) (last : List ℕ) (log : List Logged) (entries : List Entry) (call : Logged) (entry : Entry) →
    AreCommits again last log entries → length last ≡ length entries → entry.place ≡ length log → entry.live ≡ true →
    AreCommits again (last ++ length log ∷ []) (log ++ call ∷ []) (entries ++ entry ∷ [])
commit_commits again last log entries call entry are long placed live = record {
  rising = λ i j one next at there less.
      rises i j one next less (pushed_is entries entry i one at) (pushed_is entries entry j next there);
  within = λ i one at. inside i one (pushed_is entries entry i one at);
  ended = λ i place at. ends i place (pushed_is last (length log) i place at);
  first = λ i place one at there less.
      firsts i place one less (pushed_is last (length log) i place at) (pushed_is entries entry i one there);
} where
  more : length (log ++ call ∷ []) ≡ length log + 1
  more = length-append log (call ∷ [])

  rises : (i j : ℕ) (one next : Entry) → i ≤ j → (slice_get entries i ≡ Some one) ⊎ ((i ≡ length entries) × (entry ≡ one)) →
      (slice_get entries j ≡ Some next) ⊎ ((j ≡ length entries) × (entry ≡ next)) → one.place ≤ next.place
  rises i j one next less (inl at) (inl there) = are.rising i j one next at there less
  rises i j one next less (inl at) (inr there) =
      let low = are.within i one at in
      let high : entry.place ≡ next.place = ap (λ (e : Entry). e.place) there.1 in
      omega (arith, low, high, placed)
  rises i j one next less (inr at) (inl there) =
      let low = get_there entries j next there in
      let end = at.0 in
      absurd (omega (arith, less, low, end))
  rises i j one next less (inr at) (inr there) =
      let same : one.place ≡ next.place = ap (λ (e : Entry). e.place) (sym at.1 ∙ there.1) in
      omega (arith, same)

  inside : (i : ℕ) (one : Entry) → (slice_get entries i ≡ Some one) ⊎ ((i ≡ length entries) × (entry ≡ one)) →
      one.place < length (log ++ call ∷ [])
  inside i one (inl at) = let less = are.within i one at in omega (arith, less, more)
  inside i one (inr at) =
      let same : entry.place ≡ one.place = ap (λ (e : Entry). e.place) at.1 in
      omega (arith, same, placed, more)

  ends : (i place : ℕ) → (slice_get last i ≡ Some place) ⊎ ((i ≡ length last) × (length log ≡ place)) →
      place < length (log ++ call ∷ [])
  ends i place (inl at) = let less = are.ended i place at in omega (arith, less, more)
  ends i place (inr at) = let same = at.1 in omega (arith, same, more)

  firsts : (i place : ℕ) (one : Entry) → again ≤ place →
      (slice_get last i ≡ Some place) ⊎ ((i ≡ length last) × (length log ≡ place)) →
      (slice_get entries i ≡ Some one) ⊎ ((i ≡ length entries) × (entry ≡ one)) → (one.place ≡ place) × (one.live ≡ true)
  firsts i place one less (inl at) (inl there) = are.first i place one at there less
  firsts i place one less (inl at) (inr there) =
      let low = get_there last i place at in
      let end = there.0 in
      absurd (omega (arith, low, end, long))
  firsts i place one less (inr at) (inl there) =
      let low = get_there entries i one there in
      let end = at.0 in
      absurd (omega (arith, low, end, long))
  firsts i place one less (inr at) (inr there) = (
    ap (λ (e : Entry). e.place) (sym there.1) ∙ placed ∙ at.1,
    ap (λ (e : Entry). e.live) (sym there.1) ∙ live,
  )

-- ---- an undo and a redo

pub again_commits : (again : ℕ) (last : List ℕ) (log : List Logged) (entries : List Entry) (call : Logged) (txn : TxnId) (i : ℕ)
    (live : Bool) → AreCommits again last log entries →
    AreCommits (length log + 1) (slice_set last i (length log)) (log ++ call ∷ []) (remarked live txn entries)
again_commits again last log entries call txn i live are = record {
  rising = λ j k one next at there less. rises j k one next less (remarked_is live txn entries j one at)
      (remarked_is live txn entries k next there);
  within = λ j one at. inside j one (remarked_is live txn entries j one at);
  ended = λ j place at. let less = ends j place at in omega (arith, less, more);
  first = λ j place one at there less. let low = ends j place at in absurd (omega (arith, less, low));
} where
  more : length (log ++ call ∷ []) ≡ length log + 1
  more = length-append log (call ∷ [])

  rises : (j k : ℕ) (one next : Entry) → j ≤ k → (x : Entry) × (slice_get entries j ≡ Some x) × (x.place ≡ one.place) →
      (x : Entry) × (slice_get entries k ≡ Some x) × (x.place ≡ next.place) → one.place ≤ next.place
  rises j k one next less was then =
      let low = are.rising j k was.0 then.0 was.1 then.1 less in
      let first = was.2 in
      let second = then.2 in
      omega (arith, low, first, second)

  inside : (j : ℕ) (one : Entry) → (x : Entry) × (slice_get entries j ≡ Some x) × (x.place ≡ one.place) →
      one.place < length (log ++ call ∷ [])
  inside j one was =
      let less = are.within j was.0 was.1 in
      let same = was.2 in
      omega (arith, less, same, more)

  ends : (j place : ℕ) → slice_get (slice_set last i (length log)) j ≡ Some place → place < length log + 1
  ends j place at = by (set_is last i (length log) j place at) where
    by : (length log ≡ place) ⊎ (slice_get last j ≡ Some place) → place < length log + 1
    by (inl same) = omega (arith, same)
    by (inr was) = let less = are.ended j place was in omega (arith, less)

-- ---- none was changed since that wrote what is touched

-- a transaction that a call changed has its last change there or behind it
reached : (txn : TxnId) (log : List Logged) (n : ℕ) (call : Logged) → slice_get log n ≡ Some call → changed_in call ≡ Some txn →
    (j : ℕ) × (last_change txn log ≡ Some j) × (n ≤ j)
reached txn [] n call at changed = absurd cc
reached txn (x ∷ log) zero call at changed = by (last_change txn log) refl where
  same : x ≡ call
  same = cc

  here : is_of txn (changed_in x) ≡ true
  here = ap (λ (c : Logged). is_of txn (changed_in c)) same ∙ ap (is_of txn) changed ∙ txn_eq-same txn

  by : (o : Option ℕ) → last_change txn log ≡ o → (j : ℕ) × (last_change txn (x ∷ log) ≡ Some j) × (0 ≤ j)
  by None is = (0, (λ i. or_first (is i) (here i)), omega arith)
  by (Some j) is = (suc j, ap (λ o. or_first o (is_of txn (changed_in x))) is, omega arith)
reached txn (x ∷ log) (suc n) call at changed = by (reached txn log n call at changed) where
  by : (j : ℕ) × (last_change txn log ≡ Some j) × (n ≤ j) → (j : ℕ) × (last_change txn (x ∷ log) ≡ Some j) × (suc n ≤ j)
  by there = (
    suc there.0,
    ap (λ o. or_first o (is_of txn (changed_in x))) there.1,
    let less = there.2 in omega (arith, less),
  )

-- calls of which none changed a transaction that wrote what is touched decide nothing
none_of : (entries : List Entry) (touched : Touched) (calls : List Logged) →
    ((k : ℕ) (call : Logged) (txn : TxnId) → slice_get calls k ≡ Some call → changed_in call ≡ Some txn →
    touching (writes_of entries txn) touched ≡ false) → stale_by entries touched calls ≡ None
none_of entries touched [] none = refl
none_of entries touched (call ∷ calls) none =
    ap (stale_first entries touched (changed_in call)) (none_of entries touched calls (λ k. none (suc k)))
    ∙ by (changed_in call) (λ txn. none 0 call txn refl) where
      by : (o : Option TxnId) → ((txn : TxnId) → o ≡ Some txn → touching (writes_of entries txn) touched ≡ false) →
          stale_first entries touched o None ≡ None
      by None h = refl
      by (Some txn) h = ap (λ b. cond b (Some txn) None) (h txn refl)

-- one that stands from a place on, where none passes the test
none_from : {X : Type 0} (test : X → Bool) (xs : List X) (from i : ℕ) (x : X) → list_any test (drop from xs) ≡ false →
    from ≤ i → slice_get xs i ≡ Some x → test x ≡ false
none_from test [] from i x none far at = absurd cc
none_from test (y ∷ xs) zero zero x none far at = let same : y ≡ x = cc in ap test (sym same) ∙ not_one (test y) none where
  not_one : (b : Bool) → (b || list_any test xs) ≡ false → b ≡ false
  not_one true h = h
  not_one false h = refl
none_from test (y ∷ xs) zero (suc i) x none far at = none_from test xs 0 i x (not_other (test y) none) (omega arith) at where
  not_other : (b : Bool) → (b || list_any test xs) ≡ false → list_any test xs ≡ false
  not_other true h = absurd cc
  not_other false h = h
none_from test (y ∷ xs) (suc from) zero x none far at = absurd (omega (arith, far))
none_from test (y ∷ xs) (suc from) (suc i) x none far at = none_from test xs from i x none (omega (arith, far)) at

pub none_since : (again : ℕ) (earlier : List (Option ℕ)) (last : List ℕ) (log : List Logged) (entries : List Entry)
    (touched : Touched) (since near : ℕ) → AreChanges earlier last log entries → AreCommits again last log entries →
    again ≤ since → IsPartitionPoint (λ entry. entry.place < since) (λ entry. since ≤ entry.place) entries near →
    list_any (λ entry. is_linked entry touched) (drop near entries) ≡ false →
    stale_by entries touched (drop since log) ≡ None
none_since again earlier last log entries touched since near changes commits before parted none =
    none_of entries touched (drop since log) (λ k call txn at changed.
    late txn k (reached txn log (since + k) call (sym (get_dropped since log k) ∙ at) changed)) where
      -- a place below the others is of an earlier commit
      behind : (i : ℕ) (entry : Entry) → slice_get entries i ≡ Some entry → since ≤ entry.place → near ≤ i
      behind i entry at late = by (nat_lt i near) refl where
        by : (b : Bool) → nat_lt i near ≡ b → near ≤ i
        by false is = grind (arith, nat_tests, is)
        by true is =
            let less : i < near = grind (arith, nat_tests, is) in
            let early = parted.0 i entry (omega arith) less in
            let same : (get_or entries i entry).place ≡ entry.place =
            ap (λ (e : Entry). e.place) (get_or_from_slice_get entries i entry entry at) in
            absurd (omega (arith, early, same, late))

      -- the transaction at a place whose last change is this late is live and was committed since
      unwritten : (txn : TxnId) (i j : ℕ) (entry : Entry) → place_of txn entries ≡ Some i → slice_get last i ≡ Some j → since ≤ j →
          slice_get entries i ≡ Some entry → touching (writes_of entries txn) touched ≡ false
      unwritten txn i j entry placed kept late at =
          let is = commits.first i j entry kept at (omega (arith, before, late)) in
          let place = is.0 in
          let far : near ≤ i = behind i entry at (omega (arith, place, late)) in
          ap (λ o. touching (option_map (λ (e : Entry). e.writes) o) touched) (entry_there entries txn i entry placed at)
          ∙ sym (ap (λ b. b && meets_touched entry.writes touched) is.1)
          ∙ none_from (λ (e : Entry). is_linked e touched) entries near i entry none far at

      late : (txn : TxnId) (k : ℕ) → (j : ℕ) × (last_change txn log ≡ Some j) × (since + k ≤ j) →
          touching (writes_of entries txn) touched ≡ false
      late txn k there = by (place_of txn entries) refl (sym (changes.named txn) ∙ there.1) where
        by : (p : Option ℕ) → place_of txn entries ≡ p → kept_at last p ≡ Some there.0 → touching (writes_of entries txn) touched ≡ false
        by None placed kept = absurd cc
        by (Some i) placed kept = at (slice_get entries i) refl where
          at : (o : Option Entry) → slice_get entries i ≡ o → touching (writes_of entries txn) touched ≡ false
          at None is = absurd (get_within entries i (place_within entries txn i placed) is)
          at (Some entry) is =
              let more = there.2 in
              unwritten txn i there.0 entry placed kept (omega (arith, more)) is

-- ---- the same of equal lists

pub same_commits : {again a : ℕ} {last l : List ℕ} {log g : List Logged} {entries s : List Entry} → a ≡ again → l ≡ last → g ≡ log →
    s ≡ entries → AreCommits again last log entries → AreCommits a l g s
same_commits {again} {a} {last} {l} {log} {g} {entries} {s} place kept logged entered are =
    subst (λ (x : ℕ). AreCommits x l g s) (sym place)
    (subst (λ (x : List ℕ). AreCommits again x g s) (sym kept)
    (subst (λ (x : List Logged). AreCommits again last x s) (sym logged)
    (subst (λ (x : List Entry). AreCommits again last log x) (sym entered) are)))

pub no_commits_so : {again : ℕ} {last : List ℕ} {log : List Logged} {entries : List Entry} → again ≡ 0 → last ≡ [] → log ≡ [] →
    entries ≡ [] → AreCommits again last log entries
no_commits_so place kept logged entered = same_commits place kept logged entered no_commits

pub unchanged_commits_so : {again a : ℕ} {last l : List ℕ} {log g : List Logged} {entries : List Entry} (call : Logged) →
    AreCommits again last log entries → a ≡ again → l ≡ last → g ≡ log ++ call ∷ [] → AreCommits a l g entries
unchanged_commits_so {again} {a} {last} {l} {log} {g} {entries} call are place kept logged =
    same_commits place kept logged refl (unchanged_commits again last log entries call are)

pub commit_commits_so : {again a : ℕ} {last l : List ℕ} {log g : List Logged} {entries s : List Entry} (call : Logged) (entry : Entry) →
    AreCommits again last log entries → length last ≡ length entries → entry.place ≡ length log → entry.live ≡ true →
    a ≡ again → l ≡ last ++ length log ∷ [] → g ≡ log ++ call ∷ [] → s ≡ entries ++ entry ∷ [] → AreCommits a l g s
commit_commits_so {again} {a} {last} {l} {log} {g} {entries} {s} call entry are long placed live place kept logged entered =
    same_commits place kept logged entered (commit_commits again last log entries call entry are long placed live)

pub again_commits_so : {again a : ℕ} {last l : List ℕ} {log g : List Logged} {entries s : List Entry} (call : Logged) (txn : TxnId)
    (i : ℕ) (live : Bool) → AreCommits again last log entries → a ≡ length log + 1 → l ≡ slice_set last i (length log) →
    g ≡ log ++ call ∷ [] → s ≡ remarked live txn entries → AreCommits a l g s
again_commits_so {again} {a} {last} {l} {log} {g} {entries} {s} call txn i live are place kept logged marks =
    same_commits place kept logged marks (again_commits again last log entries call txn i live are)
