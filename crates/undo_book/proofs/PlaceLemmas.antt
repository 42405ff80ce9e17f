-- Transactions by their places.
use Rattle.std.proofs.Common.{◌≡◌, ℕ, ◌<◌, suc, Bool, true, false, cond, List, [], ◌∷◌, ◌++◌, length, take, drop, Option, None, Some}
use Rattle.std.proofs.Common.{option_map, refl, sym, ap, subst, ◌∙◌, arith, append_assoc, append-nil, slice_get, slice_set}
use Rattle.std.specs.List.{AllByRecursion}
use Rattle.txn_commands.specs.declared.command.TxnId.{TxnId}
use Rattle.undo_rules.specs.Books.{entry_of}
use Rattle.undo_rules.specs.Links.{Entry, marked, txn_eq}
use Rattle.undo_rules.specs.Steps.{Found, found_behind, remarked}
use Rattle.undo_rules.proofs.EqualLinks.{txn_eq-same}
use Rattle.undo_book.specs.Places.{place_of}

-- the transaction at its place is found, with those before it and those behind it
pub found_there : (before es : List Entry) (txn : TxnId) (i : ℕ) (entry : Entry) → place_of txn es ≡ Some i → slice_get es i ≡ Some entry →
    found_behind before es txn ≡ Some (record { before = before ++ take i es; entry = entry; later = drop (suc i) es })
found_there before [] txn i entry placed there = absurd cc
found_there before (e ∷ es) txn i entry placed there =
    by (txn_eq e.txn txn) (place_of txn es) refl placed there (λ j. found_there (before ++ e ∷ []) es txn j entry) where
      Goal : Option Found → ℕ → Type 0
      Goal found k = slice_get (e ∷ es) k ≡ Some entry
          → found ≡ Some (record { before = before ++ take k (e ∷ es); entry = entry; later = drop (suc k) (e ∷ es) })

      first : Goal (Some (record { before = before; entry = e; later = es })) 0
      first h =
          let same : e ≡ entry = cc in
          λ i. Some (record { before = sym (append-nil before) i; entry = same i; later = es })

      further : (j : ℕ) → (slice_get es j ≡ Some entry → found_behind (before ++ e ∷ []) es txn
          ≡ Some (record { before = (before ++ e ∷ []) ++ take j es; entry = entry; later = drop (suc j) es }))
          → Goal (found_behind (before ++ e ∷ []) es txn) (suc j)
      further j rest h =
          rest h ∙ (λ i. Some (record { before = append_assoc before (e ∷ []) (take j es) i; entry = entry; later = drop (suc j) es }))

      by : (b : Bool) (p : Option ℕ) → place_of txn es ≡ p → cond b (Some 0) (option_map suc p) ≡ Some i → slice_get (e ∷ es) i ≡ Some entry
          → ((j : ℕ) → place_of txn es ≡ Some j → slice_get es j ≡ Some entry → found_behind (before ++ e ∷ []) es txn
          ≡ Some (record { before = (before ++ e ∷ []) ++ take j es; entry = entry; later = drop (suc j) es }))
          → cond b (Some (record { before = before; entry = e; later = es })) (found_behind (before ++ e ∷ []) es txn)
          ≡ Some (record { before = before ++ take i (e ∷ es); entry = entry; later = drop (suc i) (e ∷ es) })
      by true p is h at rest =
          let zero_is : 0 ≡ i = cc in
          subst (Goal (Some (record { before = before; entry = e; later = es }))) zero_is first at
      by false None is h at rest = absurd cc
      by false (Some j) is h at rest =
          let one_more : suc j ≡ i = cc in
          subst (Goal (found_behind (before ++ e ∷ []) es txn)) one_more (further j (rest j is)) at

pub found_none : (before es : List Entry) (txn : TxnId) → place_of txn es ≡ None → found_behind before es txn ≡ None
found_none before [] txn none = refl
found_none before (e ∷ es) txn none = by (txn_eq e.txn txn) (place_of txn es) refl none (found_none (before ++ e ∷ []) es txn) where
  by : (b : Bool) (p : Option ℕ) → place_of txn es ≡ p → cond b (Some 0) (option_map suc p) ≡ None
      → (place_of txn es ≡ None → found_behind (before ++ e ∷ []) es txn ≡ None)
      → cond b (Some (record { before = before; entry = e; later = es })) (found_behind (before ++ e ∷ []) es txn) ≡ None
  by true p is h rest = absurd cc
  by false None is h rest = rest is
  by false (Some j) is h rest = absurd cc

-- the transaction's mark is set at its place
pub marked_there : (live : Bool) (es : List Entry) (txn : TxnId) (i : ℕ) (entry : Entry) → place_of txn es ≡ Some i →
    slice_get es i ≡ Some entry → remarked live txn es ≡ slice_set es i (marked live entry)
marked_there live [] txn i entry placed there = absurd cc
marked_there live (e ∷ es) txn i entry placed there =
    by (txn_eq e.txn txn) (place_of txn es) refl placed there (λ j. marked_there live es txn j entry) where
      Goal : List Entry → ℕ → Type 0
      Goal new k = slice_get (e ∷ es) k ≡ Some entry → new ≡ slice_set (e ∷ es) k (marked live entry)

      first : Goal (marked live e ∷ es) 0
      first h = let same : e ≡ entry = cc in λ i. marked live (same i) ∷ es

      by : (b : Bool) (p : Option ℕ) → place_of txn es ≡ p → cond b (Some 0) (option_map suc p) ≡ Some i → slice_get (e ∷ es) i ≡ Some entry
          → ((j : ℕ) → place_of txn es ≡ Some j → slice_get es j ≡ Some entry
          → remarked live txn es ≡ slice_set es j (marked live entry))
          → cond b (marked live e ∷ es) (e ∷ remarked live txn es) ≡ slice_set (e ∷ es) i (marked live entry)
      by true p is h at rest =
          let zero_is : 0 ≡ i = cc in
          subst (Goal (marked live e ∷ es)) zero_is first at
      by false None is h at rest = absurd cc
      by false (Some j) is h at rest =
          let one_more : suc j ≡ i = cc in
          subst (Goal (e ∷ remarked live txn es)) one_more (λ there. ap (λ fs. e ∷ fs) (rest j is there)) at

-- and it is the one of its name
pub entry_there : (es : List Entry) (txn : TxnId) (i : ℕ) (entry : Entry) → place_of txn es ≡ Some i → slice_get es i ≡ Some entry →
    entry_of txn es ≡ Some entry
entry_there [] txn i entry placed there = absurd cc
entry_there (e ∷ es) txn i entry placed there =
    by (txn_eq e.txn txn) (place_of txn es) refl placed there (λ j. entry_there es txn j entry) where
      Goal : Option Entry → ℕ → Type 0
      Goal found k = slice_get (e ∷ es) k ≡ Some entry → found ≡ Some entry

      by : (b : Bool) (p : Option ℕ) → place_of txn es ≡ p → cond b (Some 0) (option_map suc p) ≡ Some i → slice_get (e ∷ es) i ≡ Some entry
          → ((j : ℕ) → place_of txn es ≡ Some j → slice_get es j ≡ Some entry → entry_of txn es ≡ Some entry)
          → cond b (Some e) (entry_of txn es) ≡ Some entry
      by true p is h at rest = let zero_is : 0 ≡ i = cc in subst (Goal (Some e)) zero_is (λ there. there) at
      by false None is h at rest = absurd cc
      by false (Some j) is h at rest = let one_more : suc j ≡ i = cc in subst (Goal (entry_of txn es)) one_more (rest j is) at

pub entry_none : (es : List Entry) (txn : TxnId) → place_of txn es ≡ None → entry_of txn es ≡ None
entry_none [] txn none = refl
entry_none (e ∷ es) txn none = by (txn_eq e.txn txn) (place_of txn es) refl none (entry_none es txn) where
  by : (b : Bool) (p : Option ℕ) → place_of txn es ≡ p → cond b (Some 0) (option_map suc p) ≡ None → (place_of txn es ≡ None
      → entry_of txn es ≡ None) → cond b (Some e) (entry_of txn es) ≡ None
  by true p is h rest = absurd cc
  by false None is h rest = rest is
  by false (Some j) is h rest = absurd cc

-- a place is one of the list
pub place_within : (es : List Entry) (txn : TxnId) (i : ℕ) → place_of txn es ≡ Some i → i < length es
place_within [] txn i placed = absurd cc
place_within (e ∷ es) txn i placed = by (txn_eq e.txn txn) (place_of txn es) refl placed (place_within es txn) where
  by : (b : Bool) (p : Option ℕ) → place_of txn es ≡ p → cond b (Some 0) (option_map suc p) ≡ Some i
      → ((j : ℕ) → place_of txn es ≡ Some j → j < length es) → i < length (e ∷ es)
  by true p is h rest = let zero_is : 0 ≡ i = cc in omega (arith, zero_is)
  by false None is h rest = absurd cc
  by false (Some j) is h rest =
      let one_more : suc j ≡ i = cc in
      let less = rest j is in
      omega (arith, one_more, less)

-- a mark leaves places as they are
pub place_marked : (live : Bool) (txn : TxnId) (es : List Entry) (q : TxnId) → place_of q (remarked live txn es) ≡ place_of q es
place_marked live txn [] q = refl
place_marked live txn (e ∷ es) q = by (txn_eq e.txn txn) (place_marked live txn es q) where
  by : (b : Bool) → place_of q (remarked live txn es) ≡ place_of q es
      → place_of q (cond b (marked live e ∷ es) (e ∷ remarked live txn es)) ≡ place_of q (e ∷ es)
  by true rest = refl
  by false rest = ap (λ p. cond (txn_eq e.txn q) (Some 0) (option_map suc p)) rest

-- one transaction more leaves those of the others, and stands behind them
pub place_pushed : (es : List Entry) (e : Entry) (txn : TxnId) → txn_eq e.txn txn ≡ false → place_of txn (es ++ e ∷ []) ≡ place_of txn es
place_pushed [] e txn other = ap (λ b. cond b (Some 0) None) other
place_pushed (x ∷ es) e txn other = ap (λ p. cond (txn_eq x.txn txn) (Some 0) (option_map suc p)) (place_pushed es e txn other)

pub place_last : (es : List Entry) (e : Entry) → AllByRecursion (λ other. txn_eq other.txn e.txn ≡ false) es →
    place_of e.txn (es ++ e ∷ []) ≡ Some (length es)
place_last [] e apart = ap (λ b. cond b (Some 0) None) (txn_eq-same e.txn)
place_last (x ∷ es) e apart =
    ap (λ b. cond b (Some 0) (option_map suc (place_of e.txn (es ++ e ∷ [])))) apart.0 ∙ ap (option_map suc) (place_last es e apart.1)

-- the transaction is found with its mark
pub found_marked : (live : Bool) (before es : List Entry) (txn : TxnId) (at : Found) → found_behind before es txn ≡ Some at →
    found_behind before (remarked live txn es) txn ≡ Some (record { before = at.before; entry = marked live at.entry; later = at.later })
found_marked live before [] txn at h = absurd cc
found_marked live before (e ∷ es) txn at h =
    by (txn_eq e.txn txn) refl h (found_marked live (before ++ e ∷ []) es txn at) where
      wanted : Option Found
      wanted = Some (record { before = at.before; entry = marked live at.entry; later = at.later })

      by : (b : Bool) → txn_eq e.txn txn ≡ b
          → cond b (Some (record { before = before; entry = e; later = es })) (found_behind (before ++ e ∷ []) es txn) ≡ Some at
          → (found_behind (before ++ e ∷ []) es txn ≡ Some at → found_behind (before ++ e ∷ []) (remarked live txn es) txn ≡ wanted)
          → found_behind before (cond b (marked live e ∷ es) (e ∷ remarked live txn es)) txn ≡ wanted
      by true is h rest =
          let here : Found = record { before = before; entry = e; later = es } in
          let same : here ≡ at = cc in
          ap (λ b. cond b (Some (record { before = before; entry = marked live e; later = es }))
          (found_behind (before ++ marked live e ∷ []) es txn)) is
          ∙ (λ i. Some (record { before = (same i).before; entry = marked live (same i).entry; later = (same i).later }))
      by false is h rest =
          ap (λ b. cond b (Some (record { before = before; entry = e; later = remarked live txn es }))
          (found_behind (before ++ e ∷ []) (remarked live txn es) txn)) is ∙ rest h
