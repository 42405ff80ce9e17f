-- Transactions by their names, and what a mark leaves as it was.
use Rattle.std.proofs.Common.{◌≡◌, ℕ, Bool, true, false, cond, List, [], ◌∷◌, ◌++◌, Option, None}
use Rattle.std.proofs.Common.{Some, option_map, refl, sym, ap, subst, ◌∙◌, append_assoc, append-nil}
use Rattle.std.specs.Prelude.{is_some}
use Rattle.std.specs.List.{AllByRecursion}
use Rattle.txn_commands.specs.declared.command.TxnId.{TxnId}
use Rattle.undo_rules.specs.Books.{IsNamed, SessionState, entry_of, writes_of}
use Rattle.undo_rules.specs.Links.{Entry, marked, txn_eq}
use Rattle.undo_rules.specs.Steps.{Found, found_behind, remarked}

-- the transactions are these, with the one of this name among them
pub record IsFound (before entries : List Entry) (txn : TxnId) (at : Found) : Type 0 where
  pub name : txn_eq at.entry.txn txn ≡ true
  pub front : List Entry
  pub behind : at.before ≡ before ++ front
  pub parts : entries ≡ front ++ at.entry ∷ at.later
  pub written : writes_of entries txn ≡ Some at.entry.writes
  pub marks : (live : Bool) → remarked live txn entries ≡ front ++ marked live at.entry ∷ at.later

pub found_is : (before entries : List Entry) (txn : TxnId) (at : Found) → found_behind before entries txn ≡ Some at
    → IsFound before entries txn at
found_is before [] txn at h = absurd cc
found_is before (entry ∷ later) txn at h =
    by (txn_eq entry.txn txn) refl h (λ e. found_is (before ++ entry ∷ []) later txn at e) where
      by : (b : Bool) → txn_eq entry.txn txn ≡ b
          → cond b (Some (record { before = before; entry = entry; later = later })) (found_behind (before ++ entry ∷ []) later txn)
          ≡ Some at
          → (found_behind (before ++ entry ∷ []) later txn ≡ Some at → IsFound (before ++ entry ∷ []) later txn at)
          → IsFound before (entry ∷ later) txn at
      by true is h rest =
          let here : Found = record { before = before; entry = entry; later = later } in
          let same : here ≡ at = cc in
          subst (λ (f : Found). IsFound before (entry ∷ later) txn f) same (record {
            name = is;
            front = [];
            behind = sym (append-nil before);
            parts = refl;
            written = ap (λ b. option_map (λ (e : Entry). e.writes) (cond b (Some entry) (entry_of txn later))) is;
            marks = λ live. ap (λ b. cond b (marked live entry ∷ later) (entry ∷ remarked live txn later)) is;
          })
      by false is h rest =
          let more = rest h in
          record {
            name = more.name;
            front = entry ∷ more.front;
            behind = more.behind ∙ append_assoc before (entry ∷ []) more.front;
            parts = ap (λ es. entry ∷ es) more.parts;
            written = ap (λ b. option_map (λ (e : Entry). e.writes) (cond b (Some entry) (entry_of txn later))) is ∙ more.written;
            marks = λ live. ap (λ b. cond b (marked live entry ∷ later) (entry ∷ remarked live txn later)) is
                ∙ ap (λ es. entry ∷ es) (more.marks live);
          }

-- a mark leaves what transactions wrote
pub writes_remarked : (live : Bool) (txn : TxnId) (entries : List Entry) (name : TxnId) →
    writes_of (remarked live txn entries) name ≡ writes_of entries name
writes_remarked live txn [] name = refl
writes_remarked live txn (entry ∷ entries) name = by (txn_eq entry.txn txn) (writes_remarked live txn entries name) where
  by : (b : Bool) → writes_of (remarked live txn entries) name ≡ writes_of entries name
      → writes_of (cond b (marked live entry ∷ entries) (entry ∷ remarked live txn entries)) name ≡ writes_of (entry ∷ entries) name
  by true rest = here (txn_eq entry.txn name) where
    here : (b : Bool) → option_map (λ (e : Entry). e.writes) (cond b (Some (marked live entry)) (entry_of name entries))
        ≡ option_map (λ (e : Entry). e.writes) (cond b (Some entry) (entry_of name entries))
    here true = refl
    here false = refl
  by false rest = there (txn_eq entry.txn name) where
    there : (b : Bool) → option_map (λ (e : Entry). e.writes) (cond b (Some entry) (entry_of name (remarked live txn entries)))
        ≡ option_map (λ (e : Entry). e.writes) (cond b (Some entry) (entry_of name entries))
    there true = refl
    there false = rest

-- that a transaction is there is that it has writes
pub there_writes : (entries : List Entry) (name : TxnId) → is_some (writes_of entries name) ≡ is_some (entry_of name entries)
there_writes entries name = by (entry_of name entries) where
  by : (found : Option Entry) → is_some (option_map (λ (e : Entry). e.writes) found) ≡ is_some found
  by None = refl
  by (Some e) = refl

-- names stay those that the sessions opened
pub named_remarked : (number : ℕ) (state : SessionState) (live : Bool) (txn : TxnId) (entries : List Entry) →
    AllByRecursion (IsNamed number state) entries → AllByRecursion (IsNamed number state) (remarked live txn entries)
named_remarked number state live txn [] all = tt
named_remarked number state live txn (entry ∷ entries) all =
    by (txn_eq entry.txn txn) (named_remarked number state live txn entries all.1) where
      by : (b : Bool) → AllByRecursion (IsNamed number state) (remarked live txn entries)
          → AllByRecursion (IsNamed number state) (cond b (marked live entry ∷ entries) (entry ∷ remarked live txn entries))
      by true rest = (all.0, all.1)
      by false rest = (all.0, rest)

-- a transaction more at the end leaves the others'
pub writes_more : (entries : List Entry) (entry : Entry) (name : TxnId) → is_some (entry_of name entries) ≡ true →
    writes_of (entries ++ entry ∷ []) name ≡ writes_of entries name
writes_more [] entry name h = absurd cc
writes_more (e ∷ entries) entry name h = by (txn_eq e.txn name) h (λ more. writes_more entries entry name more) where
  by : (b : Bool) → is_some (cond b (Some e) (entry_of name entries)) ≡ true
      → (is_some (entry_of name entries) ≡ true → writes_of (entries ++ entry ∷ []) name ≡ writes_of entries name)
      → option_map (λ (x : Entry). x.writes) (cond b (Some e) (entry_of name (entries ++ entry ∷ [])))
      ≡ option_map (λ (x : Entry). x.writes) (cond b (Some e) (entry_of name entries))
  by true h rest = refl
  by false h rest = rest h

-- and they stay there
pub there_more : (entries : List Entry) (entry : Entry) (name : TxnId) → is_some (entry_of name entries) ≡ true →
    is_some (entry_of name (entries ++ entry ∷ [])) ≡ true
there_more [] entry name h = absurd cc
there_more (e ∷ entries) entry name h = by (txn_eq e.txn name) h (λ more. there_more entries entry name more) where
  by : (b : Bool) → is_some (cond b (Some e) (entry_of name entries)) ≡ true
      → (is_some (entry_of name entries) ≡ true → is_some (entry_of name (entries ++ entry ∷ [])) ≡ true)
      → is_some (cond b (Some e) (entry_of name (entries ++ entry ∷ []))) ≡ true
  by true h rest = refl
  by false h rest = rest h
