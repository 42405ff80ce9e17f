-- Finite maps after writes, and what changes between two of them, key by key.
use Rattle.std.proofs.Common.{◌≡◌, ◌≢◌, ◌⊎◌, inl, inr, Bool, true, false, ◌||◌, cond, List, [], ◌∷◌, ◌++◌, Option, None}
use Rattle.std.proofs.Common.{Some, is_some, unwrap_or}
use Rattle.std.proofs.Common.{refl, ap, sym, ◌∙◌}
use Rattle.std.proofs.lemmas.Bool.{false_from_ne_true}
use Rattle.std.specs.declared.cmp.Ordering.{Ordering}
use Rattle.std.specs.Cmp.{Equal-is, IsTotalOrder}
use Rattle.std.specs.FinMap.{FinMap, IsAntisymmetric, contains_key-keys, get, get-empty, get-insert, get-remove, keys, same_map}
use Rattle.std.specs.List.{list_any}
use Rattle.std.specs.Ordering.{eq_by_cmp}
use Rattle.txn_commands.specs.Agreement.{AreAlike}
use Rattle.txn_commands.specs.Changes.{change_map, change_of, changes_at}
use Rattle.lay_layouts.specs.Layout.{put, put_all}

-- the last of two choices that there is
abbrev pub later : {V : Type 0} → Option (Option V) → Bool → Option V → Option (Option V)
later (Some value) here first = Some value
later None here first = cond here (Some first) None

chosen : {V : Type 0} (last : Option (Option V)) (here : Bool) (first old : Option V) →
    unwrap_or last (cond here first old) ≡ unwrap_or (later last here first) old
chosen (Some value) here first old = refl
chosen None true first old = refl
chosen None false first old = refl

is_some-later : {V : Type 0} (last : Option (Option V)) (here : Bool) (first : Option V) (rest : Bool) → is_some last ≡ rest →
    is_some (later last here first) ≡ (here || rest)
is_some-later (Some value) true first rest h = refl
is_some-later (Some value) false first rest h = h
is_some-later None true first rest h = refl
is_some-later None false first rest h = h

nothing_at : {V : Type 0} (last : Option (Option V)) → is_some last ≡ false → (old : Option V) → unwrap_or last old ≡ old
nothing_at None h old = refl
nothing_at (Some value) h old = absurd cc

-- what the writes leave under the key, where they write it
abbrev pub write_at : {K V : Type 0} → (K → K → Ordering) → K → List (K × Option V) → Option (Option V)
write_at R q [] = None
write_at R q (w ∷ ws) = later (write_at R q ws) (eq_by_cmp R q w.0) w.1

-- the writes write the key
abbrev pub writes_key : {K V : Type 0} → (K → K → Ordering) → K → List (K × Option V) → Bool
writes_key R q ws = list_any (λ w. eq_by_cmp R q w.0) ws

pub is_some-write_at : {K V : Type 0} (R : K → K → Ordering) (q : K) (ws : List (K × Option V)) →
    is_some (write_at R q ws) ≡ writes_key R q ws
is_some-write_at R q [] = refl
is_some-write_at R q (w ∷ ws) =
    is_some-later (write_at R q ws) (eq_by_cmp R q w.0) w.1 (writes_key R q ws) (is_some-write_at R q ws)

-- values that are alike stay so where the same is written
pub alike-written : {V : Type 0} (test : V → Bool) (x y : Option V) (last : Option (Option V)) → AreAlike test x y →
    AreAlike test (unwrap_or last x) (unwrap_or last y)
alike-written test x y None alike = alike
alike-written test x y (Some value) alike = record { forth = λ v e t. e; back = λ v e t. e }

module _ {K V : Type 0} {R : K → K → Ordering} (total : IsTotalOrder R) where
  pub get-put : (m : FinMap R V) (k : K) (v : Option V) (q : K) → get (put m k v) q ≡ cond (eq_by_cmp R q k) v (get m q)
  get-put m k None q = get-remove total m k q
  get-put m k (Some v) q = get-insert total m k v q

  pub get-put_all : (m : FinMap R V) (ws : List (K × Option V)) (q : K) → get (put_all m ws) q ≡ unwrap_or (write_at R q ws) (get m q)
  get-put_all m [] q = refl
  get-put_all m (w ∷ ws) q =
      get-put_all (put m w.0 w.1) ws q ∙ ap (unwrap_or (write_at R q ws)) (get-put m w.0 w.1 q)
      ∙ chosen (write_at R q ws) (eq_by_cmp R q w.0) w.1 (get m q)

  -- a key that isn't written keeps its value
  pub get-unwritten : (m : FinMap R V) (ws : List (K × Option V)) (q : K) → writes_key R q ws ≡ false → get (put_all m ws) q ≡ get m q
  get-unwritten m ws q out = get-put_all m ws q ∙ nothing_at (write_at R q ws) (is_some-write_at R q ws ∙ out) (get m q)

  -- the same writes keep two maps alike at a key
  pub put_all-alike : (test : V → Bool) (m n : FinMap R V) (ws : List (K × Option V)) (q : K) → AreAlike test (get m q) (get n q) →
      AreAlike test (get (put_all m ws) q) (get (put_all n ws) q)
  put_all-alike test m n ws q alike = rw (get-put_all m ws q, get-put_all n ws q)
      (alike-written test (get m q) (get n q) (write_at R q ws) alike)

module _ {K : Type 0} {R : K → K → Ordering} (exact : IsAntisymmetric R) where
  pub same_key : (p q : K) → eq_by_cmp R p q ≡ true → p ≡ q
  same_key p q h = exact p q ((Equal-is (R p q)).0 h)

  -- keys that differ are distinguished
  pub other_key : (p q : K) → p ≢ q → eq_by_cmp R p q ≡ false
  other_key p q apart = false_from_ne_true (eq_by_cmp R p q) (λ h. apart (same_key p q h))

-- a value behind a write is the one written, under its key, or was there before
pub written_value : {K V : Type 0} {R : K → K → Ordering} (total : IsTotalOrder R) (exact : IsAntisymmetric R) (m : FinMap R V) (k : K)
    (v : Option V)
    (q : K) (x : V) → get (put m k v) q ≡ Some x → ((q ≡ k) × (v ≡ Some x)) ⊎ (get m q ≡ Some x)
written_value {V = V} {R = R} total exact m k v q x h = by_key (eq_by_cmp R q k) refl (sym (get-put total m k v q) ∙ h) where
  by_key : (b : Bool) → eq_by_cmp R q k ≡ b → cond b v (get m q) ≡ Some x → ((q ≡ k) × (v ≡ Some x)) ⊎ (get m q ≡ Some x)
  by_key true is e = inl (same_key exact q k is, e)
  by_key false is e = inr e

list_any-append : {K : Type 0} (p : K → Bool) (xs ys : List K) → list_any p (xs ++ ys) ≡ (list_any p xs || list_any p ys)
list_any-append p [] ys = refl
list_any-append p (x ∷ xs) ys = ap (λ b. p x || b) (list_any-append p xs ys) ∙ regroup (p x) (list_any p xs) (list_any p ys) where
  regroup : (a b c : Bool) → (a || (b || c)) ≡ ((a || b) || c)
  regroup true b c = refl
  regroup false b c = refl

module _ {K V : Type 0} {R : K → K → Ordering} (total : IsTotalOrder R) (exact : IsAntisymmetric R) (same : Option V → Option V →
    Bool) where
  get-changes_at : (old new : FinMap R V) (ks : List K) (q : K) →
      get (changes_at same old new ks) q ≡ cond (list_any (eq_by_cmp R q) ks) (change_of same (get old q) (get new q)) None
  get-changes_at old new [] q = get-empty R q
  get-changes_at old new (k ∷ ks) q =
      get-put total (changes_at same old new ks) k (change_of same (get old k) (get new k)) q
      ∙ by_key (eq_by_cmp R q k) refl (get-changes_at old new ks q) where
        by_key : (b : Bool) → eq_by_cmp R q k ≡ b →
            get (changes_at same old new ks) q ≡ cond (list_any (eq_by_cmp R q) ks) (change_of same (get old q) (get new q)) None →
            cond b (change_of same (get old k) (get new k)) (get (changes_at same old new ks) q)
            ≡ cond (b || list_any (eq_by_cmp R q) ks) (change_of same (get old q) (get new q)) None
        by_key true is rest = let e : q ≡ k = same_key exact q k is in ap (λ x. change_of same (get old x) (get new x)) (sym e)
        by_key false is rest = rest

  -- the change at a key is that of the values there
  pub get-change_map : same None None ≡ true → (old new : FinMap R V) (q : K) →
      get (change_map same old new) q ≡ change_of same (get old q) (get new q)
  unfolding change_map
  get-change_map none old new q =
      get-changes_at old new (keys old ++ keys new) q
      ∙ ap (λ b. cond b (change_of same (get old q) (get new q)) None) (list_any-append (eq_by_cmp R q) (keys old) (keys new))
      ∙ ap (λ b. cond (b || list_any (eq_by_cmp R q) (keys new)) (change_of same (get old q) (get new q)) None)
      (sym (contains_key-keys old q))
      ∙ ap (λ b. cond (is_some (get old q) || b) (change_of same (get old q) (get new q)) None) (sym (contains_key-keys new q))
      ∙ by_case (get old q) (get new q) where
        by_case : (x y : Option V) → cond (is_some x || is_some y) (change_of same x y) None ≡ change_of same x y
        by_case None None = rw none refl
        by_case None (Some y) = refl
        by_case (Some x) y = refl

  -- maps with the same change at each key have the same changes
  pub change_map-alike : same None None ≡ true → (old new old' new' : FinMap R V) →
      ((q : K) → change_of same (get old q) (get new q) ≡ change_of same (get old' q) (get new' q)) →
      change_map same old new ≡ change_map same old' new'
  change_map-alike none old new old' new' alike = same_map total exact _ _ (λ q.
      get-change_map none old new q ∙ alike q ∙ sym (get-change_map none old' new' q))

  -- one more write changes the changes at its key
  pub change_map-put : same None None ≡ true → (old new : FinMap R V) (k : K) (v : Option V) →
      change_map same old (put new k v) ≡ put (change_map same old new) k (change_of same (get old k) v)
  change_map-put none old new k v = same_map total exact _ _ (λ q.
      get-change_map none old (put new k v) q
      ∙ ap (change_of same (get old q)) (get-put total new k v q)
      ∙ by_key q (eq_by_cmp R q k) refl
      ∙ sym (get-put total (change_map same old new) k (change_of same (get old k) v) q
      ∙ ap (cond (eq_by_cmp R q k) (change_of same (get old k) v)) (get-change_map none old new q))) where
        by_key : (q : K) (b : Bool) → eq_by_cmp R q k ≡ b →
            change_of same (get old q) (cond b v (get new q))
            ≡ cond b (change_of same (get old k) v) (change_of same (get old q) (get new q))
        by_key q true is = let e : q ≡ k = same_key exact q k is in ap (λ x. change_of same (get old x) v) e
        by_key q false is = refl
