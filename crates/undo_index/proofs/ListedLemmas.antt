-- Places listed under the elements of a footprint.
use Rattle.std.proofs.Common.{◌≡◌, ℕ, ◌==◌, Bool, true, false, not, ◌||◌, ◌&&◌, List, [], ◌∷◌, refl, ap, sym, ◌∙◌}
use Rattle.std.proofs.lemmas.Bool.Decides.{Decides-eqb}
use Rattle.std.specs.FinSet.{contains, contains-from_list, from_list, insert, remove, same_set}
use Rattle.std.specs.List.{list_any}
use Rattle.txn_commands.specs.declared.command.TxnId.{TxnId}
use Rattle.txn_commands.specs.declared.element.Element.{Element}
use Rattle.txn_commands.specs.Elements.{Touched, element_cmp, element_eq, elements_total}
use Rattle.txn_marks.proofs.SetLemmas.{element_eq-Decides}
use Rattle.undo_index.specs.Listed.{AreAdded, AreRemoved, IsNew, Listed, is_listed, is_made_by, is_others}
use Rattle.undo_index.proofs.PairLemmas.{listed_less, listed_more, pairs_exact, pairs_total}

-- ---- one element after the other

-- the element is one of these, and the transaction didn't make it
abbrev pub is_left : TxnId → List Element → Element → Bool
is_left txn rest e = list_any (element_eq e) rest && not (is_made_by txn e)

-- with the elements that are left the place is listed as it is to be
abbrev pub Adds : Listed → TxnId → Touched → ℕ → Listed → List Element → Type 0
Adds old txn elements place now rest = (e : Element) (p : ℕ) →
    (is_listed now e p || ((p == place) && is_left txn rest e)) ≡ (is_listed old e p || ((p == place) && is_others txn elements e))

abbrev pub Removes : Listed → TxnId → Touched → ℕ → Listed → List Element → Type 0
Removes old txn elements place now rest = (e : Element) (p : ℕ) →
    (is_listed now e p && not ((p == place) && is_left txn rest e)) ≡ (is_listed old e p && not ((p == place) && is_others txn elements e))

module _ (old : Listed) (txn : TxnId) (elements : Touched) (place : ℕ) where
  there : (keys : List Element) → from_list {R = element_cmp} keys ≡ elements → (e : Element) → is_left txn keys e
      ≡ is_others txn elements e
  there keys are e =
      ap (λ b. b && not (is_made_by txn e)) (sym (contains-from_list elements_total keys e) ∙ ap (λ (s : Touched). contains s e) are)

  pub adds_begin : (keys : List Element) → from_list {R = element_cmp} keys ≡ elements → Adds old txn elements place old keys
  adds_begin keys are e p = ap (λ b. is_listed old e p || ((p == place) && b)) (there keys are e)

  pub removes_begin : (keys : List Element) → from_list {R = element_cmp} keys ≡ elements → Removes old txn elements place old keys
  removes_begin keys are e p = ap (λ b. is_listed old e p && not ((p == place) && b)) (there keys are e)

  -- equal elements have the same maker
  maker_so : (x e : Element) (made : Bool) → is_made_by txn x ≡ made → element_eq e x ≡ true → is_made_by txn e ≡ made
  maker_so x e made is same = ap (is_made_by txn) ((element_eq-Decides e x).0 same) ∙ is

  adds_step : (x p r l m : Bool) → (x ≡ true → m ≡ false) → (((x && p) || l) || (p && (r && not m))) ≡ (l || (p && ((x || r) && not m)))
  adds_step true true r true m is = refl
  adds_step true true r false m is = sym (ap not (is refl))
  adds_step true false r true m is = refl
  adds_step true false r false m is = refl
  adds_step false p r l m is = refl

  pub adds_one : (now : Listed) (x : Element) (rest : List Element) → is_made_by txn x ≡ false →
      Adds old txn elements place now (x ∷ rest) → Adds old txn elements place (insert now (x, place)) rest
  adds_one now x rest other adds e p =
      ap (λ b. b || ((p == place) && is_left txn rest e)) (listed_more now x e place p)
      ∙ adds_step (element_eq e x) (p == place) (list_any (element_eq e) rest) (is_listed now e p) (is_made_by txn e)
      (maker_so x e false other) ∙ adds e p

  removes_step : (x p r l m : Bool) → (x ≡ true → m ≡ false)
      → ((not (x && p) && l) && not (p && (r && not m))) ≡ (l && not (p && ((x || r) && not m)))
  removes_step true true r true m is = sym (ap (λ b. not (not b)) (is refl))
  removes_step true true r false m is = refl
  removes_step true false r true m is = refl
  removes_step true false r false m is = refl
  removes_step false p r l m is = refl

  pub removes_one : (now : Listed) (x : Element) (rest : List Element) → is_made_by txn x ≡ false →
      Removes old txn elements place now (x ∷ rest) → Removes old txn elements place (remove now (x, place)) rest
  removes_one now x rest other removes e p =
      ap (λ b. b && not ((p == place) && is_left txn rest e)) (listed_less now x e place p)
      ∙ removes_step (element_eq e x) (p == place) (list_any (element_eq e) rest) (is_listed now e p) (is_made_by txn e)
      (maker_so x e false other) ∙ removes e p

  -- an item that the transaction made is passed by
  own_step : (x r m : Bool) → (x ≡ true → m ≡ true) → (r && not m) ≡ ((x || r) && not m)
  own_step true true m is = refl
  own_step true false m is = sym (ap not (is refl))
  own_step false r m is = refl

  passed_by : (x : Element) (rest : List Element) → is_made_by txn x ≡ true → (e : Element) → is_left txn rest e ≡ is_left txn (x ∷ rest) e
  passed_by x rest own e = own_step (element_eq e x) (list_any (element_eq e) rest) (is_made_by txn e) (maker_so x e true own)

  pub adds_own : (now : Listed) (x : Element) (rest : List Element) → is_made_by txn x ≡ true →
      Adds old txn elements place now (x ∷ rest) → Adds old txn elements place now rest
  adds_own now x rest own adds e p = ap (λ b. is_listed now e p || ((p == place) && b)) (passed_by x rest own e) ∙ adds e p

  pub removes_own : (now : Listed) (x : Element) (rest : List Element) → is_made_by txn x ≡ true →
      Removes old txn elements place now (x ∷ rest) → Removes old txn elements place now rest
  removes_own now x rest own removes e p = ap (λ b. is_listed now e p && not ((p == place) && b)) (passed_by x rest own e) ∙ removes e p

-- ---- all of them

none_left : (a b : Bool) → (a || (b && false)) ≡ a
none_left true b = refl
none_left false true = refl
none_left false false = refl

pub all_added : (old : Listed) (txn : TxnId) (elements : Touched) (place : ℕ) (new : Listed) → Adds old txn elements place new [] →
    AreAdded old txn elements place new
all_added old txn elements place new adds e p = sym (none_left (is_listed new e p) (p == place)) ∙ adds e p

none_kept : (a b : Bool) → (a && not (b && false)) ≡ a
none_kept true true = refl
none_kept true false = refl
none_kept false b = refl

pub all_removed : (old : Listed) (txn : TxnId) (elements : Touched) (place : ℕ) (new : Listed) → Removes old txn elements place new [] →
    AreRemoved old txn elements place new
all_removed old txn elements place new removes e p = sym (none_kept (is_listed new e p) (p == place)) ∙ removes e p

-- ---- removed again

pub same_listed : (one other : Listed) → ((e : Element) (p : ℕ) → is_listed one e p ≡ is_listed other e p) → one ≡ other
same_listed one other same = same_set pairs_total pairs_exact one other (λ q. same q.0 q.1)

back : (here : Bool) (o n r a : Bool) → (here ≡ true → o ≡ false) → (n || (here && r)) ≡ (o || (here && a))
    → (n && not (here && a)) ≡ o
back true o n r a fresh adds = cut n r a o (fresh refl) adds where
  cut : (n r a o : Bool) → o ≡ false → (n || r) ≡ (o || a) → (n && not a) ≡ o
  cut true r true o none adds = sym none
  cut true r false o none adds = let e : true ≡ false = adds ∙ ap (λ b. b || false) none in absurd cc
  cut false r a o none adds = sym none
back false true true r a fresh adds = refl
back false true false r a fresh adds = absurd cc
back false false true r a fresh adds = absurd cc
back false false false r a fresh adds = refl

same_place : (p q : ℕ) → (p == q) ≡ true → p ≡ q
same_place p q h = (Decides-eqb p q).0 h

-- what was added of a new place, all or in part, is removed again
pub taken_back : (old : Listed) (txn : TxnId) (elements : Touched) (place : ℕ) (now new : Listed) (rest : List Element) →
    Adds old txn elements place now rest → AreRemoved now txn elements place new → IsNew old place → new ≡ old
taken_back old txn elements place now new rest adds removed fresh = same_listed new old (λ e p.
    removed e p
    ∙ back (p == place) (is_listed old e p) (is_listed now e p) (is_left txn rest e) (is_others txn elements e)
    (λ here. ap (is_listed old e) (same_place p place here) ∙ fresh e) (adds e p))

-- so is what was added whole
pub withdrawn : (old now new : Listed) (txn : TxnId) (elements : Touched) (place : ℕ) → AreAdded old txn elements place now →
    AreRemoved now txn elements place new → IsNew old place → new ≡ old
withdrawn old now new txn elements place added removed fresh = same_listed new old (λ e p.
    removed e p
    ∙ back (p == place) (is_listed old e p) (is_listed now e p) false (is_others txn elements e)
    (λ here. ap (is_listed old e) (same_place p place here) ∙ fresh e)
    (none_left (is_listed now e p) (p == place) ∙ added e p))
