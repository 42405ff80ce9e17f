-- The first of a list that passes a test, by its name.
use Rattle.std.proofs.Common.{◌≡◌, inl, inr, Bool, true, false, cond, List, [], ◌∷◌, ◌++◌, Option, None, Some, refl, sym, ap, ◌∙◌}
use Rattle.lay_point.proofs.Members.{Has}
use Rattle.txn_commands.specs.declared.command.TxnId.{TxnId}

abbrev pub first_by : {A : Type 0} → (A → Bool) → (A → TxnId) → List A → Option TxnId
first_by passes name [] = None
first_by passes name (x ∷ xs) = cond (passes x) (Some (name x)) (first_by passes name xs)

-- it passes, and none before it does
pub record IsFirst {A : Type 0} (passes : A → Bool) (name : A → TxnId) (xs : List A) (n : TxnId) : Type 0 where
  pub before : List A
  pub it : A
  pub rest : List A
  pub place : xs ≡ before ++ it ∷ rest
  pub named : name it ≡ n
  pub passed : passes it ≡ true
  pub first : (y : A) → Has before y → passes y ≡ false

pub first_found : {A : Type 0} (passes : A → Bool) (name : A → TxnId) (xs : List A) (n : TxnId) → first_by passes name xs ≡ Some n
    → IsFirst passes name xs n
first_found passes name [] n e = absurd cc
first_found {A} passes name (x ∷ xs) n e = by (passes x) refl e (first_found passes name xs n) where
  further : (before : List A) → passes x ≡ false → ((y : A) → Has before y → passes y ≡ false) → (y : A) → Has (x ∷ before) y
      → passes y ≡ false
  further before is none y (inl same) = ap passes (sym same) ∙ is
  further before is none y (inr m) = none y m

  by : (b : Bool) → passes x ≡ b → cond b (Some (name x)) (first_by passes name xs) ≡ Some n
      → (first_by passes name xs ≡ Some n → IsFirst passes name xs n) → IsFirst passes name (x ∷ xs) n
  by true is e more =
      let same : name x ≡ n = cc in
      record { before = []; it = x; rest = xs; place = refl; named = same; passed = is; first = λ y m. absurd m }
  by false is e more =
      let f = more e in
      record {
        before = x ∷ f.before;
        it = f.it;
        rest = f.rest;
        place = ap (λ ys. x ∷ ys) f.place;
        named = f.named;
        passed = f.passed;
        first = further f.before is f.first;
      }

skipped : {A : Type 0} (passes : A → Bool) (name : A → TxnId) (before rest : List A) → ((y : A) → Has before y → passes y ≡ false)
    → first_by passes name (before ++ rest) ≡ first_by passes name rest
skipped passes name [] rest none = refl
skipped passes name (y ∷ ys) rest none =
    ap (λ b. cond b (Some (name y)) (first_by passes name (ys ++ rest))) (none y (inl refl))
    ∙ skipped passes name ys rest (λ z m. none z (inr m))

pub first_is : {A : Type 0} (passes : A → Bool) (name : A → TxnId) (xs : List A) (n : TxnId) → IsFirst passes name xs n
    → first_by passes name xs ≡ Some n
first_is passes name xs n f =
    ap (first_by passes name) f.place ∙ skipped passes name f.before (f.it ∷ f.rest) f.first
    ∙ ap (λ b. cond b (Some (name f.it)) (first_by passes name f.rest)) f.passed ∙ ap Some f.named

pub none_passes : {A : Type 0} (passes : A → Bool) (name : A → TxnId) (xs : List A) → first_by passes name xs ≡ None
    → (y : A) → Has xs y → passes y ≡ false
none_passes passes name [] e y m = absurd m
none_passes {A} passes name (x ∷ xs) e y m = by (passes x) refl e (none_passes passes name xs) m where
  by : (b : Bool) → passes x ≡ b → cond b (Some (name x)) (first_by passes name xs) ≡ None
      → (first_by passes name xs ≡ None → (z : A) → Has xs z → passes z ≡ false) → Has (x ∷ xs) y → passes y ≡ false
  by true is e more m = absurd cc
  by false is e more (inl same) = ap passes (sym same) ∙ is
  by false is e more (inr m) = more e y m

pub pass_none : {A : Type 0} (passes : A → Bool) (name : A → TxnId) (xs : List A) → ((y : A) → Has xs y → passes y ≡ false)
    → first_by passes name xs ≡ None
pass_none passes name [] none = refl
pass_none passes name (x ∷ xs) none =
    ap (λ b. cond b (Some (name x)) (first_by passes name xs)) (none x (inl refl))
    ∙ pass_none passes name xs (λ z m. none z (inr m))

-- ---- tests and what they say

pub told_false : {P : Type 0} (b : Bool) → (b ≡ true → P) → ¬ P → b ≡ false
told_false true so not_so = absurd (not_so (so refl))
told_false false so not_so = refl

pub told_not : {P : Type 0} (b : Bool) → (P → b ≡ true) → b ≡ false → ¬ P
told_not true so none p = absurd cc
told_not false so none p = let clash : false ≡ true = so p in absurd cc
