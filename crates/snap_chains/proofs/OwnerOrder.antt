-- The order of owners, as `Ord` computes it, and that it is strict.
use Rattle.std.proofs.Common.{◌≡◌, ◌⊎◌, inl, inr, ◌<◌, ℕ, refl, sym, ap, ◌∙◌, subst, Decides}
use Rattle.std.specs.declared.cmp.Ordering.{Ordering}
use Rattle.std.specs.declared.cmp.Ordering.TheVariants.{Less, Equal, Greater}
use Rattle.std.specs.Ordering.{nat_cmp, on, then_cmp, ordering_then, ordering_reverse}
use Rattle.std.specs.Cmp.{IsTotalOrder}
use Rattle.std.proofs.lemmas.Bool.Decides.{Decides-and, Decides-eqb, Decides-like}
use Rattle.std.proofs.lemmas.Cmp.{nat_cmp_total, on_total, then_total, ranked}
use Rattle.lay_point.proofs.Rising.{IsStrictOrder}
use Rattle.lay_point.proofs.NumberLaws.{numbers_are_strict}
use Rattle.lay_point.proofs.BoolLaws.{both_equal}
use Rattle.snap_chains.specs.declared.owner.Input.{Input}
use Rattle.snap_chains.specs.declared.owner.Input.TheVariants.{First, Second}
use Rattle.snap_chains.specs.declared.owner.Owner.{Owner}
use Rattle.snap_chains.specs.contracts.owner.InputOrd.TheImpl as input_ord
use Rattle.snap_chains.specs.Owners.{IsInputBefore, IsOwnerBefore, input_eq, owner_eq}

-- ---- by one part, then by another
module _ {K A B : Type 0} (f : K → A) (g : K → B) (BeforeA : A → A → Type 0) (BeforeB : B → B → Type 0) where
  abbrev pub IsBeforeBy : K → K → Type 0
  IsBeforeBy x y = BeforeA (f x) (f y) ⊎ ((f x ≡ f y) × BeforeB (g x) (g y))

  pub strict_by : IsStrictOrder BeforeA → IsStrictOrder BeforeB → IsStrictOrder IsBeforeBy
  strict_by a b = record { irreflexive = irreflexive; transitive = transitive }
    where
      irreflexive : (x : K) → IsBeforeBy x x → ⊥
      irreflexive x (inl h) = a.irreflexive (f x) h
      irreflexive x (inr h) = b.irreflexive (g x) h.1

      transitive : (x y z : K) → IsBeforeBy x y → IsBeforeBy y z → IsBeforeBy x z
      transitive x y z (inl h) (inl k) = inl (a.transitive (f x) (f y) (f z) h k)
      transitive x y z (inl h) (inr k) = inl (subst (BeforeA (f x)) k.0 h)
      transitive x y z (inr h) (inl k) = inl (subst (λ v. BeforeA v (f z)) (sym h.0) k)
      transitive x y z (inr h) (inr k) = inr (h.0 ∙ k.0, b.transitive (g x) (g y) (g z) h.1 k.1)

pub first_less : (o p : Ordering) → ordering_then o p ≡ Less → (o ≡ Less) ⊎ ((o ≡ Equal) × (p ≡ Less))
first_less Less p h = inl refl
first_less Equal p h = inr (refl, h)
first_less Greater p h = cc

-- ---- inputs and owners
-- what `cmp` of inputs computes
abbrev pub input_cmp : Input → Input → Ordering
input_cmp = (input_ord.ghosts).cmp

input_cmp_total : IsTotalOrder input_cmp
input_cmp_total = record { antisymm = antisymm; trans = trans; congr = congr }
  where
    antisymm : (i j : Input) → input_cmp i j ≡ ordering_reverse (input_cmp j i)
    antisymm First First = refl
    antisymm First Second = refl
    antisymm Second First = refl
    antisymm Second Second = refl

    trans : (i j k : Input) → input_cmp i j ≡ Less → input_cmp j k ≡ Less → input_cmp i k ≡ Less
    trans First j First h k = antisymm_less j h k
      where
        antisymm_less : (j : Input) → input_cmp First j ≡ Less → input_cmp j First ≡ Less → input_cmp First First ≡ Less
        antisymm_less First h k = h
        antisymm_less Second h k = cc
    trans First j Second h k = refl
    trans Second First k h g = cc
    trans Second Second k h g = cc

    congr : (i j k : Input) → input_cmp i j ≡ Equal → input_cmp i k ≡ input_cmp j k
    congr First First k h = refl
    congr First Second k h = cc
    congr Second First k h = cc
    congr Second Second k h = refl

input_less : (i j : Input) → input_cmp i j ≡ Less → IsInputBefore i j
input_less First First h = cc
input_less First Second h = (refl, refl)
input_less Second First h = cc
input_less Second Second h = cc

input_exact : (i j : Input) → input_cmp i j ≡ Equal → i ≡ j
input_exact First First h = refl
input_exact First Second h = cc
input_exact Second First h = cc
input_exact Second Second h = refl

inputs_are_strict : IsStrictOrder IsInputBefore
inputs_are_strict = record {
  irreflexive = λ i h. absurd (first_or_second (sym h.0 ∙ h.1));
  transitive = λ i j k h g. (h.0, g.1);
}
  where
    first_or_second : First ≡ Second → ⊥
    first_or_second e = absurd cc

input_eq-Decides : (i j : Input) → Decides (input_eq i j) (i ≡ j)
input_eq-Decides First First = (λ h. refl, λ e. refl)
input_eq-Decides First Second = (λ h. cc, λ e. cc)
input_eq-Decides Second First = (λ h. cc, λ e. cc)
input_eq-Decides Second Second = (λ h. refl, λ e. refl)

pub owner_eq-Decides : (o p : Owner) → Decides (owner_eq o p) (o ≡ p)
owner_eq-Decides o p =
    Decides-like (owner_eq o p) (λ both. λ i. record { input = both.0 i; shape = both.1 i })
    (λ e. (ap (λ (q : Owner). q.input) e, ap (λ (q : Owner). q.shape) e))
    (Decides-and _ _ (input_eq-Decides o.input p.input) (Decides-eqb o.shape p.shape))

abbrev pub owner_cmp : Owner → Owner → Ordering
owner_cmp = then_cmp (on (λ o. o.input) input_cmp) (on (λ o. o.shape) nat_cmp)

pub owner_cmp_total : IsTotalOrder owner_cmp
owner_cmp_total = then_total (on_total (λ (o : Owner). o.input) input_cmp_total) (on_total (λ (o : Owner). o.shape) nat_cmp_total)

pub number_less : (m n : ℕ) → nat_cmp m n ≡ Less → m < n
number_less m n h = ranked m n Less (sym h)

pub number_exact : (m n : ℕ) → nat_cmp m n ≡ Equal → m ≡ n
number_exact m n h = ranked m n Equal (sym h)

pub owner_less : (o p : Owner) → owner_cmp o p ≡ Less → IsOwnerBefore o p
owner_less o p h = elim (first_less (input_cmp o.input p.input) (nat_cmp o.shape p.shape) h) [
  | inl less ↦ inl (input_less o.input p.input less)
  | inr tie ↦ inr (input_exact o.input p.input tie.0, number_less o.shape p.shape tie.1)
]

pub owner_exact : (o p : Owner) → owner_cmp o p ≡ Equal → o ≡ p
owner_exact o p h =
    let both = both_equal (input_cmp o.input p.input) (nat_cmp o.shape p.shape) h in
    let input = input_exact o.input p.input both.0 in
    let shape = number_exact o.shape p.shape both.1 in
    λ i. record { input = input i; shape = shape i }

pub owners_are_strict : IsStrictOrder IsOwnerBefore
owners_are_strict = strict_by (λ (o : Owner). o.input) (λ (o : Owner). o.shape) IsInputBefore (λ (m n : ℕ). m < n)
    inputs_are_strict numbers_are_strict
