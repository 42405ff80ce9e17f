-- Owners that are the same, and those that are listed. A shape with an odd parity is listed; so an input holds where some shape of
-- it does.
use Rattle.std.proofs.Common.{◌≡◌, inl, inr, Bool, true, false, ◌&&◌, List, [], ◌∷◌, ◌==◌, refl, sym, ap, subst, ◌∙◌, ⊎_elim}
use Rattle.std.specs.List.{list_any}
use Rattle.std.proofs.lemmas.Bool.{and_parts, or_cases}
use Rattle.std.proofs.lemmas.Bool.Decides.{Decides-eqb}
use Rattle.lay_point.specs.Parity.{xor, parity, is_crossed}
use Rattle.lay_point.proofs.Members.{Has, has-append_left, has-append_right}
use Rattle.lay_point.proofs.ListLaws.{any_true}
use Rattle.snap_chains.specs.declared.owner.Input.{Input}
use Rattle.snap_chains.specs.declared.owner.Input.TheVariants.{First, Second}
use Rattle.snap_chains.specs.declared.owner.Owner.{Owner}
use Rattle.snap_chains.specs.Owners.{input_eq, owner_eq}
use Rattle.snap_chains.specs.Rounded.{is_owner_listed}
use Rattle.snap_chains.proofs.RoundLemmas.{listed_has}
use Rattle.face_rows.specs.Labels.{Item, listed_shapes, odd_of, owned_items}
use Rattle.face_rows.specs.Laws.{InputsAreTheirShapes}

pub same_input : (i j : Input) → input_eq i j ≡ true → i ≡ j
same_input First First e = refl
same_input First Second e = absurd cc
same_input Second First e = absurd cc
same_input Second Second e = refl

pub input_itself : (i : Input) → input_eq i i ≡ true
input_itself First = refl
input_itself Second = refl

pub same_owner : (o p : Owner) → owner_eq o p ≡ true → o ≡ p
same_owner o p e =
    let both = and_parts (input_eq o.input p.input) (o.shape == p.shape) e in
    let first = same_input o.input p.input both.0 in
    let second = (Decides-eqb o.shape p.shape).0 both.1 in
    λ i. record { input = first i; shape = second i }

-- an odd number is one at least
odd_has : (test : Item → Bool) (items : List Item) → parity test items ≡ true → (p : Item) × Has items p × (test p ≡ true)
odd_has test [] e = absurd cc
odd_has test (p ∷ ps) e = by_test (test p) refl e (λ f. odd_has test ps f)
  where
    by_test : (b : Bool) → test p ≡ b → xor b (parity test ps) ≡ true
        → (parity test ps ≡ true → (q : Item) × Has ps q × (test q ≡ true)) → (q : Item) × Has (p ∷ ps) q × (test q ≡ true)
    by_test true t f further = (p, inl refl, t)
    by_test false t f further = let r = further f in (r.0, inr r.1, r.2)

pub shapes_have : (items : List Item) (p : Item) (o : Owner) → Has items p → Has p.1 o → Has (listed_shapes items) o
shapes_have [] p o m n = absurd m
shapes_have (q ∷ qs) p o (inl same) n = has-append_left q.1 (listed_shapes qs) o (subst (λ (z : Item). Has z.1 o) (sym same) n)
shapes_have (q ∷ qs) p o (inr m) n = has-append_right q.1 (listed_shapes qs) o (shapes_have qs p o m n)

true_any : (test : Owner → Bool) (os : List Owner) → list_any test os ≡ true → (o : Owner) × (test o ≡ true)
true_any test [] e = absurd cc
true_any test (p ∷ os) e = ⊎_elim (λ (here : test p ≡ true). (p, here))
    (λ (there : list_any test os ≡ true). true_any test os there) (or_cases (test p) (list_any test os) e)

pub inputs_are_their_shapes : InputsAreTheirShapes
inputs_are_their_shapes r input k x y = (
  (λ e.
      let found = true_any (λ o. input_eq o.input input && odd_of (owned_items r) o k x y) (listed_shapes (owned_items r)) e in
      let both = and_parts (input_eq found.0.input input) (odd_of (owned_items r) found.0 k x y) found.1 in
      let same = same_input found.0.input input both.0 in
      (found.0.shape, ap (λ i. odd_of (owned_items r) (record { input = i; shape = found.0.shape }) k x y) (sym same) ∙ both.1)),
  (λ found.
      let o : Owner = record { input = input; shape = found.0 } in
      let one = odd_has (λ p. is_owner_listed o p.1 && is_crossed k x y p.0) (owned_items r) found.1 in
      let listed = and_parts (is_owner_listed o one.0.1) (is_crossed k x y one.0.0) one.2 in
      any_true (λ p. input_eq p.input input && odd_of (owned_items r) p k x y) (listed_shapes (owned_items r)) o
      (shapes_have (owned_items r) one.0 o one.1 (listed_has o one.0.1 listed.0))
      (ap (λ b. b && odd_of (owned_items r) o k x y) (input_itself input) ∙ found.1)),
)
