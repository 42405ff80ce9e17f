-- Owners that are the same, and lists of them in order.
use Rattle.std.proofs.Common.{◌≡◌, ℕ, zero, suc, ◌+◌, ◌<◌, Bool, true, false, not, ◌&&◌, ◌||◌, List, [], ◌∷◌}
use Rattle.std.proofs.Common.{length, get_or, take, refl, sym, ap, subst, ◌∙◌, arith}
use Rattle.std.specs.List.{list_any}
use Rattle.std.proofs.lemmas.Bool.Decides.{Decides-eqb}
use Rattle.std.proofs.lemmas.List.{take_more}
use Rattle.lay_point.specs.Rising.{IsRising}
use Rattle.lay_point.specs.Parity.{xor, parity}
use Rattle.lay_point.proofs.Members.{Has}
use Rattle.lay_point.proofs.Parity.{parity-append, parity_none, xor-false, xor_assoc, xor_comm}
use Rattle.lay_point.proofs.Rising.{IsStrictOrder, before_rest, rising_rest}
use Rattle.lay_point.proofs.ListLaws.{any_true, has_get}
use Rattle.snap_chains.specs.declared.owner.Owner.{Owner}
use Rattle.snap_chains.specs.Owners.{IsOwnerBefore, input_eq, owner_eq}
use Rattle.snap_chains.specs.Rounded.{is_owner_listed}
use Rattle.face_rows.proofs.Shapes.{input_itself, same_owner}
use Rattle.snap_chains.proofs.OwnerOrder.{owners_are_strict}

pub owner_itself : (o : Owner) → owner_eq o o ≡ true
owner_itself o = both (input_eq o.input o.input) (input_itself o.input) ((Decides-eqb o.shape o.shape).1 refl)
  where
    both : (a : Bool) → a ≡ true → {b : Bool} → b ≡ true → (a && b) ≡ true
    both true e f = f
    both false e f = absurd cc

-- ---- each owner once
-- where one passes, none behind it does
pub parity_any : {A : Type 0} (Before : A → A → Type 0) → IsStrictOrder Before → (test : A → Bool) (xs : List A) → IsRising Before xs
    → ((x y : A) → Before x y → test x ≡ true → test y ≡ false) → parity test xs ≡ list_any test xs
parity_any Before laws test [] h once = refl
parity_any Before laws test (x ∷ xs) h once = by_test (test x) refl (parity_any Before laws test xs (rising_rest Before x xs h) once)
  where
    by_test : (b : Bool) → test x ≡ b → parity test xs ≡ list_any test xs → xor b (parity test xs) ≡ (b || list_any test xs)
    by_test true t further = ap not (parity_none test xs (λ y m. once x y (before_rest Before laws x xs y h m) t))
    by_test false t further = further

pub other_owner : (o p q : Owner) → IsOwnerBefore o p → owner_eq o q ≡ true → owner_eq p q ≡ false
other_owner o p q before same = by_test (owner_eq p q) refl
  where
    by_test : (b : Bool) → owner_eq p q ≡ b → b ≡ false
    by_test true e =
        absurd (owners_are_strict.irreflexive o (subst (IsOwnerBefore o) (same_owner p q e ∙ sym (same_owner o q same)) before))
    by_test false e = refl

-- none of those before one is the same
pub none_before : (owners : List Owner) (i : ℕ) (d : Owner) → IsRising IsOwnerBefore owners → i < length owners
    → parity (λ p. owner_eq p (get_or owners i d)) (take i owners) ≡ false
none_before [] i d h less = absurd (omega arith)
none_before (x ∷ xs) zero d h less = refl
none_before (x ∷ xs) (suc i) d h less =
    let o = get_or xs i d in
    let before = before_rest IsOwnerBefore owners_are_strict x xs o h (has_get xs i d (omega arith)) in
    ap (λ b. xor b (parity (λ p. owner_eq p o) (take i xs))) (apart o before (owner_eq x o) refl)
    ∙ none_before xs i d (rising_rest IsOwnerBefore x xs h) (omega arith)
  where
    apart : (o : Owner) → IsOwnerBefore x o → (b : Bool) → owner_eq x o ≡ b → b ≡ false
    apart o before true e = absurd (owners_are_strict.irreflexive x (subst (IsOwnerBefore x) (sym (same_owner x o e)) before))
    apart o before false e = refl

-- one owner more is turned
pub turn_more : (owners : List Owner) (i : ℕ) (d o : Owner) (x : Bool) → i < length owners
    → xor (owner_eq (get_or owners i d) o) (xor (parity (λ p. owner_eq p o) (take i owners)) x)
    ≡ xor (parity (λ p. owner_eq p o) (take (i + 1) owners)) x
turn_more owners i d o x less =
    let p = parity (λ q. owner_eq q o) (take i owners) in
    let a = owner_eq (get_or owners i d) o in
    let further : parity (λ q. owner_eq q o) (take (i + 1) owners) ≡ xor p (xor a false) =
    ap (parity (λ q. owner_eq q o)) (take_more owners i d less)
    ∙ parity-append (λ q. owner_eq q o) (take i owners) (get_or owners i d ∷ []) in
    sym (xor_assoc a p x) ∙ ap (λ z. xor z x) (xor_comm a p) ∙ sym (ap (λ z. xor z x) (further ∙ ap (xor p) (xor-false a)))

pub listed_of : (owners : List Owner) (o : Owner) → IsRising IsOwnerBefore owners
    → parity (λ p. owner_eq p o) owners ≡ is_owner_listed o owners
listed_of owners o h =
    parity_any IsOwnerBefore owners_are_strict (λ p. owner_eq p o) owners h (λ p q before same. other_owner p q o before same)

pub listed_at : (owners : List Owner) (i : ℕ) (o : Owner) → i < length owners → get_or owners i o ≡ o → is_owner_listed o owners ≡ true
listed_at owners i o less is = any_true (λ p. owner_eq p o) owners o (subst (Has owners) is (has_get owners i o less)) (owner_itself o)
