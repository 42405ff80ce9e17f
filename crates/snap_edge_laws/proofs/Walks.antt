-- Walks joined at a shared end, and what closed walks have in common: of their neighbours an even number differ in any test. The same
-- is so of the distinct edges that occur an odd number of times, walked in whichever direction.
use Rattle.std.proofs.Common.{◌≡◌, Bool, true, false, ◌&&◌, ◌||◌, List, [], ◌∷◌, ◌++◌, map, refl, sym, ap, ap₂, subst, ◌∙◌}
use Rattle.lay_point.specs.Rising.{IsRising, pairs, last, IsFromTo}
use Rattle.lay_point.specs.Parity.{xor, parity}
use Rattle.snap_edge_laws.specs.Rounding.{tail, closed_walk}
use Rattle.snap_edge_laws.specs.Undirected.{walked_edges}
use Rattle.lay_point.proofs.Members.{Has}
use Rattle.lay_point.proofs.Rising.{IsStrictOrder}
use Rattle.lay_point.proofs.Parity.{
  IsEquality,
  xor_self,
  parity-append,
  parity-map,
  parity_agree,
  parity_of_walk,
  parity_of_occurrences,
}

-- ---- joined
last-append : {A : Type 0} (x : A) (xs ys : List A) → last x (xs ++ ys) ≡ last (last x xs) ys
last-append x [] ys = refl
last-append x (y ∷ xs) ys = last-append y xs ys

pairs-append : {A : Type 0} (x : A) (xs ys : List A) → pairs (x ∷ (xs ++ ys)) ≡ pairs (x ∷ xs) ++ pairs (last x xs ∷ ys)
pairs-append x [] ys = refl
pairs-append x (y ∷ xs) ys = ap (λ ps. (x, y) ∷ ps) (pairs-append y xs ys)

join_known : {A : Type 0} (a b c : A) (xs ys : List A) → last a xs ≡ b → last b ys ≡ c → IsFromTo a c ((a ∷ xs) ++ tail (b ∷ ys))
join_known a b c xs ys e g = record {
  rest = xs ++ ys;
  first_is = refl;
  last_is = last-append a xs ys ∙ ap (λ v. last v ys) e ∙ g;
}

pub joined_from_to : {A : Type 0} (a b c : A) (xs ys : List A) → IsFromTo a b xs → IsFromTo b c ys → IsFromTo a c (xs ++ tail ys)
joined_from_to a b c xs ys h g =
    subst (λ v. IsFromTo a c (v ++ tail ys)) (sym h.first_is)
    (subst (λ w. IsFromTo a c ((a ∷ h.rest) ++ tail w)) (sym g.first_is) (join_known a b c h.rest g.rest h.last_is g.last_is))

pairs_known : {A : Type 0} (a b : A) (xs ys : List A) → last a xs ≡ b
    → pairs ((a ∷ xs) ++ tail (b ∷ ys)) ≡ pairs (a ∷ xs) ++ pairs (b ∷ ys)
pairs_known a b xs ys e = pairs-append a xs ys ∙ ap (λ v. pairs (a ∷ xs) ++ pairs (v ∷ ys)) e

pub joined_pairs : {A : Type 0} (a b c : A) (xs ys : List A) → IsFromTo a b xs → IsFromTo b c ys
    → pairs (xs ++ tail ys) ≡ pairs xs ++ pairs ys
joined_pairs a b c xs ys h g =
    subst (λ v. pairs (v ++ tail ys) ≡ pairs v ++ pairs ys) (sym h.first_is)
    (subst (λ w. pairs ((a ∷ h.rest) ++ tail w) ≡ pairs (a ∷ h.rest) ++ pairs w) (sym g.first_is)
    (pairs_known a b h.rest g.rest h.last_is))

-- ---- closed
pub closed_from_to : {A : Type 0} (x : A) (xs : List A) → IsFromTo x x (closed_walk (x ∷ xs))
closed_from_to x xs = record { rest = xs ++ (x ∷ []); first_is = refl; last_is = last-append x xs (x ∷ []) }

pub even_walk : {A : Type 0} (f : A → Bool) (a : A) (xs : List A) → IsFromTo a a xs
    → parity (λ (e : A × A). xor (f e.0) (f e.1)) (pairs xs) ≡ false
even_walk f a xs h =
    subst (λ v. parity (λ e. xor (f e.0) (f e.1)) (pairs v) ≡ false) (sym h.first_is)
    (parity_of_walk f a h.rest ∙ ap (λ v. xor (f a) (f v)) h.last_is ∙ xor_self (f a))

abbrev pub AreClosed : {A : Type 0} → List (List A) → Type 0
AreClosed [] = Unit {0}
AreClosed {A} (w ∷ ws) = ((a : A) × IsFromTo a a w) × AreClosed ws

pub even_walks : {A E : Type 0} (u : A × A → E) (test : E → Bool) (f : A → Bool)
    → ((e : A × A) → test (u e) ≡ xor (f e.0) (f e.1)) → (walks : List (List A)) → AreClosed walks
    → parity test (walked_edges u walks) ≡ false
even_walks u test f e [] h = refl
even_walks {A} u test f e (w ∷ ws) h =
    parity-append test (map u (pairs w)) (walked_edges u ws)
    ∙ ap₂ xor (parity-map test u (pairs w)
    ∙ parity_agree (λ p. test (u p)) (λ p. xor (f p.0) (f p.1)) (pairs w) (λ p m. e p) ∙ even_walk f h.0.0 w h.0.1)
    (even_walks u test f e ws h.1)

-- of the edges in a rising list that the walks go an odd number of times, an even number pass
pub even_edges : {A E : Type 0} (Before : E → E → Type 0) → IsStrictOrder Before → (same : E → E → Bool) → IsEquality same
    → (u : A × A → E) (test : E → Bool) (f : A → Bool) → ((e : A × A) → test (u e) ≡ xor (f e.0) (f e.1))
    → (walks : List (List A)) → AreClosed walks → (edges : List E) → IsRising Before edges
    → ((o : E) → Has (walked_edges u walks) o → Has edges o)
    → parity (λ x. parity (same x) (walked_edges u walks) && test x) edges ≡ false
even_edges Before laws same decides u test f e walks closed edges h inside =
    parity_of_occurrences Before laws same decides test edges (walked_edges u walks) h inside ∙ even_walks u test f e walks closed

-- an edge whose ends differ has the vertex v for one of them exactly where one of the two is v and the other isn't
pub touches-xor : {A : Type 0} (same : A → A → Bool) → IsEquality same → (a b v : A) → ¬ (a ≡ b)
    → (same a v ≡ true → a ≡ v) → (same b v ≡ true → b ≡ v) → (same a v || same b v) ≡ xor (same a v) (same b v)
touches-xor same decides a b v differ at_a at_b = by_cases (same a v) (same b v) (λ e g. differ (at_a e ∙ sym (at_b g)))
  where
    by_cases : (p q : Bool) → (p ≡ true → q ≡ true → ⊥) → (p || q) ≡ xor p q
    by_cases false q h = refl
    by_cases true false h = refl
    by_cases true true h = absurd (h refl refl)
