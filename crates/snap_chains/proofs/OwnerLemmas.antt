-- Edges without owners.
use Rattle.std.proofs.Common.{◌≡◌, ℕ, zero, suc, ◌+◌, List, [], ◌∷◌, ◌++◌, length, map, false, refl, sym, ap, subst, ◌∙◌, arith, ◌&&◌}
use Rattle.std.specs.Prelude.{All, replicate}
use Rattle.std.specs.List.{AllByRecursion, zip}
use Rattle.std.proofs.lemmas.List.Elements.{All-from_recursion}
use Rattle.lay_point.specs.declared.point.Point.{Point}
use Rattle.lay_point.specs.Parity.{parity}
use Rattle.lay_point.specs.Rising.{IsRising}
use Rattle.lay_point.specs.Edges.{IsEdgeBefore, touches}
use Rattle.snap_chains.specs.declared.owner.Owner.{Owner}
use Rattle.snap_chains.specs.Owners.{IsOwnerBefore}
use Rattle.snap_chains.specs.Rounded.{is_owner_listed, IsRounded}

pub map-push : {A B : Type 0} (f : A → B) (xs : List A) (x : A) → map f (xs ++ x ∷ []) ≡ map f xs ++ f x ∷ []
map-push f [] x = refl
map-push f (y ∷ xs) x = ap (λ l. f y ∷ l) (map-push f xs x)

replicate-suc_end : {A : Type 0} (n : ℕ) (x : A) → replicate (suc n) x ≡ replicate n x ++ x ∷ []
replicate-suc_end zero x = refl
replicate-suc_end (suc n) x = ap (λ l. x ∷ l) (replicate-suc_end n x)

pub replicate_more : {A : Type 0} (n : ℕ) (x : A) → replicate (n + 1) x ≡ replicate n x ++ x ∷ []
replicate_more n x = let e : n + 1 ≡ suc n = omega arith in ap (λ k. replicate k x) e ∙ replicate-suc_end n x

length-replicate_none : {A : Type 0} (n : ℕ) (x : A) → length (replicate n x) ≡ n
length-replicate_none zero x = refl
length-replicate_none (suc n) x = omega (arith, length-replicate_none n x)

none_even : (o : Owner) (v : Point) (edges : List (Point × Point)) (n : ℕ)
    → parity (λ p. is_owner_listed o p.1 && touches v p.0) (zip edges (replicate n [])) ≡ false
none_even o v [] zero = refl
none_even o v [] (suc n) = refl
none_even o v (e ∷ es) zero = refl
none_even o v (e ∷ es) (suc n) = none_even o v es n

none_ordered : (n : ℕ) → AllByRecursion (IsRising IsOwnerBefore) (replicate n [])
none_ordered zero = tt
none_ordered (suc n) = (tt, none_ordered n)

-- edges in order, none of which has an owner
pub rounded_without_owners : (edges : List (Point × Point)) (owners : List (List Owner)) → IsRising IsEdgeBefore edges
    → owners ≡ replicate (length edges) [] → IsRounded (edges, owners)
rounded_without_owners edges owners up e = record {
  rising = up;
  paired = ap length e ∙ length-replicate_none (length edges) [];
  ordered = subst (All (IsRising IsOwnerBefore)) (sym e)
      (All-from_recursion (IsRising IsOwnerBefore) (replicate (length edges) []) (none_ordered (length edges)));
  even = λ o v. ap (λ l. parity (λ p. is_owner_listed o p.1 && touches v p.0) (zip edges l)) e ∙ none_even o v edges (length edges);
}
