-- Rings of shapes: the sides of each are among those of all.
use Rattle.std.proofs.Common.{◌≡◌, ℕ, zero, suc, ◌<◌, List, [], ◌∷◌, ◌++◌, length, get_or, Contains, sym, subst, arith}
use Rattle.std.specs.Prelude.{flat_map}
use Rattle.std.specs.List.{AllZip}
use Rattle.lay_point.proofs.Members.{Has, has, contains, has-append_left, has-append_right}

in_one : {A B : Type 0} (f : A → List B) (xs : List A) (i : ℕ) (d : A) (y : B) → i < length xs → Has (f (get_or xs i d)) y →
    Has (flat_map f xs) y
in_one f [] i d y lt m = absurd (omega arith)
in_one f (x ∷ xs) zero d y lt m = has-append_left (f x) (flat_map f xs) y m
in_one f (x ∷ xs) (suc i) d y lt m = has-append_right (f x) (flat_map f xs) y (in_one f xs i d y (omega arith) m)

-- what one element gives is among what all give
pub Contains-flat_map : {A B : Type 0} (f : A → List B) (xs : List A) (i : ℕ) (x : A) (all : List B) → i < length xs → x ≡ get_or xs i x
    → all ≡ flat_map f xs → (y : B) → Contains (f x) y → Contains all y
Contains-flat_map f xs i x all lt at e y m =
    subst (λ l. Contains l y) (sym e)
    (contains (flat_map f xs) y (in_one f xs i x y lt (subst (λ v. Has (f v) y) at (has (f x) y m))))

pub zip_push : {A B : Type 0} (R : A → B → Type 0) (xs : List A) (ys : List B) (x : A) (y : B) → AllZip R xs ys → R x y
    → AllZip R (xs ++ x ∷ []) (ys ++ y ∷ [])
zip_push R [] [] x y h r = (r, tt)
zip_push R [] (w ∷ ys) x y h r = absurd h
zip_push R (v ∷ xs) [] x y h r = absurd h
zip_push R (v ∷ xs) (w ∷ ys) x y h r = (h.0, zip_push R xs ys x y h.1 r)
