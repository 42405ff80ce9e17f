-- What is left of a path without repeats has no equal neighbours, its last point and its first among them.
use Rattle.std.proofs.Common.{◌≡◌, ◌≢◌, ℕ, ◌+◌, ◌-◌, ◌≤◌, List, [], ◌∷◌, ◌++◌, length, take, drop, get_or, suc, ◌<◌, Bool, true, false}
use Rattle.std.proofs.Common.{cond, refl, ap, sym, ◌∙◌, arith, append_assoc}
use Rattle.std.proofs.lemmas.List.{at_drop_more}
use Rattle.lay_point.specs.declared.point.Point.{Point}
use Rattle.lay_point.specs.Points.{point_eq}
use Rattle.lay_point.specs.Same.{point_eq-Decides}
use Rattle.lay_point.specs.Rings.{NeighboursDiffer, closed, kept_behind, opened, opened_behind, without_neighbours}

pub point_eq-true : (p q : Point) → point_eq p q ≡ true → p ≡ q
point_eq-true p q h = (point_eq-Decides p q).0 h

pub point_eq-false : (p q : Point) → point_eq p q ≡ false → p ≢ q
point_eq-false p q h e = let t = (point_eq-Decides p q).1 e in cc

-- behind a point no kept point equals the one before it
kept_differ : (p : Point) (ps : List Point) → NeighboursDiffer (p ∷ kept_behind p ps)
kept_differ p [] = tt
kept_differ p (q ∷ qs) =
    elim (point_eq p q) as (λ b. point_eq p q ≡ b → NeighboursDiffer (p ∷ cond b (kept_behind p qs) (q ∷ kept_behind q qs))) [
      | true ↦ λ _. kept_differ p qs
      | false ↦ λ h. (point_eq-false p q h, kept_differ q qs)
    ] refl

-- opened, such a path has no equal neighbours around
opened_differ : (first p q : Point) (ps : List Point) → NeighboursDiffer (p ∷ q ∷ ps)
    → NeighboursDiffer (p ∷ opened_behind first (q ∷ ps) ++ first ∷ [])
opened_differ first p q [] h =
    elim (point_eq first q) as (λ b. point_eq first q ≡ b → NeighboursDiffer (p ∷ cond b [] (q ∷ []) ++ first ∷ [])) [
      | true ↦ λ e. ((λ same. h.0 (same ∙ point_eq-true first q e)), tt)
      | false ↦ λ e. (h.0, ((λ same. point_eq-false first q e (sym same)), tt))
    ] refl
opened_differ first p q (r ∷ rs) h = (h.0, opened_differ first q r rs h.1)

-- what is left of two points and more without repeats is a closed path without equal neighbours
pub opened-apart : (ps : List Point) → 2 ≤ length (opened (without_neighbours ps))
    → NeighboursDiffer (closed (opened (without_neighbours ps)))
opened-apart [] h = tt
opened-apart (p ∷ ps) h = apart p (kept_behind p ps) (kept_differ p ps) h where
  apart : (p : Point) (ks : List Point) → NeighboursDiffer (p ∷ ks) → 2 ≤ length (p ∷ opened_behind p ks)
      → NeighboursDiffer (p ∷ opened_behind p ks ++ p ∷ [])
  apart p [] d l = absurd (omega arith)
  apart p (q ∷ qs) d l = opened_differ p p q qs d

pulled : (b : Bool) (p : Point) (xs ys : List Point) → p ∷ cond b xs ys ≡ cond b (p ∷ xs) (p ∷ ys)
pulled true p xs ys = refl
pulled false p xs ys = refl

-- opening behind a first point, by places
opened_behind_is : (first q d : Point) (ys : List Point) → opened_behind first (q ∷ ys)
    ≡ cond (point_eq first (get_or (q ∷ ys) (length ys) d)) (take (length ys) (q ∷ ys)) (q ∷ ys)
opened_behind_is first q d [] = refl
opened_behind_is first q d (r ∷ rs) = ap (λ xs. q ∷ xs) (opened_behind_is first r d rs)
    ∙ pulled (point_eq first (get_or (r ∷ rs) (length rs) d)) q (take (length rs) (r ∷ rs)) (r ∷ rs)

-- opening a path of two points and more
pub opened_is : (xs : List Point) (d : Point) → 2 ≤ length xs → opened xs
    ≡ cond (point_eq (get_or xs 0 d) (get_or xs (length xs - 1) d)) (take (length xs - 1) xs) xs
opened_is [] d h = absurd (omega arith)
opened_is (p ∷ []) d h = absurd (omega arith)
opened_is (p ∷ q ∷ ys) d h =
    let last : length (p ∷ q ∷ ys) - 1 ≡ suc (length ys) = omega arith in
    rw last (ap (λ xs. p ∷ xs) (opened_behind_is p q d ys) ∙ pulled (point_eq p (get_or (q ∷ ys) (length ys) d)) p
    (take (length ys) (q ∷ ys)) (q ∷ ys))

-- what is kept of the rest of a list, by its next point
pub kept_behind_more : (last d : Point) (ps : List Point) (i : ℕ) → i < length ps
    → kept_behind last (drop i ps) ≡ cond (point_eq last (get_or ps i d)) (kept_behind last (drop (i + 1) ps))
    (get_or ps i d ∷ kept_behind (get_or ps i d) (drop (i + 1) ps))
kept_behind_more last d ps i h = at_drop_more (kept_behind last) ps i d h

-- a point that is kept goes from the rest to what is kept
pub kept_more : (kept : List Point) (last d : Point) (ps : List Point) (i : ℕ) (whole : List Point) → i < length ps
    → point_eq last (get_or ps i d) ≡ false → kept ++ kept_behind last (drop i ps) ≡ whole
    → (kept ++ get_or ps i d ∷ []) ++ kept_behind (get_or ps i d) (drop (i + 1) ps) ≡ whole
kept_more kept last d ps i whole h differs so_far =
    let e : kept_behind last (drop i ps) ≡ get_or ps i d ∷ kept_behind (get_or ps i d) (drop (i + 1) ps) =
    kept_behind_more last d ps i h ∙ rw differs refl in
    append_assoc kept _ _ ∙ ap (λ rest. kept ++ rest) (sym e) ∙ so_far
