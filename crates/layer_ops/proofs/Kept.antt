-- The edges with a label are those of the items that pass its test.
use Rattle.std.proofs.Common.{◌≡◌, Bool, true, false, cond, List, [], ◌∷◌, map, refl, ap}
use Rattle.std.specs.Prelude.{filter}
use Rattle.std.specs.List.{zip}

-- an item is the pair of an edge and what is known of it
pub kept_by_labels : {E O : Type 0} (test : E × O → Bool) (edges : List E) (owners : List O)
    → map (λ (p : E × Bool). p.0) (filter (λ p. p.1) (zip edges (map test (zip edges owners))))
    ≡ map (λ p. p.0) (filter test (zip edges owners))
kept_by_labels test [] owners = refl
kept_by_labels test (e ∷ es) [] = refl
kept_by_labels {E} {O} test (e ∷ es) (o ∷ os) = by_test (test (e, o)) (kept_by_labels test es os)
  where
    kept : List (E × Bool)
    kept = filter (λ p. p.1) (zip es (map test (zip es os)))

    passing : List (E × O)
    passing = filter test (zip es os)

    by_test : (b : Bool) → map (λ (p : E × Bool). p.0) kept ≡ map (λ (p : E × O). p.0) passing
        → map (λ (p : E × Bool). p.0) (cond b ((e, b) ∷ kept) kept) ≡ map (λ (p : E × O). p.0) (cond b ((e, o) ∷ passing) passing)
    by_test true rest = ap (λ l. e ∷ l) rest
    by_test false rest = rest
