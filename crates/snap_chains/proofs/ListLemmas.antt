-- Lists of owners that are parts of one.
use Rattle.std.proofs.Common.{◌≡◌, ℕ, zero, suc, ◌-◌, List, [], ◌∷◌, map, get_or, Some, take, drop, refl, sym, ap, ◌∙◌}
use Rattle.std.specs.Prelude.{replicate, slice_get, slice_range}
use Rattle.std.proofs.lemmas.List.{drop-map, take-map}
use Rattle.snap_chains.specs.OwnerLists.{owner_lists_of}

pub got : {A : Type 0} (xs : List A) (i : ℕ) (x : A) → slice_get xs i ≡ Some x → get_or xs i x ≡ x
got [] i x h = absurd cc
got (y ∷ ys) zero x h = cc
got (y ∷ ys) (suc i) x h = got ys i x h

pub no_lists : (n : ℕ) → owner_lists_of [] (replicate n (record { from = 0; to = 0 })) ≡ replicate n []
no_lists zero = refl
no_lists (suc n) = ap (λ l. [] ∷ l) (no_lists n)

pub map-range : {A B : Type 0} (f : A → B) (xs : List A) (from to : ℕ) → map f (slice_range xs from to) ≡ slice_range (map f xs) from to
map-range f xs from to = sym (take-map f (to - from) (drop from xs)) ∙ ap (take (to - from)) (sym (drop-map f from xs))
