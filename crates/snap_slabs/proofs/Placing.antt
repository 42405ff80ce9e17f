-- Where numbers are in a list: one more place written.
use Rattle.std.proofs.Common.{◌≡◌, ◌≢◌, ⊎_elim, ℕ, ◌+◌, ◌<◌, ◌≤◌, List, length, get_or, take, Some, set}
use Rattle.std.proofs.Common.{sym, ap, subst, ◌∙◌, arith, Contains}
use Rattle.std.specs.Prelude.{slice_get, slice_index_or, slice_set}
use Rattle.std.proofs.lemmas.Bool.{cases_lt}
use Rattle.std.proofs.lemmas.List.{get_or-set_same, get_or-set_other, take_more, get_or_default}
use Rattle.std.proofs.lemmas.List.Elements.{Contains-push_cases}
use Rattle.std.proofs.lemmas.Option.{slice_get-get_or}

pub own_element : (rows : List ℕ) (k : ℕ) → k < length rows → Contains rows (slice_index_or rows k 0)
own_element rows k lt = (k, lt, get_or_default rows k (get_or rows k 0) 0 lt)

pub place_more : (rows places : List ℕ) (k : ℕ) → k < length rows → slice_index_or rows k 0 < length places
    → ((i : ℕ) → Contains (take k rows) i → slice_get rows (slice_index_or places i 0) ≡ Some i)
    → (i : ℕ) → Contains (take (k + 1) rows) i
    → slice_get rows (slice_index_or (slice_set places (slice_index_or rows k 0) k) i 0) ≡ Some i
place_more rows places k lt inside so_far i m = ⊎_elim
    (λ (less : i < (get_or rows k 0)). other (omega (arith, less)))
    (λ (ge : (get_or rows k 0) ≤ i). ⊎_elim (λ (more : (get_or rows k 0) < i). other (omega (arith, more)))
    (λ (le : i ≤ (get_or rows k 0)). same (omega (arith, ge, le))) (cases_lt (get_or rows k 0) i))
    (cases_lt i (get_or rows k 0))
  where
    same : i ≡ (get_or rows k 0) → slice_get rows (slice_index_or (slice_set places (get_or rows k 0) k) i 0) ≡ Some i
    same e =
        let here : get_or (set places (get_or rows k 0) k) i 0 ≡ k = ap (λ j. get_or (set places (get_or rows k 0) k) j 0) e
        ∙ get_or-set_same places (get_or rows k 0) k 0 inside in
        ap (slice_get rows) here ∙ slice_get-get_or rows k 0 lt ∙ ap Some (sym e)

    other : i ≢ (get_or rows k 0) → slice_get rows (slice_index_or (slice_set places (get_or rows k 0) k) i 0) ≡ Some i
    other apart =
        let was : Contains (take k rows) i = ⊎_elim (λ (w : Contains (take k rows) i). w)
        (λ (e : (get_or rows k 0) ≡ i). absurd (apart (sym e)))
        (Contains-push_cases (take k rows) (get_or rows k 0) i (subst (λ l. Contains l i) (take_more rows k 0 lt) m)) in
        ap (slice_get rows) (get_or-set_other places (get_or rows k 0) i k 0 apart) ∙ so_far i was
