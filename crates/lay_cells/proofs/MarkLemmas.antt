-- A search from a start marks what a path leads to.
use Rattle.std.proofs.Common.{◌≡◌, ℕ, zero, suc, ◌+◌, ◌<◌, ◌⊎◌, inl, inr, Bool, true, false, List, [], ◌∷◌, ◌++◌}
use Rattle.std.proofs.Common.{length, refl, ap, sym, ◌∙◌, subst, arith}
use Rattle.std.proofs.Common.{true≢false, Contains, slice_index_or, slice_set, replicate}
use Rattle.std.proofs.lemmas.Bool.{cases_eq}
use Rattle.std.proofs.lemmas.List.{length-set, length-replicate, length-append, get_or-set_same, get_or-set_other}
use Rattle.std.proofs.lemmas.List.Elements.{Contains-append_left, Contains-push, Contains-push_cases}
use Rattle.std.proofs.lemmas.List.Sums.{sum_by-set}
use Rattle.lay_cells.specs.Graph.{row}
use Rattle.lay_cells.specs.Marks.{AreReached, IsMarked, IsSearch, MarksAll, Path, one_unmarked, unmarked}
use Rattle.lay_cells.specs.Marks.Path.{here, along}

none_in_nil : {P : Type 0} (q : ℕ) → Contains [] q → P
none_in_nil q h = absurd (omega (arith, h.1))

false_at_first : (n q : ℕ) → slice_index_or (replicate n false) q false ≡ false
false_at_first zero q = refl
false_at_first (suc n) zero = refl
false_at_first (suc n) (suc q) = false_at_first n q

-- nothing is marked at first
unmarked_at_first : (n q : ℕ) → IsMarked (replicate n false) q → ⊥
unmarked_at_first n q h = true≢false (sym h ∙ false_at_first n q)

-- what is marked is among the cells
pub marked_within : (marks : List Bool) (q : ℕ) → IsMarked marks q → q < length marks
marked_within [] q h = absurd (true≢false (sym h))
marked_within (m ∷ ms) zero h = omega arith
marked_within (m ∷ ms) (suc q) h = omega (arith, marked_within ms q h)

module _ (marks : List Bool) (t : ℕ) (within : t < length marks) where
  -- a mark more
  pub marked_same : IsMarked (slice_set marks t true) t
  marked_same = get_or-set_same marks t true false within

  pub marked_kept : (q : ℕ) → IsMarked marks q → IsMarked (slice_set marks t true) q
  marked_kept q h = elim (cases_eq q t) [
    | inl e ↦ subst (λ (i : ℕ). IsMarked (slice_set marks t true) i) (sym e) marked_same
    | inr ne ↦ get_or-set_other marks t q true false ne ∙ h
  ]

  pub marked_cases : (q : ℕ) → IsMarked (slice_set marks t true) q → (t ≡ q) ⊎ IsMarked marks q
  marked_cases q h = elim (cases_eq q t) [
    | inl e ↦ inl (sym e)
    | inr ne ↦ inr (sym (get_or-set_other marks t q true false ne) ∙ h)
  ]

  pub unmarked_set : slice_index_or marks t false ≡ false → unmarked (slice_set marks t true) + 1 ≡ unmarked marks
  unmarked_set e =
      let s = sum_by-set one_unmarked marks t true false within in
      let one : one_unmarked (slice_index_or marks t false) ≡ one_unmarked false = ap one_unmarked e in
      omega (arith, s, one)

module _ (done : List ℕ) (marks : List Bool) (pending : List ℕ) (marks' : List Bool) (pending' : List ℕ)
    (m : MarksAll done marks pending marks' pending') (t : ℕ) where
  -- a target that is marked already
  pub marks_known : IsMarked marks' t → MarksAll (done ++ t ∷ []) marks pending marks' pending'
  marks_known known = record {
    whole = m.whole;
    kept = m.kept;
    new = λ q h. elim (m.new q h) [
      | inl old ↦ inl old
      | inr both ↦ inr (Contains-append_left done (t ∷ []) q both.0, both.1)
    ];
    all = λ q h. elim (Contains-push_cases done t q h) [
      | inl old ↦ m.all q old
      | inr e ↦ subst (λ (i : ℕ). IsMarked marks' i) e known
    ];
    still = m.still;
    only = m.only;
    count = m.count;
  }

  -- a target that is not
  pub marks_new : t < length marks' → slice_index_or marks' t false ≡ false
      → MarksAll (done ++ t ∷ []) marks pending (slice_set marks' t true) (pending' ++ t ∷ [])
  marks_new within free = record {
    whole = length-set marks' t true ∙ m.whole;
    kept = λ q h. marked_kept marks' t within q (m.kept q h);
    new = λ q h. elim (marked_cases marks' t within q h) [
      | inl e ↦ inr (
        subst (λ (i : ℕ). Contains (done ++ t ∷ []) i) e (Contains-push done t),
        subst (λ (i : ℕ). Contains (pending' ++ t ∷ []) i) e (Contains-push pending' t),
      )
      | inr old ↦ elim (m.new q old) [
        | inl older ↦ inl older
        | inr both ↦ inr (Contains-append_left done (t ∷ []) q both.0, Contains-append_left pending' (t ∷ []) q both.1)
      ]
    ];
    all = λ q h. elim (Contains-push_cases done t q h) [
      | inl old ↦ marked_kept marks' t within q (m.all q old)
      | inr e ↦ subst (λ (i : ℕ). IsMarked (slice_set marks' t true) i) e (marked_same marks' t within)
    ];
    still = λ q h. Contains-append_left pending' (t ∷ []) q (m.still q h);
    only = λ q h. elim (Contains-push_cases pending' t q h) [
      | inl old ↦ elim (m.only q old) [
        | inl older ↦ inl older
        | inr marked ↦ inr (marked_kept marks' t within q marked)
      ]
      | inr e ↦ inr (subst (λ (i : ℕ). IsMarked (slice_set marks' t true) i) e (marked_same marks' t within))
    ];
    count = omega (arith, m.count, unmarked_set marks' t within free, length-append pending' (t ∷ []));
  }

-- a path, and a call behind it
pub Path-push : {rows : List (List ℕ)} {p q : ℕ} (t : ℕ) → Path rows p q → Contains (row rows q) t → Path rows p t
Path-push t here h = along h here
Path-push t (along first rest) h = along first (Path-push t rest h)

-- a search begins with its start
pub search_begins : (rows : List (List ℕ)) (start : ℕ) → start < length rows
    → IsSearch rows start (slice_set (replicate (length rows) false) start true) (start ∷ [])
search_begins rows start h =
    let within : start < length (replicate (length rows) false) = omega (arith, length-replicate (length rows) false) in
    record {
      whole = length-set (replicate (length rows) false) start true ∙ length-replicate (length rows) false;
      begun = marked_same (replicate (length rows) false) start within;
      pending = λ q g. elim (Contains-push_cases [] start q g) [
        | inl none ↦ none_in_nil q none
        | inr e ↦ subst (λ (i : ℕ). IsMarked (slice_set (replicate (length rows) false) start true) i) e
            (marked_same (replicate (length rows) false) start within)
      ];
      sound = λ q g. elim (marked_cases (replicate (length rows) false) start within q g) [
        | inl e ↦ subst (λ (i : ℕ). Path rows start i) e here
        | inr none ↦ absurd (unmarked_at_first (length rows) q none)
      ];
      closed = λ q g. elim (marked_cases (replicate (length rows) false) start within q g) [
        | inl e ↦ inl (subst (λ (i : ℕ). Contains (start ∷ []) i) e (Contains-push [] start))
        | inr none ↦ absurd (unmarked_at_first (length rows) q none)
      ];
    }

-- a cell that is pending is among the rows
pub pending_within : (rows : List (List ℕ)) (start : ℕ) (marks : List Bool) (pending : List ℕ) (p : ℕ)
    → IsSearch rows start marks (pending ++ p ∷ []) → p < length rows
pending_within rows start marks pending p s =
    omega (arith, s.whole, marked_within marks p (s.pending p (Contains-push pending p)))

-- a search goes on over the targets of a pending cell
pub search_goes_on : (rows : List (List ℕ)) (start : ℕ) (marks : List Bool) (pending : List ℕ) (p : ℕ) (marks' : List Bool)
    (pending' : List ℕ) → IsSearch rows start marks (pending ++ p ∷ []) → MarksAll (row rows p) marks pending marks' pending'
    → IsSearch rows start marks' pending'
search_goes_on rows start marks pending p marks' pending' s m = record {
  whole = m.whole ∙ s.whole;
  begun = m.kept start s.begun;
  pending = λ q h. elim (m.only q h) [
    | inl old ↦ m.kept q (s.pending q (Contains-append_left pending (p ∷ []) q old))
    | inr marked ↦ marked
  ];
  sound = λ q h. elim (m.new q h) [
    | inl old ↦ s.sound q old
    | inr both ↦ Path-push q (s.sound p (s.pending p (Contains-push pending p))) both.0
  ];
  closed = λ q h. elim (m.new q h) [
    | inl old ↦ elim (s.closed q old) [
      | inl waits ↦ elim (Contains-push_cases pending p q waits) [
        | inl still ↦ inl (m.still q still)
        | inr e ↦ inr (λ t g. m.all t (subst (λ (i : ℕ). Contains (row rows i) t) (sym e) g))
      ]
      | inr shut ↦ inr (λ t g. m.kept t (shut t g))
    ]
    | inr both ↦ inl both.1
  ];
}

-- marks that are closed under calls have what a path leads to
pub closed_under_paths : {rows : List (List ℕ)} {p q : ℕ} (marks : List Bool)
    → ((p : ℕ) → IsMarked marks p → (t : ℕ) → Contains (row rows p) t → IsMarked marks t)
    → Path rows p q → IsMarked marks p → IsMarked marks q
closed_under_paths marks shut here h = h
closed_under_paths {rows} {p} marks shut (along {t = t} first rest) h = closed_under_paths marks shut rest (shut p h t first)

-- where nothing is pending, the search is done
pub search_ends : (rows : List (List ℕ)) (start : ℕ) (marks : List Bool) → IsSearch rows start marks [] → AreReached rows start marks
search_ends rows start marks s = record {
  whole = s.whole;
  sound = s.sound;
  complete = λ q path. closed_under_paths marks shut path s.begun;
} where
  shut : (p : ℕ) → IsMarked marks p → (t : ℕ) → Contains (row rows p) t → IsMarked marks t
  shut p h = elim (s.closed p h) [
    | inl waits ↦ none_in_nil p waits
    | inr rest ↦ rest
  ]
