-- Pairs of edges, by their numbers.
use Rattle.std.proofs.Common.{◌≡◌, ℕ, zero, suc, ◌+◌, ◌<◌, ◌≤◌, List, [], ◌∷◌, length, get_or, sym, ap, ◌∙◌, subst, arith, ⊎_elim}
use Rattle.std.proofs.lemmas.Bool.{cases_lt}
use Rattle.std.proofs.lemmas.List.{get_or_default}
use Rattle.std.proofs.lemmas.List.Elements.{Contains-get_or}
use Rattle.lay_point.specs.declared.point.Point.{Point}
use Rattle.lay_point.specs.Rising.{IsRising}
use Rattle.lay_point.specs.Edges.{IsEdgeBefore}
use Rattle.lay_point.proofs.Members.{has}
use Rattle.lay_point.proofs.Rising.{IsStrictOrder, before_rest, rising_rest}
use Rattle.lay_point.proofs.EdgeOrder.{edges_are_strict}
use Rattle.snap_edge_laws.specs.Meeting.{MeetAtEnds}
use Rattle.snap_edge_laws.proofs.Level.{other_way_round}
use Rattle.snap_chains.specs.Clean.{IsFirstPair, TwoMeetAtEnds}
use Rattle.snap_chains.specs.Rounded.{AreClean}

-- an element of a rising list is before each later one
pub rising_apart : {A : Type 0} (Before : A → A → Type 0) → IsStrictOrder Before → (xs : List A) → IsRising Before xs
    → (i j : ℕ) (d : A) → i < j → j < length xs → Before (get_or xs i d) (get_or xs j d)
rising_apart Before laws [] h i j d less lt = absurd (omega arith)
rising_apart Before laws (x ∷ xs) h i zero d less lt = absurd (omega arith)
rising_apart Before laws (x ∷ xs) h zero (suc j) d less lt =
    before_rest Before laws x xs (get_or xs j d) h (has xs _ (Contains-get_or xs j d (omega arith)))
rising_apart Before laws (x ∷ xs) h (suc i) (suc j) d less lt =
    rising_apart Before laws xs (rising_rest Before x xs h) i j d (omega arith) (omega arith)

module _ (edges : List (Point × Point)) (i j : ℕ) (e f : Point × Point) (lt : i < length edges) (lt' : j < length edges)
    (at : e ≡ get_or edges i e) (at' : f ≡ get_or edges j f) where
  pub two_from : MeetAtEnds e f → TwoMeetAtEnds edges i j
  two_from h d =
      let p = at ∙ get_or_default edges i e d lt in
      let q = at' ∙ get_or_default edges j f d lt' in
      coe 0 1 (k. MeetAtEnds (p k) (q k)) h

  pub two_to : TwoMeetAtEnds edges i j → MeetAtEnds e f
  two_to h =
      let q = at' ∙ get_or_default edges j f e lt' in
      coe 1 0 (k. MeetAtEnds (at k) (q k)) (h e)

  -- edges of different numbers differ
  pub two_differ : IsRising IsEdgeBefore edges → i < j → e ≡ f → ⊥
  two_differ up less same =
      let q = at' ∙ get_or_default edges j f e lt' in
      let before = rising_apart IsEdgeBefore edges_are_strict edges up i j e less lt' in
      edges_are_strict.irreflexive e (coe 1 0 (k. IsEdgeBefore (at k) ((same ∙ q) k)) before)

-- all pairs
abbrev pub AllMeetAtEnds : List (Point × Point) → Type 0
AllMeetAtEnds edges = (k j : ℕ) → k < j → j < length edges → TwoMeetAtEnds edges k j

pub clean_by_pairs : (edges : List (Point × Point)) → AllMeetAtEnds edges → AreClean edges
clean_by_pairs edges h e f (i, lt, at) (j, lt', at') differ = ⊎_elim
    (λ (less : i < j). two_to edges i j e f lt lt' (sym at) (sym at') (h i j less lt'))
    (λ (ge : j ≤ i). ⊎_elim
    (λ (more : j < i). other_way_round e.0 e.1 f.0 f.1 (two_to edges j i f e lt' lt (sym at') (sym at) (h j i more lt)))
    (λ (le : i ≤ j).
    let one : i ≡ j = omega arith in
    absurd (differ (sym at ∙ get_or_default edges i e f lt ∙ ap (λ k. get_or edges k f) one ∙ at')))
    (cases_lt j i))
    (cases_lt i j)

-- one more edge that meets the later ones at ends only
pub one_more : (edges : List (Point × Point)) (first : ℕ) → ((k j : ℕ) → k < first → k < j → j < length edges → TwoMeetAtEnds edges k j)
    → ((l : ℕ) → first < l → l < length edges → TwoMeetAtEnds edges first l)
    → (k j : ℕ) → k < first + 1 → k < j → j < length edges → TwoMeetAtEnds edges k j
one_more edges first so_far here k j lt less inside = ⊎_elim
    (λ (before : k < first). so_far k j before less inside)
    (λ (ge : first ≤ k).
    let e : first ≡ k = omega arith in
    subst (λ i. TwoMeetAtEnds edges i j) e (here j (omega arith) inside))
    (cases_lt k first)

pub first_of_all : (edges : List (Point × Point)) (first second : ℕ) → first < second → second < length edges
    → ¬ (TwoMeetAtEnds edges first second) → ((l : ℕ) → first < l → l < second → TwoMeetAtEnds edges first l)
    → ((k j : ℕ) → k < first → k < j → j < length edges → TwoMeetAtEnds edges k j) → IsFirstPair edges first second
first_of_all edges first second less inside fails here so_far = record {
  ordered = less;
  inside = inside;
  fails = fails;
  earlier = λ k l kl lt order. ⊎_elim
      (λ (before : k < first). so_far k l before kl lt)
      (λ (tie : (k ≡ first) × (l < second)).
      subst (λ i. TwoMeetAtEnds edges i l) (sym tie.0) (here l (subst (λ i. i < l) tie.0 kl) tie.1)) order;
}
