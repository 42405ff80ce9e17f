-- The ends of edges in order: at a point they are neighbours, and those that are left come behind the ones that are used.
use Rattle.std.proofs.Common.{◌≡◌, ◌≢◌, inl, inr, ℕ, zero, suc, ◌+◌, ◌<◌, ◌≤◌, Bool, true, false, not, ◌||◌, List, [], ◌∷◌, ◌++◌}
use Rattle.std.proofs.Common.{length, get_or, take, set, None, Some, refl, sym, ap, subst, ◌∙◌, ⊎_elim, arith, append_assoc}
use Rattle.std.specs.declared.cmp.Ordering.{Ordering}
use Rattle.std.specs.declared.cmp.Ordering.TheVariants.{Less, Equal, Greater}
use Rattle.std.specs.Cmp.{IsTotalOrder}
use Rattle.std.specs.List.Sorted.{IsPartitionedBy, IsPermutation, IsSorted, IsSortedBy}
use Rattle.std.specs.Prelude.{max, replicate}
use Rattle.std.specs.Vec.{with_item}
use Rattle.std.specs.Ordering.{is_eq, is_lt, nat_cmp, ordering_index, ordering_reverse, ordering_then}
use Rattle.std.proofs.lemmas.Bool.{cases_lt, false_from_ne_true, false≢true, or_cases, or_right}
use Rattle.std.proofs.lemmas.Cmp.{by_ranked, int_cmp_total, nat_cmp_total, on_total, ranked, then_total, tied_itself}
use Rattle.std.proofs.lemmas.List.{get_or_default, length-take-le, take_more}
use Rattle.std.proofs.Math.ListN.{length-set}
use Rattle.std.proofs.lemmas.List.Sorted.{ranks_by, searchable_from_sorted, sorted_far, Contains-permutation, IsPermutation-sym}
use Rattle.lay_point.specs.declared.point.Point.{Point}
use Rattle.lay_point.specs.contracts.point.PointOrd.TheImpl.Laws.{matches_eq-law as point_ties}
use Rattle.lay_point.specs.Edges.{touches}
use Rattle.lay_point.specs.Points.{point_eq}
use Rattle.lay_point.proofs.EdgeOrder.{points_decide}
use Rattle.lay_point.proofs.Members.{Has, has, contains}
use Rattle.lay_point.proofs.RingLemmas.{point_eq-true}
use Rattle.face_rings.specs.declared.incidence.End.{End}
use Rattle.face_rings.specs.declared.incidence.Incidence.{Incidence}
use Rattle.face_rings.specs.Incidence.{AreEndsOf, IsFirstAt, IsIncidence, IsUsedAt, KeepsMarks, end_cmp, point_cmp, left_of}
use Rattle.face_ring_laws.proofs.PartLemmas.{get_or-set}
use Rattle.face_ring_laws.specs.Linking.{Ends, keeping_first, take_at}

-- ---- what `!=` of points answers
pub not_other : (p q : Point) → false ≡ not (point_eq p q) → p ≡ q
not_other p q h = by_test (point_eq p q) refl h
  where
    by_test : (b : Bool) → point_eq p q ≡ b → false ≡ not b → p ≡ q
    by_test true e g = point_eq-true p q e
    by_test false e g = absurd cc

pub other : (p q : Point) → true ≡ not (point_eq p q) → p ≢ q
other p q h same =
    let t : point_eq p q ≡ true = subst (λ z. point_eq p z ≡ true) same (points_decide.itself p) in
    let f : true ≡ false = h ∙ ap not t in absurd cc

-- ---- the order
pub point_cmp_total : IsTotalOrder point_cmp
point_cmp_total = then_total (on_total (λ (p : Point). p.x) int_cmp_total) (on_total (λ (p : Point). p.y) int_cmp_total)

pub end_cmp_total : IsTotalOrder end_cmp
end_cmp_total = then_total (on_total (λ (e : End). e.at) point_cmp_total) (on_total (λ (e : End). e.edge) nat_cmp_total)

pub first_not_less : (o p : Ordering) → is_lt (ordering_then o p) ≡ false → is_lt o ≡ false
first_not_less Less p h = h
first_not_less Equal p h = refl
first_not_less Greater p h = refl

less_index : (o : Ordering) → is_lt o ≡ true → ordering_index o ≡ 0
less_index Less h = refl
less_index Equal h = absurd cc
less_index Greater h = absurd cc

index_less : (o : Ordering) → ordering_index o ≤ 0 → is_lt o ≡ true
index_less Less h = refl
index_less Equal h = absurd (omega arith)
index_less Greater h = absurd (omega arith)

pub before_point_first : (at : Point) (ends : List End) → IsSorted end_cmp ends → IsPartitionedBy (λ e. is_lt (point_cmp e.at at)) ends
before_point_first at ends sorted i j d le lt late =
    let by_point : IsSortedBy (λ a b. is_lt (point_cmp a.at b.at)) ends =
    λ k e low high. first_not_less (point_cmp (get_or ends (k + 1) e).at (get_or ends k e).at) _ (sorted k e low high) in
    let rise = searchable_from_sorted point_cmp_total (λ (e : End). e.at) ends at by_point in
    let here = rise i j d le lt in
    let zero_there = less_index (point_cmp (get_or ends j d).at at) late in
    index_less (point_cmp (get_or ends i d).at at) (omega arith)

-- ---- the ends of edges, numbered from a number on
abbrev pub ends_from : ℕ → List Ends → List End
ends_from n [] = []
ends_from n (e ∷ es) = (record { at = e.0; edge = n }) ∷ (record { at = e.1; edge = n }) ∷ ends_from (suc n) es

pub ends_from-append : (n : ℕ) (xs ys : List Ends) → ends_from n (xs ++ ys) ≡ ends_from n xs ++ ends_from (n + length xs) ys
ends_from-append n [] ys = let e : n ≡ n + 0 = omega arith in ap (λ m. ends_from m ys) e
ends_from-append n (x ∷ xs) ys =
    let e : suc n + length xs ≡ n + suc (length xs) = omega arith in
    ap (λ l. (record { at = x.0; edge = n }) ∷ (record { at = x.1; edge = n }) ∷ l)
    (ends_from-append (suc n) xs ys ∙ ap (λ m. ends_from (suc n) xs ++ ends_from m ys) e)

-- an end among them is the end of the edge of its number
abbrev IsFrom : ℕ → List Ends → End → Type 0
IsFrom n es end = (i : ℕ) × (end.edge ≡ n + i) × (i < length es) × ((d : Ends) → touches end.at (get_or es i d) ≡ true)

end_has : (n : ℕ) (es : List Ends) (end : End) → Has (ends_from n es) end → IsFrom n es end
end_has n [] end m = absurd m
end_has n (e ∷ es) end (inl same) = (
  0,
  sym (ap (λ (x : End). x.edge) same) ∙ omega arith,
  omega arith,
  (λ d. subst (λ v. touches v e ≡ true) (ap (λ (x : End). x.at) same) (ap (λ b. b || point_eq e.1 e.0) (points_decide.itself e.0))),
)
end_has n (e ∷ es) end (inr (inl same)) = (
  0,
  sym (ap (λ (x : End). x.edge) same) ∙ omega arith,
  omega arith,
  (λ d. subst (λ v. touches v e ≡ true) (ap (λ (x : End). x.at) same)
      (or_right (point_eq e.0 e.1) (point_eq e.1 e.1) (points_decide.itself e.1))),
)
end_has n (e ∷ es) end (inr (inr m)) =
    let further = end_has (suc n) es end m in
    (suc further.0, further.1 ∙ omega arith, omega (arith, further.2), further.3)

has_end : (n : ℕ) (es : List Ends) (at : Point) (i : ℕ) (d : Ends) → i < length es → touches at (get_or es i d) ≡ true
    → Has (ends_from n es) (record { at = at; edge = n + i })
has_end n [] at i d less h = absurd (omega arith)
has_end n (e ∷ es) at zero d less h =
    let number : n ≡ n + 0 = omega arith in
    ⊎_elim
    (λ (low : point_eq e.0 at ≡ true). inl (λ k. record { at = point_eq-true e.0 at low k; edge = number k }))
    (λ (high : point_eq e.1 at ≡ true). inr (inl (λ k. record { at = point_eq-true e.1 at high k; edge = number k })))
    (or_cases (point_eq e.0 at) (point_eq e.1 at) h)
has_end n (e ∷ es) at (suc i) d less h =
    let number : suc n + i ≡ n + suc i = omega arith in
    inr (inr (subst (λ m. Has (ends_from (suc n) es) (record { at = at; edge = m })) number
    (has_end (suc n) es at i d (omega arith) h)))

pub are_ends : (edges : List Ends) (ends sorted : List End) → ends ≡ ends_from 0 edges → IsPermutation ends sorted → IsSorted end_cmp sorted
    → AreEndsOf edges sorted
are_ends edges ends sorted e moved order = record {
  sorted = order;
  exact = λ end. (
    (λ c.
        let m = end_has 0 edges end (subst (λ l. Has l end) e (has ends end
        (Contains-permutation sorted ends end (IsPermutation-sym ends sorted moved) c))) in
        let number : m.0 ≡ end.edge = omega (arith, m.1) in
        (subst (λ k. k < length edges) number m.2, (λ d. subst (λ k. touches end.at (get_or edges k d) ≡ true) number (m.3 d)))),
    (λ h.
        let number : 0 + end.edge ≡ end.edge = omega arith in
        Contains-permutation ends sorted end moved (contains ends end (subst (λ l. Has l end) (sym e)
        (subst (λ k. Has (ends_from 0 edges) (record { at = end.at; edge = k })) number
        (has_end 0 edges end.at end.edge (end.at, end.at) h.0 (h.1 (end.at, end.at))))))),
  );
}

-- ---- the first of the edges left
pub take_unused : (at : Point) (es : List Ends) (marks : List Bool) (i : ℕ) (d : Ends) → i < length es → length marks ≡ length es
    → get_or marks i true ≡ false → touches at (get_or es i d) ≡ true
    → ((j : ℕ) → j < i → get_or marks j true ≡ false → touches at (get_or es j d) ≡ false)
    → take_at at (left_of es marks) ≡ Some (get_or es i d, left_of es (set marks i true))
take_unused at [] marks i d less same left here before = absurd (omega arith)
take_unused at (e ∷ es) [] i d less same left here before = absurd (omega arith)
take_unused at (e ∷ es) (m ∷ marks) zero d less same left here before = rw (left, here) refl
take_unused at (e ∷ es) (true ∷ marks) (suc i) d less same left here before =
    take_unused at es marks i d (omega arith) (omega arith) left here (λ j lt. before (suc j) (omega arith))
take_unused at (e ∷ es) (false ∷ marks) (suc i) d less same left here before =
    let off : touches at e ≡ false = before zero (omega arith) refl in
    let further = take_unused at es marks i d (omega arith) (omega arith) left here (λ j lt. before (suc j) (omega arith)) in
    rw off (ap (keeping_first e) further)

pub none_unused : (at : Point) (es : List Ends) (marks : List Bool) (d : Ends)
    → ((j : ℕ) → j < length es → get_or marks j true ≡ false → touches at (get_or es j d) ≡ false)
    → take_at at (left_of es marks) ≡ None
none_unused at [] marks d before = refl
none_unused at (e ∷ es) [] d before = refl
none_unused at (e ∷ es) (true ∷ marks) d before = none_unused at es marks d (λ j lt. before (suc j) (omega arith))
none_unused at (e ∷ es) (false ∷ marks) d before =
    let off : touches at e ≡ false = before zero (omega arith) refl in
    let further = none_unused at es marks d (λ j lt. before (suc j) (omega arith)) in
    rw off (ap (keeping_first e) further)

not_less_itself : (at : Point) → is_lt (point_cmp at at) ≡ true → ⊥
not_less_itself at h = let tied = tied_itself point_cmp_total at in false≢true (sym (ap is_lt tied) ∙ h)

reversed_not_less : (o : Ordering) → is_lt o ≡ false → is_lt (ordering_reverse o) ≡ false → o ≡ Equal
reversed_not_less Less h g = absurd cc
reversed_not_less Equal h g = refl
reversed_not_less Greater h g = absurd cc

pub neither_less : (p q : Point) → is_lt (point_cmp p q) ≡ false → is_lt (point_cmp q p) ≡ false → p ≡ q
neither_less p q h g =
    let equal = reversed_not_less (point_cmp p q) h (sym (ap is_lt (point_cmp_total.antisymm q p)) ∙ g) in
    point_eq-true p q (point_ties p q ∙ ap is_eq equal)

le_by_cmp : (m n : ℕ) (o : Ordering) → o ≡ nat_cmp m n → is_lt o ≡ false → n ≤ m
le_by_cmp m n o e h = by_ranked (m < n) (m ≡ n) (n < m) o (ranked m n o e)
    (λ same less. absurd (false≢true (sym h ∙ ap is_lt same))) (λ same equal. omega arith) (λ same more. omega arith)

-- a search at a point: its first end, and the index reached
pub record IsSearch (edges : List Ends) (ends : List End) (used : List Bool) (at : Point) (first index : ℕ) : Type 0 where
  pub whole : AreEndsOf edges ends
  pub split : IsFirstAt ends at first
  pub ordered : first ≤ index
  pub passed : (k : ℕ) → first ≤ k → k < index → IsUsedAt used ends k

-- an end at the point of an edge that is left comes at the index or behind it
open_end : (edges : List Ends) (ends : List End) (used : List Bool) (at : Point) (first index : ℕ)
    → IsSearch edges ends used at first index → (j : ℕ) (d : Ends) → j < length edges → touches at (get_or edges j d) ≡ true
    → get_or used j true ≡ false
    → (k : ℕ) × (index ≤ k) × (k < length ends) × ((e : End) → get_or ends k e ≡ record { at = at; edge = j })
open_end edges ends used at first index s j d less on left =
    let x : End = record { at = at; edge = j } in
    let c = (s.whole.exact x).1 (less, (λ e. subst (λ z. touches at z ≡ true) (get_or_default edges j d e less) on)) in
    let not_before : first ≤ c.0 = ⊎_elim
    (λ (before : c.0 < first). absurd (not_less_itself at
    (subst (λ z. is_lt (point_cmp z.at at) ≡ true) c.2 (s.split.before c.0 x before))))
    (λ (le : first ≤ c.0). le) (cases_lt c.0 first) in
    let reached : index ≤ c.0 = ⊎_elim
    (λ (before : c.0 < index). absurd (false≢true (sym left ∙ subst (λ z. get_or used z.edge true ≡ true) c.2
    (s.passed c.0 not_before before x))))
    (λ (le : index ≤ c.0). le) (cases_lt c.0 index) in
    (c.0, reached, c.1, (λ e. get_or_default ends c.0 e x c.1 ∙ c.2))

pub no_later_below : (ends : List End) → IsSorted end_cmp ends → (i j : ℕ) (d : End) → i ≤ j → j < length ends
    → is_lt (end_cmp (get_or ends j d) (get_or ends i d)) ≡ false
no_later_below ends h i j d le lt = sorted_far (λ x y. is_lt (end_cmp x y)) (ranks_by end_cmp_total (λ x. x)) ends h i j d le lt

pub search_found : (edges : List Ends) (ends : List End) (used : List Bool) (at : Point) (first index : ℕ)
    → IsSearch edges ends used at first index → length used ≡ length edges → (end : End) (d : Ends) → index < length ends
    → end ≡ get_or ends index end → end.at ≡ at → get_or used end.edge true ≡ false
    → take_at at (left_of edges used) ≡ Some (get_or edges end.edge d, left_of edges (set used end.edge true))
search_found edges ends used at first index s marks end d less is_end here left =
    let own = (s.whole.exact end).0 (index, less, sym is_end) in
    take_unused at edges used end.edge d own.0 marks left (subst (λ v. touches v (get_or edges end.edge d) ≡ true) here (own.1 d))
    (λ j lt j_left. false_from_ne_true (touches at (get_or edges j d)) (λ on.
    let later = open_end edges ends used at first index s j d (omega (arith, own.0)) on j_left in
    let order : is_lt (end_cmp (record { at = at; edge = j }) end) ≡ false =
    subst (λ z. is_lt (end_cmp z end) ≡ false) (later.3 end)
    (subst (λ z. is_lt (end_cmp (get_or ends later.0 end) z) ≡ false) (sym is_end)
    (no_later_below ends s.whole.sorted index later.0 end later.1 later.2)) in
    let tied : point_cmp at end.at ≡ Equal = subst (λ v. point_cmp at v ≡ Equal) (sym here) (tied_itself point_cmp_total at) in
    let by_number : is_lt (nat_cmp j end.edge) ≡ false =
    subst (λ o. is_lt (ordering_then o (nat_cmp j end.edge)) ≡ false) tied order in
    let le : end.edge ≤ j = le_by_cmp j end.edge (nat_cmp j end.edge) refl by_number in
    absurd (omega arith)))

pub search_over : (edges : List Ends) (ends : List End) (used : List Bool) (at : Point) (first index : ℕ)
    → IsSearch edges ends used at first index → length ends ≤ index → take_at at (left_of edges used) ≡ None
search_over edges ends used at first index s over =
    none_unused at edges used (at, at) (λ j lt j_left. false_from_ne_true (touches at (get_or edges j (at, at))) (λ on.
    let later = open_end edges ends used at first index s j (at, at) lt on j_left in
    absurd (omega (arith, later.1, later.2))))

pub search_passed : (edges : List Ends) (ends : List End) (used : List Bool) (at : Point) (first index : ℕ)
    → IsSearch edges ends used at first index → (end : End) → index < length ends → end ≡ get_or ends index end → end.at ≢ at
    → take_at at (left_of edges used) ≡ None
search_passed edges ends used at first index s end less is_end other =
    none_unused at edges used (at, at) (λ j lt j_left. false_from_ne_true (touches at (get_or edges j (at, at))) (λ on.
    let later = open_end edges ends used at first index s j (at, at) lt on j_left in
    let order : is_lt (end_cmp (record { at = at; edge = j }) end) ≡ false =
    subst (λ z. is_lt (end_cmp z end) ≡ false) (later.3 end)
    (subst (λ z. is_lt (end_cmp (get_or ends later.0 end) z) ≡ false) (sym is_end)
    (no_later_below ends s.whole.sorted index later.0 end later.1 later.2)) in
    let not_above = first_not_less (point_cmp at end.at) (nat_cmp j end.edge) order in
    let not_below : is_lt (point_cmp end.at at) ≡ false =
    subst (λ z. is_lt (point_cmp z.at at) ≡ false) (sym is_end) (s.split.behind index end s.ordered less) in
    other (neither_less end.at at not_below not_above)))

-- ---- cursors
-- a mark more leaves the marks
pub still_used : (used : List Bool) (ends : List End) (i index : ℕ) → i < length used → IsUsedAt used ends index
    → IsUsedAt (set used i true) ends index
still_used used ends i index less h d = ⊎_elim
    (λ (same : (i ≡ (get_or ends index d).edge) × (get_or (set used i true) (get_or ends index d).edge true ≡ true)). same.1)
    (λ (apart : (i ≢ (get_or ends index d).edge)
    × (get_or (set used i true) (get_or ends index d).edge true ≡ get_or used (get_or ends index d).edge true)). apart.1 ∙ h d)
    (get_or-set used i (get_or ends index d).edge true true less)

abbrev pub ArePassed : List Bool → List End → List ℕ → Type 0
ArePassed used ends cursors = (first index : ℕ) → first < length cursors → first ≤ index → index < get_or cursors first 0
    → IsUsedAt used ends index

pub cursor_moved : (used : List Bool) (ends : List End) (cursors : List ℕ) (first reached : ℕ) → first < length cursors
    → ArePassed used ends cursors → ((k : ℕ) → first ≤ k → k < reached → IsUsedAt used ends k)
    → ArePassed used ends (set cursors first reached)
cursor_moved used ends cursors first reached less was more f index inside le lt = ⊎_elim
    (λ (same : (first ≡ f) × (get_or (set cursors first reached) f 0 ≡ reached)).
    more index (omega (arith, same.0)) (omega (arith, same.1)))
    (λ (apart : (first ≢ f) × (get_or (set cursors first reached) f 0 ≡ get_or cursors f 0)).
    was f index (omega (arith, length-set {A = ℕ})) le (omega (arith, apart.1)))
    (get_or-set cursors first f reached 0 less)

-- ---- a step of a search
pub searched : (edges : List Ends) (i : Incidence) → IsIncidence edges i → (at : Point) (first cursor from index : ℕ)
    → first < length i.cursors.items
    → IsFirstAt i.ends.items at first
    → cursor ≡ get_or i.cursors.items first cursor → from ≡ max cursor first → from ≤ index
    → ((k : ℕ) → from ≤ k → k < index → IsUsedAt i.used.items i.ends.items k)
    → IsSearch edges i.ends.items i.used.items at first index
searched edges i h at first cursor from index less split is_cursor is_from reached more = record {
  whole = h.ends;
  split = split;
  ordered = omega arith;
  passed = λ k le lt. ⊎_elim
      (λ (before : k < cursor). h.passed first k less le (omega (arith, is_cursor ∙ get_or_default i.cursors.items first cursor 0 less)))
      (λ (ge : cursor ≤ k). more k (omega arith) lt)
      (cases_lt k cursor);
}

pub search_kept : (edges : List Ends) (i : Incidence) → IsIncidence edges i → (at : Point) (first index : ℕ)
    → first < length i.cursors.items → IsSearch edges i.ends.items i.used.items at first index
    → IsIncidence edges (record { ends = i.ends; firsts = i.firsts; cursors = with_item i.cursors first index; used = i.used })
search_kept edges i h at first index less s = record {
  ends = h.ends;
  firsts = h.firsts;
  marks = h.marks;
  cursors = length-set i.cursors.items first index ∙ h.cursors;
  passed = cursor_moved i.used.items i.ends.items i.cursors.items first index less h.passed s.passed;
}

pub search_marked : (edges : List Ends) (i : Incidence) → IsIncidence edges i → (at : Point) (first index e : ℕ)
    → first < length i.cursors.items → e < length i.used.items → IsSearch edges i.ends.items i.used.items at first index
    → IsIncidence edges (record {
      ends = i.ends;
      firsts = i.firsts;
      cursors = with_item i.cursors first index;
      used = with_item i.used e
          true;
    })
search_marked edges i h at first index e less inside s = record {
  ends = h.ends;
  firsts = h.firsts;
  marks = length-set i.used.items e true ∙ h.marks;
  cursors = length-set i.cursors.items first index ∙ h.cursors;
  passed = cursor_moved (set i.used.items e true) i.ends.items i.cursors.items first index less
      (λ f k lt le under. still_used i.used.items i.ends.items e k inside (h.passed f k lt le under))
      (λ k le lt. still_used i.used.items i.ends.items e k inside (s.passed k le lt));
}

pub marks_kept : (used : List Bool) (i : ℕ) → i < length used → KeepsMarks used (set used i true)
marks_kept used i less k h = ⊎_elim
    (λ (same : (i ≡ k) × (get_or (set used i true) k true ≡ true)). same.1)
    (λ (apart : (i ≢ k) × (get_or (set used i true) k true ≡ get_or used k true)). apart.1 ∙ h)
    (get_or-set used i k true true less)

-- ---- before the first mark
pub all_unused : (edges : List Ends) → left_of edges (replicate (length edges) false) ≡ edges
all_unused [] = refl
all_unused (e ∷ es) = ap (λ l. e ∷ l) (all_unused es)

-- ---- the next edge among the ends
pub ends_more : (edges : List Ends) (n : ℕ) (e : Ends) (low high : Point) (some more all : List End) → n < length edges
    → e ≡ get_or edges n e → low ≡ e.0 → high ≡ e.1 → some ≡ ends_from 0 (take n edges)
    → more ≡ some ++ (record { at = low; edge = n }) ∷ [] → all ≡ more ++ (record { at = high; edge = n }) ∷ []
    → all ≡ ends_from 0 (take (n + 1) edges)
ends_more edges n e low high some more all less is_e is_low is_high so_far first second =
    let count : 0 + length (take n edges) ≡ n = omega (arith, length-take-le n edges (omega arith)) in
    let one_more : take (n + 1) edges ≡ take n edges ++ e ∷ [] = take_more edges n e less ∙ ap (λ z. take n edges ++ z ∷ []) (sym is_e) in
    second ∙ (λ k. first k ++ (record { at = high; edge = n }) ∷ [])
    ∙ append_assoc some ((record { at = low; edge = n }) ∷ []) ((record { at = high; edge = n }) ∷ [])
    ∙ (λ k. so_far k ++ (record { at = is_low k; edge = sym count k }) ∷ (record { at = is_high k; edge = sym count k }) ∷ [])
    ∙ sym (ends_from-append 0 (take n edges) (e ∷ []))
    ∙ ap (ends_from 0) (sym one_more)
