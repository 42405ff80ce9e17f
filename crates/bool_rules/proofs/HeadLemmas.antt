-- The heads that are computed: joined boxes have one head, and those that have one are together wherever all joined ones are.
use Rattle.std.proofs.Common.{◌≡◌, ◌⊎◌, inl, inr, ℕ, zero, suc, ◌<◌, ◌≤◌, ◌==◌, Bool, true, false, ◌&&◌}
use Rattle.std.proofs.Common.{cond, List, [], ◌∷◌, length, get_or}
use Rattle.std.proofs.Common.{refl, sym, ap, ◌∙◌, ⊎_elim, arith}
use Rattle.std.proofs.lemmas.Bool.{and_parts, false≢true, or_cases, or_left, or_right}
use Rattle.std.proofs.lemmas.Bool.Decides.{Decides-eqb}
use Rattle.std.proofs.lemmas.List.{get_or-map, length-map}
use Rattle.face_ring_laws.specs.Heads.{AreFirst, IsFinest}
use Rattle.lay_point.specs.declared.rect.Rect.{Rect}
use Rattle.lay_point.specs.Rects.{is_up_to, touch}
use Rattle.lay_point.proofs.BoolLaws.{and_comm}
use Rattle.face_ring_laws.specs.Parts.{AreJoined}
use Rattle.bool_rules.specs.Dividing.{heads_of, heads_with, touches_head}

-- ---- tests
touch_turned : (b c : Rect) → touch b c ≡ touch c b
touch_turned b c = and_comm (is_up_to b.low c.high) (is_up_to c.low b.high)

-- ---- the boxes that one touches
-- the box touches the one of this number, which has this head
pub record TouchesAt (b : Rect) (head : ℕ) (bs : List Rect) (heads : List ℕ) (j : ℕ) : Type 0 where
  pub inside : j < length bs
  pub head_is : get_or heads j 0 ≡ head
  pub touching : (d : Rect) → touch b (get_or bs j d) ≡ true

some_touched : (b : Rect) (head : ℕ) (bs : List Rect) (heads : List ℕ) → touches_head b head bs heads ≡ true
    → (j : ℕ) × TouchesAt b head bs heads j
some_touched b head [] heads e = absurd cc
some_touched b head (c ∷ cs) [] e = absurd cc
some_touched b head (c ∷ cs) (h ∷ hs) e =
    ⊎_elim
    (λ (here : (h == head && touch b c) ≡ true). let both = and_parts (h == head) (touch b c) here in
    (zero, record { inside = omega arith; head_is = (Decides-eqb h head).0 both.0; touching = λ d. both.1 }))
    (λ (behind : touches_head b head cs hs ≡ true). let r = some_touched b head cs hs behind in
    (suc r.0, record { inside = omega (arith, r.1.inside); head_is = r.1.head_is; touching = r.1.touching }))
    (or_cases (h == head && touch b c) (touches_head b head cs hs) e)

touched : (b : Rect) (bs : List Rect) (heads : List ℕ) (j : ℕ) → j < length bs → j < length heads
    → ((d : Rect) → touch b (get_or bs j d) ≡ true) → touches_head b (get_or heads j 0) bs heads ≡ true
touched b [] heads j lb lh t = absurd (omega arith)
touched b (c ∷ cs) [] j lb lh t = absurd (omega arith)
touched b (c ∷ cs) (h ∷ hs) zero lb lh t =
    or_left (h == h && touch b c) (touches_head b h cs hs) (let same : (h == h) ≡ true = (Decides-eqb h h).1 refl in rw same (t b))
touched b (c ∷ cs) (h ∷ hs) (suc j) lb lh t =
    or_right (h == get_or hs j 0 && touch b c) (touches_head b (get_or hs j 0) cs hs) (touched b cs hs j (omega arith) (omega arith) t)

-- ---- one more box
module _ (b : Rect) (bs : List Rect) (heads : List ℕ) (h : IsFinest (AreJoined bs) (length bs) heads) where
  abbrev test : ℕ → Bool
  test head = touches_head b head bs heads

  abbrev moved : ℕ → ℕ
  moved head = cond (touches_head b head bs heads) 0 (suc head)

  abbrev head : ℕ → ℕ
  head k = get_or heads k 0

  abbrev head' : ℕ → ℕ
  head' k = get_or (heads_with b bs heads) k 0

  moved_cases : (n : ℕ) → ((test n ≡ true) × (moved n ≡ 0)) ⊎ ((test n ≡ false) × (moved n ≡ suc n))
  moved_cases n = by_test (touches_head b n bs heads) refl
    where
      by_test : (t : Bool) → touches_head b n bs heads ≡ t
          → ((t ≡ true) × (cond t 0 (suc n) ≡ 0)) ⊎ ((t ≡ false) × (cond t 0 (suc n) ≡ suc n))
      by_test true e = inl (refl, refl)
      by_test false e = inr (refl, refl)

  behind : (k : ℕ) → k < length bs → head' (suc k) ≡ moved (head k)
  behind k lt = get_or-map moved heads k 0 0 (omega (arith, h.each))

  first_behind : (k : ℕ) → k < length bs → (head' (suc k) ≤ suc k) × (head' (head' (suc k)) ≡ head' (suc k))
  first_behind k lt =
      let low = h.first k (omega (arith, h.each)) in
      ⊎_elim
      (λ (to_it : (test (head k) ≡ true) × (moved (head k) ≡ 0)).
      let here : head' (suc k) ≡ 0 = behind k lt ∙ to_it.1 in (omega (arith, here), ap head' here ∙ sym here))
      (λ (own : (test (head k) ≡ false) × (moved (head k) ≡ suc (head k))).
      let here : head' (suc k) ≡ suc (head k) = behind k lt ∙ own.1 in (
        omega (arith, here, low.0),
        ap head' here ∙ behind (head k) (omega (arith, low.0)) ∙ ap moved low.1 ∙ sym (behind k lt),
      ))
      (moved_cases (head k))

  firsts : AreFirst (heads_with b bs heads)
  firsts zero lt = (omega arith, refl)
  firsts (suc k) lt = first_behind k (let same = length-map heads moved in omega (arith, h.each))

  -- what the box touches has it for a head
  touched_head : (j : ℕ) → j < length bs → ((d : Rect) → touch b (get_or bs j d) ≡ true) → head' (suc j) ≡ 0
  touched_head j lt t =
      ⊎_elim (λ (to_it : (test (head j) ≡ true) × (moved (head j) ≡ 0)). behind j lt ∙ to_it.1)
      (λ (own : (test (head j) ≡ false) × (moved (head j) ≡ suc (head j))).
      absurd (false≢true (sym own.0 ∙ touched b bs heads j lt (omega (arith, h.each)) t)))
      (moved_cases (head j))

  joined_with : (i j : ℕ) → AreJoined (b ∷ bs) i j → head' i ≡ head' j
  joined_with zero zero g = refl
  joined_with zero (suc j) g = sym (touched_head j (omega (arith, g.1)) (λ d. g.2 d))
  joined_with (suc i) zero g = touched_head i (omega (arith, g.0)) (λ d. touch_turned b (get_or bs i d) ∙ g.2 d)
  joined_with (suc i) (suc j) g =
      let li : i < length bs = omega (arith, g.0) in
      let lj : j < length bs = omega (arith, g.1) in
      behind i li ∙ ap moved (h.joined i j (li, lj, g.2)) ∙ sym (behind j lj)

  module _ (other : ℕ → ℕ) (respects : (i j : ℕ) → AreJoined (b ∷ bs) i j → other i ≡ other j) where
    others_together : (i j : ℕ) → i < length bs → j < length bs → head i ≡ head j → other (suc i) ≡ other (suc j)
    others_together i j li lj e =
        h.finest (λ k. other (suc k)) (λ k l g. respects (suc k) (suc l) (omega (arith, g.0), omega (arith, g.1), g.2)) i j li lj e

    with_it : (j : ℕ) → j < length bs → test (head j) ≡ true → other zero ≡ other (suc j)
    with_it j lj e =
        let r = some_touched b (head j) bs heads e in
        respects zero (suc r.0) (omega arith, omega (arith, r.1.inside), r.1.touching)
        ∙ others_together r.0 j r.1.inside lj r.1.head_is

    together : (i j : ℕ) → i < length (b ∷ bs) → j < length (b ∷ bs) → head' i ≡ head' j → other i ≡ other j
    together zero zero li lj e = refl
    together zero (suc j) li lj e =
        let lj' : j < length bs = omega (arith, lj) in
        ⊎_elim (λ (to_it : (test (head j) ≡ true) × (moved (head j) ≡ 0)). with_it j lj' to_it.0)
        (λ (own : (test (head j) ≡ false) × (moved (head j) ≡ suc (head j))). absurd (omega (arith, e, behind j lj', own.1)))
        (moved_cases (head j))
    together (suc i) zero li lj e =
        let li' : i < length bs = omega (arith, li) in
        ⊎_elim (λ (to_it : (test (head i) ≡ true) × (moved (head i) ≡ 0)). sym (with_it i li' to_it.0))
        (λ (own : (test (head i) ≡ false) × (moved (head i) ≡ suc (head i))). absurd (omega (arith, e, behind i li', own.1)))
        (moved_cases (head i))
    together (suc i) (suc j) li lj e =
        let li' : i < length bs = omega (arith, li) in
        let lj' : j < length bs = omega (arith, lj) in
        ⊎_elim
        (λ (to_it : (test (head i) ≡ true) × (moved (head i) ≡ 0)). ⊎_elim
        (λ (so_is_j : (test (head j) ≡ true) × (moved (head j) ≡ 0)). sym (with_it i li' to_it.0) ∙ with_it j lj' so_is_j.0)
        (λ (own : (test (head j) ≡ false) × (moved (head j) ≡ suc (head j))).
        absurd (omega (arith, e, behind i li', to_it.1, behind j lj', own.1)))
        (moved_cases (head j)))
        (λ (own : (test (head i) ≡ false) × (moved (head i) ≡ suc (head i))). ⊎_elim
        (λ (to_it : (test (head j) ≡ true) × (moved (head j) ≡ 0)).
        absurd (omega (arith, e, behind i li', own.1, behind j lj', to_it.1)))
        (λ (so_is_j : (test (head j) ≡ false) × (moved (head j) ≡ suc (head j))).
        others_together i j li' lj' (omega (arith, e, behind i li', own.1, behind j lj', so_is_j.1)))
        (moved_cases (head j)))
        (moved_cases (head i))

  pub finest_with : IsFinest (AreJoined (b ∷ bs)) (length (b ∷ bs)) (heads_with b bs heads)
  finest_with = record {
    each = let same = length-map heads moved in omega (arith, h.each);
    first = firsts;
    joined = joined_with;
    finest = together;
  }

none_joined : IsFinest (AreJoined []) 0 []
none_joined = record {
  each = refl;
  first = λ k lt. absurd (omega arith);
  joined = λ i j g. absurd (omega (arith, g.0));
  finest = λ other respects i j li lj e. absurd (omega arith);
}

pub heads_are_finest : (boxes : List Rect) → IsFinest (AreJoined boxes) (length boxes) (heads_of boxes)
heads_are_finest [] = none_joined
heads_are_finest (b ∷ bs) = finest_with b bs (heads_of bs) (heads_are_finest bs)
