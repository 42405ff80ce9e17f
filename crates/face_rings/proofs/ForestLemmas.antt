-- Where parents lead, and what setting one does to it.
use Rattle.std.proofs.Common.{◌≡◌, ◌≢◌, ◌⊎◌, inl, inr, ℕ, zero, suc, ◌+◌, ◌<◌, ◌≤◌, List, length, get_or, set}
use Rattle.std.proofs.Common.{◌==◌, true, false}
use Rattle.std.proofs.Common.{refl, sym, ap, subst, ◌∙◌, ⊎_elim, arith}
use Rattle.std.specs.Prelude.{max, min}
use Rattle.std.proofs.lemmas.Bool.{cases_eq, cases_lt, ne_eqb}
use Rattle.std.proofs.lemmas.Bool.Decides.{Decides-eqb}
use Rattle.face_ring_laws.proofs.PartLemmas.{get_or-set}
use Rattle.face_rings.specs.Forest.{IsForest, root_of, up, united}

-- a number that is its own parent stays
up_stays : (ps : List ℕ) (f k : ℕ) → get_or ps k 0 ≡ k → up ps f k ≡ k
up_stays ps zero k h = refl
up_stays ps (suc f) k h = ap (up ps f) h ∙ up_stays ps f k h

up_next : (ps : List ℕ) (f k : ℕ) → up ps (suc f) k ≡ get_or ps (up ps f k) 0
up_next ps zero k = refl
up_next ps (suc f) k = up_next ps f (get_or ps k 0)

up_le : (ps : List ℕ) → IsForest ps → (f k : ℕ) → k < length ps → up ps f k ≤ k
up_le ps h zero k lt = omega arith
up_le ps h (suc f) k lt =
    let le = h k lt in
    let further = up_le ps h f (get_or ps k 0) (omega (arith, le)) in omega (arith, le, further)

-- so many steps lead to one that is its own parent
up_ends : (ps : List ℕ) → IsForest ps → (f k : ℕ) → k < length ps → k ≤ f → get_or ps (up ps f k) 0 ≡ up ps f k
up_ends ps h zero k lt le = let first = h k lt in omega (arith, first)
up_ends ps h (suc f) k lt le =
    let q : ℕ = get_or ps k 0 in
    let below : q ≤ k = h k lt in
    ⊎_elim (λ (more : f < q).
    let same : q ≡ k = omega (arith, below) in
    let own : get_or ps q 0 ≡ q = ap (λ z. get_or ps z 0) same in
    let stays = up_stays ps f q own in
    ap (λ z. get_or ps z 0) stays ∙ own ∙ sym stays)
    (λ (fits : q ≤ f). up_ends ps h f q (omega (arith, below)) fits) (cases_lt f q)

up_more : (ps : List ℕ) → IsForest ps → (f k : ℕ) → k < length ps → k ≤ f → up ps f k ≡ up ps k k
up_more ps h zero k lt le = let none : zero ≡ k = omega arith in ap (λ z. up ps z k) none
up_more ps h (suc f) k lt le = ⊎_elim
    (λ (more : f < k). let same : suc f ≡ k = omega arith in ap (λ z. up ps z k) same)
    (λ (fits : k ≤ f). up_next ps f k ∙ up_ends ps h f k lt fits ∙ up_more ps h f k lt fits) (cases_lt f k)

pub root_le : (ps : List ℕ) → IsForest ps → (k : ℕ) → k < length ps → root_of ps k ≤ k
unfolding root_of
root_le ps h k lt = up_le ps h k k lt

pub root_ends : (ps : List ℕ) → IsForest ps → (k : ℕ) → k < length ps → get_or ps (root_of ps k) 0 ≡ root_of ps k
unfolding root_of
root_ends ps h k lt = up_ends ps h k k lt (omega arith)

pub root_of_own : (ps : List ℕ) (k : ℕ) → get_or ps k 0 ≡ k → root_of ps k ≡ k
unfolding root_of
root_of_own ps k own = up_stays ps k k own

pub root_of_parent : (ps : List ℕ) → IsForest ps → (k : ℕ) → k < length ps → root_of ps (get_or ps k 0) ≡ root_of ps k
unfolding root_of
root_of_parent ps h zero lt = let first = h zero lt in let same : get_or ps zero 0 ≡ zero = omega (arith, first) in ap (λ z. up ps z z) same
root_of_parent ps h (suc f) lt =
    let q : ℕ = get_or ps (suc f) 0 in
    let below : q ≤ suc f = h (suc f) lt in
    ⊎_elim (λ (more : f < q). let same : q ≡ suc f = omega (arith, below) in ap (λ z. up ps z z) same)
    (λ (fits : q ≤ f). sym (up_more ps h f q (omega (arith, below)) fits)) (cases_lt f q)

-- what goes with each parent, and is itself where a number is its own parent, is the root
pub root_by : (ps : List ℕ) → IsForest ps → (g : ℕ → ℕ) → ((k : ℕ) → k < length ps → g (get_or ps k 0) ≡ g k)
    → ((k : ℕ) → k < length ps → get_or ps k 0 ≡ k → g k ≡ k) → (k : ℕ) → k < length ps → root_of ps k ≡ g k
unfolding root_of
root_by ps h g step own k lt =
    let le = up_le ps h k k lt in
    sym (own (up ps k k) (omega (arith, le)) (up_ends ps h k k lt (omega arith))) ∙ along k k lt
  where
    along : (f k : ℕ) → k < length ps → g (up ps f k) ≡ g k
    along zero k lt = refl
    along (suc f) k lt = let le = h k lt in along f (get_or ps k 0) (omega (arith, le)) ∙ step k lt

-- ---- a number gets its parent's parent
module _ (ps ps' : List ℕ) (at next : ℕ) (h : IsForest ps) (lt : at < length ps) (is_next : next ≡ get_or ps (get_or ps at 0) 0)
    (same : length ps' ≡ length ps) (is_set : ps' ≡ set ps at next) where
  pub parent_inside : get_or ps at 0 < length ps
  parent_inside = let le = h at lt in omega (arith, le)

  pub next_le : next ≤ get_or ps at 0
  next_le = let le = h (get_or ps at 0) parent_inside in omega (arith, le, is_next)

  new_parent : (k : ℕ) → ((at ≡ k) × (get_or ps' k 0 ≡ next)) ⊎ ((at ≢ k) × (get_or ps' k 0 ≡ get_or ps k 0))
  new_parent k = subst (λ z. ((at ≡ k) × (get_or z k 0 ≡ next)) ⊎ ((at ≢ k) × (get_or z k 0 ≡ get_or ps k 0))) (sym is_set)
      (get_or-set ps at k next 0 lt)

  pub halved_forest : IsForest ps'
  halved_forest k less = ⊎_elim
      (λ (here : (at ≡ k) × (get_or ps' k 0 ≡ next)). let le = h at lt in omega (arith, here.0, here.1, next_le, le))
      (λ (other : (at ≢ k) × (get_or ps' k 0 ≡ get_or ps k 0)).
      let le = h k (omega (arith, same)) in omega (arith, other.1, le)) (new_parent k)

  pub halved_roots : (k : ℕ) → k < length ps → root_of ps' k ≡ root_of ps k
  halved_roots k less = root_by ps' halved_forest (root_of ps) step own k (omega (arith, same))
    where
      step : (k : ℕ) → k < length ps' → root_of ps (get_or ps' k 0) ≡ root_of ps k
      step k less = ⊎_elim
          (λ (here : (at ≡ k) × (get_or ps' k 0 ≡ next)).
          ap (root_of ps) (here.1 ∙ is_next) ∙ root_of_parent ps h (get_or ps at 0) parent_inside
          ∙ root_of_parent ps h at lt ∙ ap (root_of ps) here.0)
          (λ (other : (at ≢ k) × (get_or ps' k 0 ≡ get_or ps k 0)).
          ap (root_of ps) other.1 ∙ root_of_parent ps h k (omega (arith, same))) (new_parent k)

      own : (k : ℕ) → k < length ps' → get_or ps' k 0 ≡ k → root_of ps k ≡ k
      own k less e = ⊎_elim
          (λ (here : (at ≡ k) × (get_or ps' k 0 ≡ next)).
          let le = h at lt in
          let parent : get_or ps at 0 ≡ at = omega (arith, here.0, here.1, next_le, le, e) in
          root_of_own ps k (subst (λ z. get_or ps z 0 ≡ z) here.0 parent))
          (λ (other : (at ≢ k) × (get_or ps' k 0 ≡ get_or ps k 0)). root_of_own ps k (sym other.1 ∙ e)) (new_parent k)

-- ---- two trees become one
pub united_cases : (a b head : ℕ) → ((head ≡ max a b) × (united a b head ≡ min a b)) ⊎ ((head ≢ max a b) × (united a b head ≡ head))
united_cases a b head = ⊎_elim
    (λ (same : head ≡ max a b). let t : (head == max a b) ≡ true = (Decides-eqb head (max a b)).1 same in inl (same, rw t refl))
    (λ (apart : head ≢ max a b).
    let f : (head == max a b) ≡ false = ne_eqb head (max a b) apart in inr (apart, rw f refl))
    (cases_eq head (max a b))

min_or : (a b : ℕ) → (min a b ≡ a) ⊎ (min a b ≡ b)
min_or a b = ⊎_elim (λ (less : a < b). inl (omega arith)) (λ (le : b ≤ a). inr (omega arith)) (cases_lt a b)

max_or : (a b : ℕ) → (max a b ≡ a) ⊎ (max a b ≡ b)
max_or a b = ⊎_elim (λ (less : a < b). inr (omega arith)) (λ (le : b ≤ a). inl (omega arith)) (cases_lt a b)

module _ (ps ps' : List ℕ) (a b : ℕ) (h : IsForest ps) (la : a < length ps) (lb : b < length ps) (own_a : get_or ps a 0 ≡ a)
    (own_b : get_or ps b 0 ≡ b) (same : length ps' ≡ length ps) (is_set : ps' ≡ set ps (max a b) (min a b)) where
  abbrev low : ℕ
  low = min a b

  abbrev high : ℕ
  high = max a b

  own_low : get_or ps low 0 ≡ low
  own_low = ⊎_elim (λ (e : low ≡ a). subst (λ z. get_or ps z 0 ≡ z) (sym e) own_a)
      (λ (e : low ≡ b). subst (λ z. get_or ps z 0 ≡ z) (sym e) own_b) (min_or a b)

  own_high : get_or ps high 0 ≡ high
  own_high = ⊎_elim (λ (e : high ≡ a). subst (λ z. get_or ps z 0 ≡ z) (sym e) own_a)
      (λ (e : high ≡ b). subst (λ z. get_or ps z 0 ≡ z) (sym e) own_b) (max_or a b)

  united_low : united a b low ≡ low
  united_low = ⊎_elim (λ (e : (low ≡ high) × (united a b low ≡ low)). e.1) (λ (e : (low ≢ high) × (united a b low ≡ low)). e.1)
      (united_cases a b low)

  united_high : united a b high ≡ low
  united_high = ⊎_elim (λ (e : (high ≡ high) × (united a b high ≡ low)). e.1)
      (λ (e : (high ≢ high) × (united a b high ≡ high)). absurd (e.0 refl)) (united_cases a b high)

  high_inside : high < length ps
  high_inside = omega (arith, la, lb)

  parent_then : (k : ℕ) → ((high ≡ k) × (get_or ps' k 0 ≡ low)) ⊎ ((high ≢ k) × (get_or ps' k 0 ≡ get_or ps k 0))
  parent_then k = subst (λ z. ((high ≡ k) × (get_or z k 0 ≡ low)) ⊎ ((high ≢ k) × (get_or z k 0 ≡ get_or ps k 0))) (sym is_set)
      (get_or-set ps high k low 0 high_inside)

  pub united_forest : IsForest ps'
  united_forest k less = ⊎_elim (λ (here : (high ≡ k) × (get_or ps' k 0 ≡ low)). omega (arith, here.0, here.1))
      (λ (other : (high ≢ k) × (get_or ps' k 0 ≡ get_or ps k 0)). let le = h k (omega (arith, same)) in omega (arith, other.1, le))
      (parent_then k)

  pub united_roots : (k : ℕ) → k < length ps → root_of ps' k ≡ united a b (root_of ps k)
  united_roots k less = root_by ps' united_forest (λ z. united a b (root_of ps z)) step own k (omega (arith, same))
    where
      step : (k : ℕ) → k < length ps' → united a b (root_of ps (get_or ps' k 0)) ≡ united a b (root_of ps k)
      step k less = ⊎_elim
          (λ (here : (high ≡ k) × (get_or ps' k 0 ≡ low)).
          ap (λ z. united a b (root_of ps z)) here.1 ∙ ap (united a b) (root_of_own ps low own_low) ∙ united_low ∙ sym united_high
          ∙ ap (united a b) (sym (root_of_own ps high own_high)) ∙ ap (λ z. united a b (root_of ps z)) here.0)
          (λ (other : (high ≢ k) × (get_or ps' k 0 ≡ get_or ps k 0)).
          ap (λ z. united a b (root_of ps z)) other.1 ∙ ap (united a b) (root_of_parent ps h k (omega (arith, same)))) (parent_then k)

      own : (k : ℕ) → k < length ps' → get_or ps' k 0 ≡ k → united a b (root_of ps k) ≡ k
      own k less e = ⊎_elim
          (λ (here : (high ≡ k) × (get_or ps' k 0 ≡ low)).
          ap (λ z. united a b (root_of ps z)) (sym here.0) ∙ ap (united a b) (root_of_own ps high own_high) ∙ united_high
          ∙ sym here.1 ∙ e)
          (λ (other : (high ≢ k) × (get_or ps' k 0 ≡ get_or ps k 0)).
          ap (united a b) (root_of_own ps k (sym other.1 ∙ e)) ∙ stays k other.0) (parent_then k)
        where
          stays : (k : ℕ) → high ≢ k → united a b k ≡ k
          stays k apart = ⊎_elim (λ (e : (k ≡ high) × (united a b k ≡ low)). absurd (apart (sym e.0)))
              (λ (e : (k ≢ high) × (united a b k ≡ k)). e.1) (united_cases a b k)

-- ---- each number gets its root, in order
pub record IsSettled (ps ps' : List ℕ) (n : ℕ) : Type 0 where
  pub each : length ps' ≡ length ps
  pub done : (k : ℕ) → k < n → k < length ps → get_or ps' k 0 ≡ root_of ps k
  pub left : (k : ℕ) → n ≤ k → get_or ps' k 0 ≡ get_or ps k 0

pub settled_next : (ps now new : List ℕ) (n x : ℕ) → IsForest ps → IsSettled ps now n → n < length ps → length new ≡ length now
    → x ≡ get_or now (get_or now n 0) 0 → new ≡ set now n x → IsSettled ps new (n + 1)
settled_next ps now new n x h s lt same is_x is_set = record {
  each = same ∙ s.each;
  done = done;
  left = left;
}
  where
    at : (k : ℕ) → ((n ≡ k) × (get_or new k 0 ≡ x)) ⊎ ((n ≢ k) × (get_or new k 0 ≡ get_or now k 0))
    at k = subst (λ z. ((n ≡ k) × (get_or z k 0 ≡ x)) ⊎ ((n ≢ k) × (get_or z k 0 ≡ get_or now k 0))) (sym is_set)
        (get_or-set now n k x 0 (omega (arith, s.each)))

    parent : get_or now n 0 ≡ get_or ps n 0
    parent = s.left n (omega arith)

    root_here : x ≡ root_of ps n
    root_here = ⊎_elim
        (λ (less : get_or ps n 0 < n).
        is_x ∙ ap (λ z. get_or now z 0) parent ∙ s.done (get_or ps n 0) less (omega (arith, lt)) ∙ root_of_parent ps h n lt)
        (λ (le : n ≤ get_or ps n 0).
        let most = h n lt in
        let own : get_or ps n 0 ≡ n = omega (arith, most) in
        is_x ∙ ap (λ z. get_or now z 0) (parent ∙ own) ∙ parent ∙ own ∙ sym (root_of_own ps n own))
        (cases_lt (get_or ps n 0) n)

    done : (k : ℕ) → k < n + 1 → k < length ps → get_or new k 0 ≡ root_of ps k
    done k less inside = ⊎_elim (λ (here : (n ≡ k) × (get_or new k 0 ≡ x)). here.1 ∙ root_here ∙ ap (root_of ps) here.0)
        (λ (other : (n ≢ k) × (get_or new k 0 ≡ get_or now k 0)). other.1 ∙ s.done k (omega (arith, other.0)) inside) (at k)

    left : (k : ℕ) → n + 1 ≤ k → get_or new k 0 ≡ get_or ps k 0
    left k le = ⊎_elim (λ (here : (n ≡ k) × (get_or new k 0 ≡ x)). absurd (omega (arith, here.0)))
        (λ (other : (n ≢ k) × (get_or new k 0 ≡ get_or now k 0)). other.1 ∙ s.left k (omega arith)) (at k)
