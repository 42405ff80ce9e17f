-- Rings are linked so far: what they are with those of the edges left.
use Rattle.std.proofs.Common.{◌≡◌, ◌⊎◌, inl, inr, ℕ, zero, suc, ◌+◌, ◌<◌, ◌≤◌, Bool, true, false, List, [], ◌∷◌, ◌++◌}
use Rattle.std.proofs.Common.{length, get_or, set, Result, Ok, Err, refl, sym, ap, subst, ◌∙◌, ⊎_elim, arith, append-nil}
use Rattle.std.specs.Prelude.{All, Any, IfOk, MatchResult, is_ok, pos}
use Rattle.std.proofs.lemmas.List.Elements.{All-from_recursion}
use Rattle.std.specs.List.{AllByRecursion}
use Rattle.std.proofs.lemmas.Bool.{cases_lt}
use Rattle.lay_point.specs.declared.point.Point.{Point}
use Rattle.lay_point.specs.declared.ring.TheConstants.{MAX_RING_POINTS}
use Rattle.lay_point.specs.Rings.{IsRing}
use Rattle.lay_point.proofs.Members.{Has, contains, has-append_right}
use Rattle.face_rings.specs.declared.incidence.Incidence.{Incidence}
use Rattle.face_rings.specs.Incidence.{IsIncidence, KeepsMarks, left_of}
use Rattle.face_ring_laws.specs.Linking.{Ends, behind_first, first_ring, linked_rings}
use Rattle.face_ring_laws.proofs.RingLaws.{AreSound, ring_from_sound}
use Rattle.face_ring_laws.proofs.StepLemmas.{next_ring_is, one_more_ring, sound_next}

-- ---- the first edge left
pub first_left : (edges : List Ends) (used : List Bool) (i : ℕ) (d : Ends) → i < length edges → length used ≡ length edges
    → ((k : ℕ) → k < i → get_or used k true ≡ true) → get_or used i true ≡ false
    → left_of edges used ≡ get_or edges i d ∷ left_of edges (set used i true)
first_left [] used i d less same before here = absurd (omega arith)
first_left (e ∷ es) [] i d less same before here = absurd (omega arith)
first_left (e ∷ es) (m ∷ used) zero d less same before here = rw here refl
first_left (e ∷ es) (m ∷ used) (suc i) d less same before here =
    let marked : m ≡ true = before zero (omega arith) in
    rw marked (first_left es used i d (omega arith) (omega arith) (λ k lt. before (suc k) (omega arith)) here)

pub none_left : (edges : List Ends) (used : List Bool) → length used ≡ length edges
    → ((k : ℕ) → k < length edges → get_or used k true ≡ true) → left_of edges used ≡ []
none_left [] used same all = refl
none_left (e ∷ es) [] same all = refl
none_left (e ∷ es) (m ∷ used) same all =
    let marked : m ≡ true = all zero (omega arith) in
    rw marked (none_left es used (omega arith) (λ k lt. all (suc k) (omega arith)))

-- ---- while rings are linked
pub record IsLinking (edges : List Ends) (i : Incidence) (number : ℕ) (rings : List (List Point)) : Type 0 where
  pub sound : IsIncidence edges i
  pub before : (k : ℕ) → k < number → get_or i.used.items k true ≡ true
  pub whole : rings ++ linked_rings (left_of edges i.used.items) ≡ linked_rings edges
  pub rest : AreSound (linked_rings (left_of edges i.used.items))
  pub short : AllByRecursion (λ ring. length ring ≤ MAX_RING_POINTS) rings

before_next : (used : List Bool) (n : ℕ) → ((k : ℕ) → k < n → get_or used k true ≡ true) → get_or used n true ≡ true
    → (k : ℕ) → k < n + 1 → get_or used k true ≡ true
before_next used n before here k lt = ⊎_elim (λ (less : k < n). before k less)
    (λ (ge : n ≤ k). let same : n ≡ k = omega arith in subst (λ j. get_or used j true ≡ true) same here) (cases_lt k n)

pub linking_skips : (edges : List Ends) (i : Incidence) (n : ℕ) (rings : List (List Point)) → IsLinking edges i n rings
    → get_or i.used.items n true ≡ true → IsLinking edges i (n + 1) rings
linking_skips edges i n rings h here = record {
  sound = h.sound;
  before = before_next i.used.items n h.before here;
  whole = h.whole;
  rest = h.rest;
  short = h.short;
}

-- the first edge left is that of the number
pub linking_first : (edges : List Ends) (i : Incidence) (n : ℕ) (rings : List (List Point)) → IsLinking edges i n rings → n < length edges
    → get_or i.used.items n true ≡ false → (d : Ends)
    → left_of edges i.used.items ≡ get_or edges n d ∷ left_of edges (set i.used.items n true)
linking_first edges i n rings h less here d = first_left edges i.used.items n d less h.sound.marks h.before here

short_push : (rings : List (List Point)) (ring : List Point) → AllByRecursion (λ r. length r ≤ MAX_RING_POINTS) rings
    → length ring ≤ MAX_RING_POINTS
    → AllByRecursion (λ r. length r ≤ MAX_RING_POINTS) (rings ++ ring ∷ [])
short_push [] ring h few = (few, tt)
short_push (r ∷ rs) ring h few = (h.0, short_push rs ring h.1 few)

pub linking_sound : (edges : List Ends) (i : Incidence) (n : ℕ) (rings : List (List Point)) → IsLinking edges i n rings → n < length edges
    → get_or i.used.items n true ≡ false → length (first_ring (left_of edges i.used.items)) ≤ MAX_RING_POINTS
    → IsRing (first_ring (left_of edges i.used.items))
linking_sound edges i n rings h less here few =
    let d : Ends = (record { x = pos 0; y = pos 0 }, record { x = pos 0; y = pos 0 }) in
    let first = linking_first edges i n rings h less here d in
    ring_from_sound (first_ring (left_of edges i.used.items))
    (sound_next (left_of edges i.used.items) (get_or edges n d) (left_of edges (set i.used.items n true)) first h.rest).0 few

pub linking_goes_on : (edges : List Ends) (i i' : Incidence) (n : ℕ) (rings more : List (List Point)) (ring : List Point)
    → IsLinking edges i n rings → n < length edges → get_or i.used.items n true ≡ false
    → IsIncidence edges i' → KeepsMarks i.used.items i'.used.items → get_or i'.used.items n true ≡ true
    → ring ≡ first_ring (left_of edges i.used.items) → left_of edges i'.used.items ≡ behind_first (left_of edges i.used.items)
    → length (first_ring (left_of edges i.used.items)) ≤ MAX_RING_POINTS → more ≡ rings ++ ring ∷ []
    → IsLinking edges i' (n + 1) more
linking_goes_on edges i i' n rings more ring h less here sound' keeps marked is_ring behind few pushed =
    let d : Ends = (record { x = pos 0; y = pos 0 }, record { x = pos 0; y = pos 0 }) in
    let left = left_of edges i.used.items in
    let first = linking_first edges i n rings h less here d in
    let next = sound_next left (get_or edges n d) (left_of edges (set i.used.items n true)) first h.rest in
    record {
      sound = sound';
      before = before_next i'.used.items n (λ k lt. keeps k (h.before k lt)) marked;
      whole = one_more_ring rings more (linked_rings edges) ring left (left_of edges i'.used.items) (get_or edges n d)
          (left_of edges (set i.used.items n true)) first h.whole pushed is_ring behind;
      rest = subst (λ l. AreSound (linked_rings l)) (sym behind) next.1;
      short = subst (AllByRecursion (λ r. length r ≤ MAX_RING_POINTS)) (sym pushed)
          (short_push rings ring h.short (subst (λ r. length r ≤ MAX_RING_POINTS) (sym is_ring) few));
    }

linked_rings-none : linked_rings [] ≡ []
unfolding linked_rings
linked_rings-none = refl

pub linking_ends : (edges : List Ends) (i : Incidence) (n : ℕ) (rings : List (List Point)) → IsLinking edges i n rings → length edges ≤ n
    → rings ≡ linked_rings edges
linking_ends edges i n rings h all =
    let none = none_left edges i.used.items h.sound.marks (λ k lt. h.before k (omega arith)) in
    sym (append-nil rings) ∙ ap (λ rs. rings ++ rs) (sym linked_rings-none) ∙ ap (λ l. rings ++ linked_rings l) (sym none) ∙ h.whole

-- a ring that is too long is one of all
pub linking_too_long : (edges : List Ends) (i : Incidence) (n : ℕ) (rings : List (List Point)) → IsLinking edges i n rings
    → n < length edges
    → get_or i.used.items n true ≡ false → MAX_RING_POINTS < length (first_ring (left_of edges i.used.items))
    → Any (λ r. MAX_RING_POINTS < length r) (linked_rings edges)
linking_too_long edges i n rings h less here long =
    let d : Ends = (record { x = pos 0; y = pos 0 }, record { x = pos 0; y = pos 0 }) in
    let left = left_of edges i.used.items in
    let next = next_ring_is left (get_or edges n d) (left_of edges (set i.used.items n true))
    (linking_first edges i n rings h less here d) in
    let member : Has (linked_rings edges) (first_ring left) =
    subst (λ rs. Has rs (first_ring left)) (ap (λ rs. rings ++ rs) (sym next) ∙ h.whole)
    (has-append_right rings (first_ring left ∷ linked_rings (behind_first left)) (first_ring left) (inl refl)) in
    let c = contains (linked_rings edges) (first_ring left) member in
    (c.0, first_ring left, c.1, c.2, long)

pub all_short : (rings : List (List Point)) → AllByRecursion (λ r. length r ≤ MAX_RING_POINTS) rings
    → All (λ r. length r ≤ MAX_RING_POINTS) rings
all_short rings h = All-from_recursion (λ r. length r ≤ MAX_RING_POINTS) rings h

-- the ring that `Ring::new` answers, where its points make one
pub ring_answer : {E D : Type 0} (no_memory : E) (Q : E → Type 0) (r wanted : Result (List Point) E) (m : Result (List Point) D)
    (points : List Point)
    → (r ≡ Err no_memory) ⊎ (r ≡ wanted) → wanted ≡ Ok points → MatchResult r (λ x. m ≡ Ok x) Q → is_ok m ≡ is_ok r
    → IfOk m (λ x. x ≡ points)
ring_answer no_memory Q (Ok x) wanted m points (inl e) w h k = absurd cc
ring_answer no_memory Q (Ok x) wanted m points (inr e) w h k =
    let same : x ≡ points = cc in
    subst (λ z. IfOk z (λ y. y ≡ points)) (sym h) same
ring_answer no_memory Q (Err e) wanted (Ok x) points o w h k = absurd cc
ring_answer no_memory Q (Err e) wanted (Err d) points o w h k = tt
