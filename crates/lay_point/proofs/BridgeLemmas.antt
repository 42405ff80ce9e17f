-- The bridged path of rings is a ring, where it isn't too long, and one ring is its own bridged path.
use Rattle.std.proofs.Common.{◌≡◌, ◌≢◌, ◌≤◌, suc, List, [], ◌∷◌, ◌++◌, length, Bool, true, false, cond}
use Rattle.std.proofs.Common.{Result, Ok, Err, refl, ap, sym, ◌∙◌, subst, arith, length-append, append_assoc}
use Rattle.std.specs.Prelude.{nat_lt, not}
use Rattle.std.specs.List.{list_all, AllByRecursion}
use Rattle.std.proofs.lemmas.Bool.Decides.{nat_tests}
use Rattle.std.proofs.lemmas.List.Folds.{list_all-append}
use Rattle.std.proofs.lemmas.Bool.{and_parts, not-false}
use Rattle.lay_point.specs.declared.point.Point.{Point}
use Rattle.lay_point.specs.declared.ring.RingFault.{RingFault}
use Rattle.lay_point.specs.declared.ring.RingFault.TheVariants.{FewPoints, OutOfRange, TooMany}
use Rattle.lay_point.specs.declared.ring.TheConstants.{MAX_RING_POINTS}
use Rattle.lay_point.specs.Bridges.{bridged, further}
use Rattle.lay_point.specs.Points.{is_in_range, point_eq}
use Rattle.lay_point.specs.Rings.{IsRing, NeighboursDiffer, closed, kept_behind, opened, opened_behind, without_neighbours, without_repeats}
use Rattle.lay_point.specs.Rings.{checked_ring, ring_of}
use Rattle.lay_point.proofs.RingLemmas.{opened-apart, point_eq-true}

pub point_eq_apart : (p q : Point) → p ≢ q → point_eq p q ≡ false
point_eq_apart p q h = elim (point_eq p q) as (λ b. point_eq p q ≡ b → b ≡ false) [
  | true ↦ λ e. absurd (h (point_eq-true p q e))
  | false ↦ λ e. refl
] refl

-- ---- a ring has no repeats
-- points that differ from those before them are kept, and so is the next one behind them
pub kept_apart : (p q : Point) (ps rest : List Point) → NeighboursDiffer (p ∷ ps ++ q ∷ [])
    → kept_behind p (ps ++ q ∷ rest) ≡ ps ++ q ∷ kept_behind q rest
kept_apart p q [] rest d = rw (point_eq_apart p q d.0) refl
kept_apart p q (r ∷ rs) rest d = rw (point_eq_apart p r d.0) (ap (λ xs. r ∷ xs) (kept_apart r q rs rest d.1))

kept_all : (p q : Point) (ps : List Point) → NeighboursDiffer (p ∷ ps ++ q ∷ []) → kept_behind p ps ≡ ps
kept_all p q [] d = refl
kept_all p q (r ∷ rs) d = rw (point_eq_apart p r d.0) (ap (λ xs. r ∷ xs) (kept_all r q rs d.1))

-- a path is open where its last point differs from the first
opened_all : (first p : Point) (ps : List Point) → NeighboursDiffer (p ∷ ps ++ first ∷ []) → opened_behind first ps ≡ ps
opened_all first p [] d = refl
opened_all first p (q ∷ []) d = rw (point_eq_apart first q (λ e. d.1.0 (sym e))) refl
opened_all first p (q ∷ r ∷ rs) d = ap (λ xs. q ∷ xs) (opened_all first q (r ∷ rs) d.1)

pub without_repeats_of_ring : (points : List Point) → IsRing points → without_repeats points ≡ points
unfolding without_repeats
without_repeats_of_ring [] h = refl
without_repeats_of_ring (p ∷ ps) h =
    rw (kept_all p p ps h.apart) (ap (λ xs. p ∷ xs) (opened_all p p ps h.apart))

checked_ring_of_ring : (points : List Point) → 3 ≤ length points → length points ≤ MAX_RING_POINTS
    → list_all is_in_range points ≡ true → checked_ring points ≡ Ok points
checked_ring_of_ring points enough few in_range = grind (arith, nat_tests)

pub ring_of_ring : (points : List Point) → IsRing points → ring_of points ≡ Ok points
unfolding ring_of
ring_of_ring points h =
    ap checked_ring (without_repeats_of_ring points h) ∙ checked_ring_of_ring points h.enough h.few h.in_range

-- ---- points that are accepted make a ring
taken : (test : Bool) (fault : RingFault) (rest : Result (List Point) RingFault) (ring : List Point) →
    cond test (Err fault) rest ≡ Ok ring → (test ≡ false) × (rest ≡ Ok ring)
taken true fault rest ring h = absurd cc
taken false fault rest ring h = (refl, h)

checked_is : (kept ring : List Point) → (2 ≤ length kept → NeighboursDiffer (closed kept)) → checked_ring kept ≡ Ok ring → IsRing ring
checked_is kept ring apart h =
    let third : Result (List Point) RingFault = cond (nat_lt MAX_RING_POINTS (length kept)) (Err TooMany) (Ok kept) in
    let second : Result (List Point) RingFault = cond (not (list_all is_in_range kept)) (Err OutOfRange) third in
    let enough = taken (nat_lt (length kept) 3) FewPoints second ring h in
    let range = taken (not (list_all is_in_range kept)) OutOfRange third ring enough.1 in
    let few = taken (nat_lt MAX_RING_POINTS (length kept)) TooMany (Ok kept) ring range.1 in
    let same : kept ≡ ring = cc (few.1) in
    let three : 3 ≤ length kept = grind (arith, nat_tests, enough.0) in
    subst IsRing same (record {
      enough = three;
      few = grind (arith, nat_tests, few.0);
      in_range = not-false (list_all is_in_range kept) range.0;
      apart = apart (omega arith);
    })

pub ring_of_is : (points ring : List Point) → ring_of points ≡ Ok ring → IsRing ring
unfolding ring_of without_repeats
ring_of_is points ring h = checked_is (opened (without_neighbours points)) ring (opened-apart points) h

-- ---- one ring
pub bridged_one : (ring : List Point) → IsRing ring → bridged (ring ∷ []) ≡ ring
unfolding bridged
bridged_one [] h = absurd (omega (arith, h.enough))
bridged_one (p ∷ ps) h = without_repeats_of_ring (p ∷ ps) h

-- ---- points in range
all_kept : (test : Point → Bool) (last : Point) (ps : List Point) → list_all test ps ≡ true → list_all test (kept_behind last ps) ≡ true
all_kept test last [] h = refl
all_kept test last (p ∷ ps) h =
    let parts = and_parts (test p) (list_all test ps) h in
    elim (point_eq last p) as (λ b. list_all test (cond b (kept_behind last ps) (p ∷ kept_behind p ps)) ≡ true) [
      | true ↦ all_kept test last ps parts.1
      | false ↦ rw parts.0 (all_kept test p ps parts.1)
    ]

all_opened : (test : Point → Bool) (first : Point) (ps : List Point) → list_all test ps ≡ true
    → list_all test (opened_behind first ps) ≡ true
all_opened test first [] h = refl
all_opened test first (p ∷ []) h = elim (point_eq first p) as (λ b. list_all test (cond b [] (p ∷ [])) ≡ true) [
  | true ↦ refl
  | false ↦ h
]
all_opened test first (p ∷ q ∷ ps) h =
    let parts = and_parts (test p) (list_all test (q ∷ ps)) h in rw parts.0 (all_opened test first (q ∷ ps) parts.1)

all_without_repeats : (test : Point → Bool) (ps : List Point) → list_all test ps ≡ true
    → list_all test (opened (without_neighbours ps)) ≡ true
all_without_repeats test [] h = refl
all_without_repeats test (p ∷ ps) h =
    let parts = and_parts (test p) (list_all test ps) h in
    rw parts.0 (all_opened test p (kept_behind p ps) (all_kept test p ps parts.1))

all_joined : (test : Point → Bool) (ps qs : List Point) → list_all test ps ≡ true → list_all test qs ≡ true
    → list_all test (ps ++ qs) ≡ true
all_joined test ps qs h g = list_all-append test ps qs ∙ rw (h, g) refl

all_closed : (test : Point → Bool) (ps : List Point) → list_all test ps ≡ true → list_all test (closed ps) ≡ true
all_closed test [] h = refl
all_closed test (p ∷ ps) h =
    let parts = and_parts (test p) (list_all test ps) h in
    rw parts.0 (all_joined test ps (p ∷ []) parts.1 (rw parts.0 refl))

further_in_range : (start : Point) (rings : List (List Point)) → is_in_range start ≡ true → AllByRecursion IsRing rings
    → list_all is_in_range (further start rings) ≡ true
further_in_range start [] s h = refl
further_in_range start (ring ∷ []) s h = all_closed is_in_range ring h.0.in_range
further_in_range start (ring ∷ next ∷ rings) s h =
    all_joined is_in_range (closed ring) (start ∷ further start (next ∷ rings)) (all_closed is_in_range ring h.0.in_range)
    (all_joined is_in_range (start ∷ []) (further start (next ∷ rings)) (rw s refl) (further_in_range start (next ∷ rings) s h.1))

-- ---- the bridged path of several rings
-- at most one point is dropped where a path is opened
opened_length : (first : Point) (ps : List Point) → length ps ≤ suc (length (opened_behind first ps))
opened_length first [] = omega arith
opened_length first (p ∷ []) = elim (point_eq first p) as (λ b. length (p ∷ []) ≤ suc (length (cond b [] (p ∷ [])))) [
  | true ↦ omega arith
  | false ↦ omega arith
]
opened_length first (p ∷ q ∷ ps) = let shorter = opened_length first (q ∷ ps) in omega arith

-- round a ring and further, the ring's own points are kept
enough_points : (p : Point) (ps rest : List Point) → IsRing (p ∷ ps)
    → 3 ≤ length (opened (without_neighbours (closed (p ∷ ps) ++ rest)))
enough_points p ps rest h =
    let kept : kept_behind p ((ps ++ p ∷ []) ++ rest) ≡ ps ++ p ∷ kept_behind p rest =
    ap (kept_behind p) (append_assoc ps (p ∷ []) rest) ∙ kept_apart p p ps rest h.apart in
    let long = opened_length p (ps ++ p ∷ kept_behind p rest) in
    let ring = h.enough in
    rw kept (omega (arith, length-append ps (p ∷ kept_behind p rest)))

-- several rings
several : (p : Point) (ps next : List Point) (rings : List (List Point)) → AllByRecursion IsRing ((p ∷ ps) ∷ next ∷ rings)
    → length (bridged ((p ∷ ps) ∷ next ∷ rings)) ≤ MAX_RING_POINTS → IsRing (bridged ((p ∷ ps) ∷ next ∷ rings))
unfolding bridged without_repeats
several p ps next rings h few =
    let enough = enough_points p ps (further p (next ∷ rings)) h.0 in
    record {
      enough = enough;
      few = few;
      in_range = all_without_repeats is_in_range (closed (p ∷ ps) ++ further p (next ∷ rings))
          (all_joined is_in_range (closed (p ∷ ps)) (further p (next ∷ rings)) (all_closed is_in_range (p ∷ ps) h.0.in_range)
          (further_in_range p (next ∷ rings) (and_parts (is_in_range p) (list_all is_in_range ps) h.0.in_range).0 h.1));
      apart = opened-apart (closed (p ∷ ps) ++ further p (next ∷ rings)) (omega arith);
    }

pub bridged_is_ring : (rings : List (List Point)) → AllByRecursion IsRing rings → 1 ≤ length rings
    → length (bridged rings) ≤ MAX_RING_POINTS → IsRing (bridged rings)
bridged_is_ring [] h some few = absurd (omega arith)
bridged_is_ring (ring ∷ []) h some few = subst IsRing (sym (bridged_one ring h.0)) h.0
bridged_is_ring ([] ∷ next ∷ rings) h some few = absurd (omega (arith, h.0.enough))
bridged_is_ring ((p ∷ ps) ∷ next ∷ rings) h some few = several p ps next rings h few
