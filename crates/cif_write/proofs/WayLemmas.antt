-- The bridged path is what is put point by point.
use Rattle.std.proofs.Common.{◌≡◌, ℕ, ◌+◌, ◌<◌, List, [], ◌∷◌, ◌++◌, length, drop, get_or}
use Rattle.std.proofs.Common.{Bool, true, false, cond, refl, ap, sym, ◌∙◌, subst, append_assoc, append-nil, arith}
use Rattle.std.proofs.lemmas.List.{at_drop_more}
use Rattle.std.proofs.lemmas.List.Concat.{flat_map-append}
use Rattle.lay_point.specs.declared.point.Point.{Point}
use Rattle.lay_point.specs.Bridges.{bridged, further, joined_behind}
use Rattle.lay_point.specs.Points.{point_eq}
use Rattle.lay_point.specs.Rings.{IsRing, closed, kept_behind, opened, opened_behind, without_neighbours, without_repeats}
use Rattle.lay_point.specs.Same.{point_eq-Decides}
use Rattle.lay_point.proofs.RingLemmas.{point_eq-true}
use Rattle.cif_write.specs.Lines.{path_text, point_text}
use Rattle.cif_write.specs.Ways.{last_point, kept_of, kept_by, ways}

-- ---- points behind points
pub kept_of-append : (held : Point) (xs ys : List Point) → kept_of held (xs ++ ys) ≡ kept_of held xs ++ kept_of (last_point held xs) ys
kept_of-append held [] ys = refl
kept_of-append held (p ∷ ps) ys =
    ap (λ l. kept_by held p ++ l) (kept_of-append p ps ys)
    ∙ sym (append_assoc (kept_by held p) (kept_of p ps) (kept_of (last_point p ps) ys))

pub last_point-append : (held : Point) (xs ys : List Point) → last_point held (xs ++ ys) ≡ last_point (last_point held xs) ys
last_point-append held [] ys = refl
last_point-append held (p ∷ ps) ys = last_point-append p ps ys

-- ---- the ways to further rings
further_ways : (start : Point) (ring : List Point) (rings : List (List Point))
    → start ∷ further start (ring ∷ rings) ≡ ways start (ring ∷ rings)
further_ways start ring [] = sym (append-nil (start ∷ closed ring))
further_ways start ring (next ∷ rings) = ap (λ l. (start ∷ closed ring) ++ l) (further_ways start next rings)

joined_ways : (start : Point) (points : List Point) (rings : List (List Point))
    → joined_behind start points rings ≡ start ∷ points ++ ways start rings
joined_ways start points [] = sym (append-nil (start ∷ points))
joined_ways start points (ring ∷ rings) =
    append_assoc (start ∷ points) (start ∷ []) (further start (ring ∷ rings))
    ∙ ap (λ l. (start ∷ points) ++ l) (further_ways start ring rings)

-- ---- repeats
point_eq-comm : (p q : Point) → point_eq p q ≡ point_eq q p
point_eq-comm p q = by_tests (point_eq p q) (point_eq q p) refl refl where
  by_tests : (a b : Bool) → point_eq p q ≡ a → point_eq q p ≡ b → a ≡ b
  by_tests true true e f = refl
  by_tests true false e f = sym ((point_eq-Decides q p).1 (sym (point_eq-true p q e))) ∙ f
  by_tests false true e f = sym e ∙ (point_eq-Decides p q).1 (sym (point_eq-true q p f))
  by_tests false false e f = refl

-- what is open of the kept points is what is put of them
opened-kept_of : (start held : Point) (xs : List Point)
    → opened_behind start (held ∷ kept_behind held xs) ≡ kept_of held xs ++ kept_by (last_point held xs) start
opened-kept_of start held [] = ap (λ b. cond b [] (held ∷ [])) (point_eq-comm start held)
opened-kept_of start held (p ∷ ps) = by_test (point_eq held p) refl (opened-kept_of start p ps) where
  by_test : (b : Bool) → point_eq held p ≡ b
      → opened_behind start (p ∷ kept_behind p ps) ≡ kept_of p ps ++ kept_by (last_point p ps) start
      → opened_behind start (held ∷ cond b (kept_behind held ps) (p ∷ kept_behind p ps))
      ≡ (cond b [] (held ∷ []) ++ kept_of p ps) ++ kept_by (last_point p ps) start
  by_test true e behind =
      subst (λ q. opened_behind start (q ∷ kept_behind q ps) ≡ kept_of p ps ++ kept_by (last_point p ps) start)
      (sym (point_eq-true held p e)) behind
  by_test false e behind = ap (λ l. held ∷ l) behind

pub point_eq-apart : (p q : Point) → ¬ (p ≡ q) → point_eq p q ≡ false
point_eq-apart p q apart = by_test (point_eq p q) refl where
  by_test : (b : Bool) → point_eq p q ≡ b → b ≡ false
  by_test true e = absurd (apart (point_eq-true p q e))
  by_test false e = refl

-- the bridged path of a ring and others, as it is put
pub bridged-kept_of : (start p : Point) (ps : List Point) (rings : List (List Point)) → IsRing (start ∷ p ∷ ps)
    → bridged ((start ∷ p ∷ ps) ∷ rings)
    ≡ start ∷ kept_of p (ps ++ ways start rings) ++ kept_by (last_point p (ps ++ ways start rings)) start
unfolding bridged without_repeats
bridged-kept_of start p ps rings ring =
    ap (λ l. opened (without_neighbours l)) (joined_ways start (p ∷ ps) rings)
    ∙ ap (λ b. opened (start ∷ cond b (kept_behind start (ps ++ ways start rings)) (p ∷ kept_behind p (ps ++ ways start rings))))
    (point_eq-apart start p ring.apart.0)
    ∙ ap (λ l. start ∷ l) (opened-kept_of start p (ps ++ ways start rings))

-- ---- in digits
path_text-append : (xs ys : List Point) → path_text (xs ++ ys) ≡ path_text xs ++ path_text ys
path_text-append xs ys = flat_map-append point_text xs ys

-- what is kept by the next point, then by those behind it
pub behind_text-step : (held : Point) (points : List Point) (i : ℕ) (d : Point) → i < length points
    → path_text (kept_of held (drop i points))
    ≡ path_text (kept_by held (get_or points i d)) ++ path_text (kept_of (get_or points i d) (drop (i + 1) points))
behind_text-step held points i d h =
    at_drop_more (λ ps. path_text (kept_of held ps)) points i d h
    ∙ path_text-append (kept_by held (get_or points i d)) (kept_of (get_or points i d) (drop (i + 1) points))

-- the way to a ring, then those to the rings behind it
pub ways_text-step : (held start after : Point) (rings : List (List Point)) (i : ℕ) (d : List Point) → i < length rings
    → after ≡ last_point held (start ∷ closed (get_or rings i d))
    → path_text (kept_of held (ways start (drop i rings)))
    ≡ path_text (kept_of held (start ∷ closed (get_or rings i d))) ++ path_text (kept_of after (ways start (drop (i + 1) rings)))
ways_text-step held start after rings i d h last =
    let way = start ∷ closed (get_or rings i d) in
    let left = ways start (drop (i + 1) rings) in
    at_drop_more (λ rs. path_text (kept_of held (ways start rs))) rings i d h
    ∙ ap path_text (kept_of-append held way left) ∙ path_text-append (kept_of held way) (kept_of (last_point held way) left)
    ∙ ap (λ p. path_text (kept_of held way) ++ path_text (kept_of p left)) (sym last)

pub ways_last-step : (held start after : Point) (rings : List (List Point)) (i : ℕ) (d : List Point) → i < length rings
    → after ≡ last_point held (start ∷ closed (get_or rings i d))
    → last_point after (ways start (drop (i + 1) rings)) ≡ last_point held (ways start (drop i rings))
ways_last-step held start after rings i d h last =
    let way = start ∷ closed (get_or rings i d) in
    let left = ways start (drop (i + 1) rings) in
    ap (λ p. last_point p left) last ∙ sym (last_point-append held way left)
    ∙ sym (at_drop_more (λ rs. last_point held (ways start rs)) rings i d h)

-- the start, a ring, and its first point again
pub way_text : (held start first round : Point) (points : List Point) (d : Point) → IsRing points → first ≡ get_or points 0 d
    → round ≡ last_point start points
    → (path_text (kept_by held start) ++ path_text (kept_of start points)) ++ path_text (kept_by round first)
    ≡ path_text (kept_of held (start ∷ closed points))
way_text held start first round [] d ring is last = absurd (omega (arith, ring.enough))
way_text held start first round (p ∷ ps) d ring is last =
    (λ i. (path_text (kept_by held start) ++ path_text (kept_of start (p ∷ ps))) ++ path_text (kept_by (last i) (is i)))
    ∙ ap (λ l. (path_text (kept_by held start) ++ path_text (kept_of start (p ∷ ps))) ++ path_text l)
    (sym (append-nil (kept_by (last_point start (p ∷ ps)) p)))
    ∙ append_assoc (path_text (kept_by held start)) (path_text (kept_of start (p ∷ ps)))
    (path_text (kept_of (last_point start (p ∷ ps)) (p ∷ [])))
    ∙ ap (λ l. path_text (kept_by held start) ++ l)
    (sym (path_text-append (kept_of start (p ∷ ps)) (kept_of (last_point start (p ∷ ps)) (p ∷ [])))
    ∙ ap path_text (sym (kept_of-append start (p ∷ ps) (p ∷ []))))
    ∙ sym (path_text-append (kept_by held start) (kept_of start (closed (p ∷ ps))))

pub way_last : (held start first : Point) (points : List Point) (d : Point) → IsRing points → first ≡ get_or points 0 d
    → first ≡ last_point held (start ∷ closed points)
way_last held start first [] d ring is = absurd (omega (arith, ring.enough))
way_last held start first (p ∷ ps) d ring is = is ∙ sym (last_point-append start (p ∷ ps) (p ∷ []))

-- no rings have no path
pub no_path : (rings : List (List Point)) → length rings ≡ 0 → [] ≡ path_text (bridged rings)
unfolding bridged without_repeats
no_path [] none = refl
no_path (ring ∷ rings) none = absurd (omega arith)

grouped : (a b c d : List ℕ) → ((a ++ b) ++ c) ++ d ≡ a ++ ((b ++ c) ++ d)
grouped a b c d = simp append_assoc

-- the first ring and the ways to the others
bridged_text-of : (start p : Point) (ps : List Point) (rings : List (List Point)) → IsRing (start ∷ p ∷ ps)
    → ((point_text start ++ path_text (kept_of p ps)) ++ path_text (kept_of (last_point p ps) (ways start rings)))
    ++ path_text (kept_by (last_point (last_point p ps) (ways start rings)) start)
    ≡ path_text (bridged ((start ∷ p ∷ ps) ∷ rings))
bridged_text-of start p ps rings ring =
    let left = ways start rings in
    let first = kept_of p ps in
    let others = kept_of (last_point p ps) left in
    let last = kept_by (last_point (last_point p ps) left) start in
    let apart : path_text ((first ++ others) ++ last) ≡ (path_text first ++ path_text others) ++ path_text last =
    path_text-append (first ++ others) last ∙ ap (λ l. l ++ path_text last) (path_text-append first others) in
    let points : bridged ((start ∷ p ∷ ps) ∷ rings) ≡ start ∷ ((first ++ others) ++ last) =
    bridged-kept_of start p ps rings ring
    ∙ (λ i. start ∷ (kept_of-append p ps left i ++ kept_by (last_point-append p ps left i) start)) in
    grouped (point_text start) (path_text first) (path_text others) (path_text last)
    ∙ ap (λ l. point_text start ++ l) (sym apart) ∙ sym (ap path_text points)

pub bridged_text : (first points behind : List Point) (rings others : List (List Point)) (start second round last d : Point)
    → IsRing first → rings ≡ first ∷ others → points ≡ first → start ≡ get_or points 0 d → second ≡ get_or points 1 d
    → behind ≡ drop 2 points
    → round ≡ last_point second behind → last ≡ last_point round (ways start others)
    → ((point_text start ++ path_text (kept_of second behind)) ++ path_text (kept_of round (ways start others)))
    ++ path_text (kept_by last start) ≡ path_text (bridged rings)
bridged_text [] points behind rings others start second round last d ring all same e0 e1 e2 e3 e4 =
    absurd (omega (arith, ring.enough))
bridged_text (p ∷ []) points behind rings others start second round last d ring all same e0 e1 e2 e3 e4 =
    absurd (omega (arith, ring.enough))
bridged_text (p ∷ q ∷ ps) points behind rings others start second round last d ring all same e0 e1 e2 e3 e4 =
    let start_is : start ≡ p = e0 ∙ ap (λ l. get_or l 0 d) same in
    let second_is : second ≡ q = e1 ∙ ap (λ l. get_or l 1 d) same in
    let behind_is : behind ≡ ps = e2 ∙ ap (drop 2) same in
    rw (all, e4, e3, behind_is, second_is, start_is) (bridged_text-of p q ps others ring)
