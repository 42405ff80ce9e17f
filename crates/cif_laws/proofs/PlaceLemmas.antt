-- The corners of a polygon are the places of its vertices.
use Rattle.std.proofs.Common.{◌≡◌, ◌⊎◌, inl, inr, ◌<◌, Bool, true, false, cond, List, [], ◌∷◌, ◌++◌, length, map, Option, Some, None}
use Rattle.std.proofs.Common.{Result, Ok, Err, refl, sym, ap, subst, ◌∙◌, arith, append_assoc}
use Rattle.std.specs.Prelude.{MatchOption, nat_lt, not}
use Rattle.std.specs.List.{list_all}
use Rattle.std.proofs.lemmas.Bool.{and_parts}
use Rattle.std.proofs.lemmas.Bool.Decides.{nat_tests}
use Rattle.std.proofs.lemmas.List.{append-nil}
use Rattle.std.proofs.lemmas.Option.{cond_some}
use Rattle.lay_point.specs.declared.point.Point.{Point}
use Rattle.lay_point.specs.declared.ring.RingFault.{RingFault}
use Rattle.lay_point.specs.declared.ring.RingFault.TheVariants.{FewPoints, NoMemory as NoRoom, OutOfRange, TooMany as ManyPoints}
use Rattle.lay_point.specs.declared.ring.TheConstants.{MAX_RING_POINTS}
use Rattle.lay_point.specs.Points.{is_in_range, point_eq}
use Rattle.lay_point.specs.Rings.{checked_ring, kept_behind, opened_behind, ring_of, without_repeats}
use Rattle.lay_point.proofs.Members.{Has, contains, has}
use Rattle.lay_point.proofs.RingLemmas.{point_eq-true}
use Rattle.byte_io.proofs.Steps.{after_some}
use Rattle.cif_grammar.specs.declared.definitions.Scale.{Scale}
use Rattle.cif_grammar.specs.declared.paths.Vertex.{Vertex}
use Rattle.cif_read.specs.declared.content.Content.{Content}
use Rattle.cif_read.specs.declared.fault.FaultKind.TheVariants.{OffGrid}
use Rattle.cif_read.specs.Calls.{origin}
use Rattle.cif_read.specs.Content.{after_polygon, current_scale}
use Rattle.cif_read.specs.Polygons.{points_from, polygon_at, ring_of_points, ring_or_none}
use Rattle.lay_point.specs.Turns.{within_range}
use Rattle.cif_read.specs.Scales.{IsRatio, doubled, is_whole, is_whole_vertex, scaled_vertex}
use Rattle.cif_read.proofs.RingFacts.{taken}
use Rattle.cif_read.proofs.ScaleLemmas.{scaled_exact}
use Rattle.cif_laws.specs.Distances.{ArePlaces, LieOnTwoPoints, DistancesAreScaled, DrawsRing, IsPlace, IsPolygonOf}
use Rattle.cif_laws.proofs.DistanceLemmas.{is_scaled, next_scale, only_units, polygon_drew}

-- ---- what is left of a list

-- the second list is what is left of the first where some of it is left out
abbrev pub IsLeft : List Point → List Point → Type 0
IsLeft qs [] = Unit {0}
IsLeft [] (p ∷ ps) = ⊥
IsLeft (q ∷ qs) (p ∷ ps) = ((q ≡ p) × IsLeft qs ps) ⊎ IsLeft qs (p ∷ ps)

left_more : (q : Point) (qs ps : List Point) → IsLeft qs ps → IsLeft (q ∷ qs) ps
left_more q qs [] h = tt
left_more q qs (p ∷ ps) h = inr h

left_left : (xs ys zs : List Point) → IsLeft xs ys → IsLeft ys zs → IsLeft xs zs
left_left [] ys [] h g = tt
left_left (x ∷ xs) ys [] h g = tt
left_left [] [] (z ∷ zs) h g = absurd g
left_left [] (y ∷ ys) (z ∷ zs) h g = absurd h
left_left (x ∷ xs) [] (z ∷ zs) h g = absurd g
left_left (x ∷ xs) (y ∷ ys) (z ∷ zs) (inl h) (inl g) = inl (h.0 ∙ g.0, left_left xs ys zs h.1 g.1)
left_left (x ∷ xs) (y ∷ ys) (z ∷ zs) (inl h) (inr g) = inr (left_left xs ys (z ∷ zs) h.1 g)
left_left (x ∷ xs) (y ∷ ys) (z ∷ zs) (inr h) g = inr (left_left xs (y ∷ ys) (z ∷ zs) h g)

kept_left : (last : Point) (ps : List Point) → IsLeft ps (kept_behind last ps)
kept_left last [] = tt
kept_left last (p ∷ ps) = by_test (point_eq last p) (kept_left last ps) (kept_left p ps) where
  by_test : (b : Bool) → IsLeft ps (kept_behind last ps) → IsLeft ps (kept_behind p ps)
      → IsLeft (p ∷ ps) (cond b (kept_behind last ps) (p ∷ kept_behind p ps))
  by_test true h g = left_more p ps (kept_behind last ps) h
  by_test false h g = inl (refl, g)

opened_left : (first : Point) (ps : List Point) → IsLeft ps (opened_behind first ps)
opened_left first [] = tt
opened_left first (p ∷ []) = by_test (point_eq first p) where
  by_test : (b : Bool) → IsLeft (p ∷ []) (cond b [] (p ∷ []))
  by_test true = tt
  by_test false = inl (refl, tt)
opened_left first (p ∷ q ∷ ps) = inl (refl, opened_left first (q ∷ ps))

pub without_left : (ps : List Point) → IsLeft ps (without_repeats ps)
unfolding without_repeats
without_left [] = tt
without_left (p ∷ ps) =
    inl (refl, left_left ps (kept_behind p ps) (opened_behind p (kept_behind p ps)) (kept_left p ps) (opened_left p (kept_behind p ps)))

-- ---- each point stays

kept_has : (last : Point) (ps : List Point) (x : Point) → Has (last ∷ ps) x → Has (last ∷ kept_behind last ps) x
kept_has last [] x m = m
kept_has last (p ∷ ps) x m = by_test (point_eq last p) refl (kept_has last ps x) (kept_has p ps x) m where
  by_test : (b : Bool) → point_eq last p ≡ b → (Has (last ∷ ps) x → Has (last ∷ kept_behind last ps) x)
      → (Has (p ∷ ps) x → Has (p ∷ kept_behind p ps) x) → Has (last ∷ p ∷ ps) x
      → Has (last ∷ cond b (kept_behind last ps) (p ∷ kept_behind p ps)) x
  by_test true e h g (inl same) = inl same
  by_test true e h g (inr (inl same)) = inl (point_eq-true last p e ∙ same)
  by_test true e h g (inr (inr m)) = h (inr m)
  by_test false e h g (inl same) = inl same
  by_test false e h g (inr m) = inr (g m)

opened_has : (first : Point) (ps : List Point) (x : Point) → Has (first ∷ ps) x → Has (first ∷ opened_behind first ps) x
opened_has first [] x m = m
opened_has first (p ∷ []) x m = by_test (point_eq first p) refl m where
  by_test : (b : Bool) → point_eq first p ≡ b → Has (first ∷ p ∷ []) x → Has (first ∷ cond b [] (p ∷ [])) x
  by_test true e (inl same) = inl same
  by_test true e (inr (inl same)) = inl (point_eq-true first p e ∙ same)
  by_test true e (inr (inr m)) = absurd m
  by_test false e m = m
opened_has first (p ∷ q ∷ ps) x (inl same) = inl same
opened_has first (p ∷ q ∷ ps) x (inr (inl same)) = inr (inl same)
opened_has first (p ∷ q ∷ ps) x (inr (inr m)) = further (opened_has first (q ∷ ps) x (inr m)) where
  further : Has (first ∷ opened_behind first (q ∷ ps)) x → Has (first ∷ p ∷ opened_behind first (q ∷ ps)) x
  further (inl same) = inl same
  further (inr n) = inr (inr n)

without_has : (ps : List Point) (x : Point) → Has ps x → Has (without_repeats ps) x
unfolding without_repeats
without_has [] x m = m
without_has (p ∷ ps) x m = opened_has p (kept_behind p ps) x (kept_has p ps x m)

-- ---- places

vertex_place : (scale : Scale) (v : Vertex) → is_whole_vertex scale v ≡ true → IsPlace scale v (scaled_vertex scale v)
vertex_place scale v h =
    let both = and_parts (is_whole scale (doubled v.x)) (is_whole scale (doubled v.y)) h in
    (scaled_exact scale (doubled v.x) both.0, scaled_exact scale (doubled v.y) both.1)

one_place : (scale : Scale) (v : Vertex) (p : Point) → IsRatio scale → IsPlace scale v p → scaled_vertex scale v ≡ p
one_place scale v p ratio h =
    let x = (only_units scale (doubled v.x) p.x ratio h.0).1 in
    let y = (only_units scale (doubled v.y) p.y ratio h.1).1 in
    λ i. record { x = x i; y = y i }

left_places : (scale : Scale) (vs : List Vertex) (ring : List Point) → list_all (is_whole_vertex scale) vs ≡ true
    → IsLeft (map (scaled_vertex scale) vs) ring → ArePlaces scale vs ring
left_places scale [] [] h g = tt
left_places scale (v ∷ vs) [] h g = tt
left_places scale [] (p ∷ ps) h g = absurd g
left_places scale (v ∷ vs) (p ∷ ps) h (inl g) =
    let both = and_parts (is_whole_vertex scale v) (list_all (is_whole_vertex scale) vs) h in
    inl (subst (IsPlace scale v) g.0 (vertex_place scale v both.0), left_places scale vs ps both.1 g.1)
left_places scale (v ∷ vs) (p ∷ ps) h (inr g) =
    let both = and_parts (is_whole_vertex scale v) (list_all (is_whole_vertex scale) vs) h in
    inr (left_places scale vs (p ∷ ps) both.1 g)

placed_has : (scale : Scale) (vs : List Vertex) (v : Vertex) (p : Point) → IsRatio scale → Has vs v → IsPlace scale v p
    → Has (map (scaled_vertex scale) vs) p
placed_has scale [] v p ratio m h = absurd m
placed_has scale (w ∷ vs) v p ratio (inl same) h = inl (ap (scaled_vertex scale) same ∙ one_place scale v p ratio h)
placed_has scale (w ∷ vs) v p ratio (inr m) h = inr (placed_has scale vs v p ratio m h)

-- ---- what is drawn

points_are : (scale : Scale) (found : List Point) (vs : List Vertex) (ps : List Point) → points_from scale found vs ≡ Some ps
    → found ++ map (scaled_vertex scale) vs ≡ ps
unfolding points_from
points_are scale found [] ps e =
    let same : found ≡ ps = cc in
    append-nil found ∙ same
points_are scale found (v ∷ vs) ps e =
    after_some (within_range (scaled_vertex scale v)) (λ p. points_from scale (found ++ p ∷ []) vs) ps e (λ p is rest.
    let same : scaled_vertex scale v ≡ p = (cond_some (is_in_range (scaled_vertex scale v)) (scaled_vertex scale v) p is).1 in
    ap (λ q. found ++ q ∷ map (scaled_vertex scale) vs) same
    ∙ sym (append_assoc found (p ∷ []) (map (scaled_vertex scale) vs))
    ∙ points_are scale (found ++ p ∷ []) vs ps rest)

checked_same : (kept ring : List Point) → checked_ring kept ≡ Ok ring → kept ≡ ring
checked_same kept ring e =
    taken (nat_lt (length kept) 3) _ _ ring e (λ _ e. taken (not (list_all is_in_range kept)) _ _ ring e (λ _ e.
    taken (nat_lt MAX_RING_POINTS (length kept)) _ _ ring e (λ _ e. cc)))

checked_few : (kept : List Point) → checked_ring kept ≡ Err FewPoints → length kept < 3
checked_few kept e = by_few (nat_lt (length kept) 3) refl e where
  no : (e : RingFault) (x : List Point) → ◌≡◌ {A = Result (List Point) RingFault} (Ok x) (Err e) → ⊥
  no e x h = cc

  other : RingFault → List Point → (b : Bool) → cond b (Err ManyPoints) (Ok kept) ≡ Err FewPoints → ⊥
  other f x true h = cc
  other f x false h = no FewPoints kept h

  by_range : (b c : Bool) → cond b (Err OutOfRange) (cond c (Err ManyPoints) (Ok kept)) ≡ Err FewPoints → ⊥
  by_range true c h = cc
  by_range false c h = other FewPoints kept c h

  by_few : (b : Bool) → nat_lt (length kept) 3 ≡ b → cond b (Err FewPoints) (cond (not (list_all is_in_range kept)) (Err OutOfRange)
      (cond (nat_lt MAX_RING_POINTS (length kept)) (Err ManyPoints) (Ok kept))) ≡ Err FewPoints → length kept < 3
  by_few true t h = grind (arith, nat_tests)
  by_few false t h = absurd (by_range (not (list_all is_in_range kept)) (nat_lt MAX_RING_POINTS (length kept)) h)

-- a list of fewer than three points
record OfTwo (xs : List Point) : Type 0 where
  one : Point
  other : Point
  each : (x : Point) → Has xs x → (x ≡ one) ⊎ (x ≡ other)

of_two : (xs : List Point) → length xs < 3 → OfTwo xs
of_two [] h = record { one = origin; other = origin; each = λ x m. absurd m }
of_two (a ∷ []) h = record { one = a; other = a; each = each } where
  each : (x : Point) → Has (a ∷ []) x → (x ≡ a) ⊎ (x ≡ a)
  each x (inl same) = inl (sym same)
  each x (inr m) = absurd m
of_two (a ∷ b ∷ []) h = record { one = a; other = b; each = each } where
  each : (x : Point) → Has (a ∷ b ∷ []) x → (x ≡ a) ⊎ (x ≡ b)
  each x (inl same) = inl (sym same)
  each x (inr (inl same)) = inr (sym same)
  each x (inr (inr m)) = absurd m
of_two (a ∷ b ∷ c ∷ xs) h = absurd (omega arith)

abbrev IsShape : Scale → List Vertex → Option (List Point) → Type 0
IsShape scale vs ring = MatchOption ring (LieOnTwoPoints scale vs) (IsPolygonOf scale vs)

few_shape : (scale : Scale) (vs : List Vertex) → IsRatio scale → ring_of (map (scaled_vertex scale) vs) ≡ Err FewPoints
    → LieOnTwoPoints scale vs
unfolding ring_of
few_shape scale vs ratio e =
    let kept = without_repeats (map (scaled_vertex scale) vs) in
    let two = of_two kept (checked_few kept e) in
    record {
      one = two.one;
      other = two.other;
      each = λ v p m h. two.each p (without_has (map (scaled_vertex scale) vs) p (placed_has scale vs v p ratio (has vs v m) h));
    }

ring_shape : (scale : Scale) (vs : List Vertex) (ring : List Point) → IsRatio scale → list_all (is_whole_vertex scale) vs ≡ true
    → ring_of (map (scaled_vertex scale) vs) ≡ Ok ring → IsPolygonOf scale vs ring
unfolding ring_of
ring_shape scale vs ring ratio whole e =
    let points = map (scaled_vertex scale) vs in
    let same = checked_same (without_repeats points) ring e in
    subst (IsPolygonOf scale vs) same (record {
      in_order = left_places scale vs (without_repeats points) whole (without_left points);
      each = λ v p m h. contains (without_repeats points) p (without_has points p (placed_has scale vs v p ratio (has vs v m) h));
    })

or_none_shape : (scale : Scale) (vs : List Vertex) (r : Result (List Point) RingFault) (ring : Option (List Point)) → IsRatio scale
    → list_all (is_whole_vertex scale) vs ≡ true → ring_of (map (scaled_vertex scale) vs) ≡ r → ring_or_none r ≡ Ok ring
    → IsShape scale vs ring
or_none_shape scale vs (Ok points) ring ratio whole is e =
    let same : Some points ≡ ring = cc in
    subst (IsShape scale vs) same (ring_shape scale vs points ratio whole is)
or_none_shape scale vs (Err FewPoints) ring ratio whole is e =
    let same : None ≡ ring = cc in
    subst (IsShape scale vs) same (few_shape scale vs ratio is)
or_none_shape scale vs (Err OutOfRange) ring ratio whole is e = absurd cc
or_none_shape scale vs (Err ManyPoints) ring ratio whole is e = absurd cc
or_none_shape scale vs (Err NoRoom) ring ratio whole is e = absurd cc

points_shape : (scale : Scale) (vs : List Vertex) (found : Option (List Point)) (ring : Option (List Point)) → IsRatio scale
    → list_all (is_whole_vertex scale) vs ≡ true → points_from scale [] vs ≡ found → ring_of_points found ≡ Ok ring → IsShape scale vs ring
points_shape scale vs None ring ratio whole is e = absurd cc
points_shape scale vs (Some points) ring ratio whole is e =
    or_none_shape scale vs (ring_of points) ring ratio whole (ap ring_of (points_are scale [] vs points is)) e

polygon_shape : (scale : Scale) (vs : List Vertex) (ring : Option (List Point)) → IsRatio scale → polygon_at scale vs ≡ Ok ring
    → IsShape scale vs ring
unfolding polygon_at
polygon_shape scale vs ring ratio e =
    taken (not (list_all (is_whole_vertex scale) vs)) OffGrid _ ring e (λ whole e.
    points_shape scale vs (points_from scale [] vs) ring ratio (grind (arith, nat_tests)) refl e)

polygon_law : (content next : Content) (vertices : List Vertex) → IsRatio (current_scale content.definition)
    → after_polygon content vertices ≡ Ok next
    → DrawsRing content next (LieOnTwoPoints (current_scale content.definition) vertices)
    (IsPolygonOf (current_scale content.definition) vertices)
polygon_law content next vertices ratio e =
    let d = polygon_drew content next vertices e in
    record {
      layer = d.layer;
      set = d.set;
      ring = d.ring;
      next_is = d.next_is;
      wanted = polygon_shape (current_scale content.definition) vertices d.ring ratio d.is;
    }

pub distances_law : DistancesAreScaled
distances_law = record {
  distances = is_scaled;
  first = refl;
  scales = next_scale;
  polygons = λ content next offset vertices ratio e. polygon_law content next vertices ratio e;
}
