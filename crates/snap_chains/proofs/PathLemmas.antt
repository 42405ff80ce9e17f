-- Paths of sides, and the rounded paths that a further side makes.
use Rattle.std.proofs.Common.{◌≡◌, ◌≢◌, ◌↔◌, ◌⊎◌, inl, inr, ℤ, ◌+ℤ◌, ◌-ℤ◌, ◌*ℤ◌, ◌<ℤ◌, ℕ, zero, suc, ◌+◌, ◌<◌, ◌≤◌, List, [], ◌∷◌, ◌++◌}
use Rattle.std.proofs.Common.{length, map, get_or, take, Contains, refl, sym, ap, ◌∙◌, subst, arith}
use Rattle.std.proofs.Common.{append-nil, append_assoc}
use Rattle.std.proofs.lemmas.List.{take_all, take_more}
use Rattle.lay_point.specs.declared.point.Point.{Point}
use Rattle.lay_point.specs.Rings.{NeighboursDiffer}
use Rattle.snap_pixels.specs.declared.segment.Segment.{Segment}
use Rattle.snap_pixels.specs.Hot.{AreHotCentres, IsHot}
use Rattle.lay_point.specs.Points.{IsBefore}
use Rattle.snap_pixels.specs.Segments.{Meets}
use Rattle.std.specs.Int.{int_signum}
use Rattle.snap_edge_laws.specs.Chains.{IsChain}
use Rattle.lay_point.specs.Rising.{IsRising, pairs, last}
use Rattle.snap_edge_laws.specs.Rounding.{IsRoundedPath, closed_walk, further, point, tail}
use Rattle.lay_point.proofs.Members.{Has, has, contains}
use Rattle.lay_point.proofs.ListLaws.{map-has}
use Rattle.snap_edge_laws.proofs.Chains.{chains_join_ends}
use Rattle.snap_edge_laws.proofs.Rounded.{last_of, rounded_paths_join_ends}
use Rattle.snap_chains.specs.Sides.{segment_ends}
use Rattle.snap_chains.proofs.OwnerLemmas.{map-push}

-- ---- neighbours
pub pairs-push : {A : Type 0} (x : A) (ys : List A) (z : A) → pairs (x ∷ (ys ++ z ∷ [])) ≡ pairs (x ∷ ys) ++ (last x ys, z) ∷ []
pairs-push x [] z = refl
pairs-push x (y ∷ ys) z = ap (λ ps. (x, y) ∷ ps) (pairs-push y ys z)

pub last-push : {A : Type 0} (x : A) (ys : List A) (z : A) → last x (ys ++ z ∷ []) ≡ z
last-push x [] z = refl
last-push x (y ∷ ys) z = last-push y ys z

pub differ_at : (x z : Point) (ys : List Point) → NeighboursDiffer (x ∷ (ys ++ z ∷ [])) → (i : ℕ) (d : Point) → i < length ys
    → last x (take i ys) ≢ get_or ys i d
differ_at x z [] h i d lt = absurd (omega arith)
differ_at x z (y ∷ ys) h zero d lt = h.0
differ_at x z (y ∷ ys) h (suc i) d lt = differ_at y z ys h.1 i d (omega arith)

pub differ_last : (x z : Point) (ys : List Point) → NeighboursDiffer (x ∷ (ys ++ z ∷ [])) → last x ys ≢ z
differ_last x z [] h = h.0
differ_last x z (y ∷ ys) h = differ_last y z ys h.1

-- ---- sides
-- each side starts where the one before it ends, and the first at p
abbrev pub AreLinked : Point → List Segment → Type 0
AreLinked p [] = Unit {0}
AreLinked p (s ∷ ss) = (s.a ≡ p) × AreLinked s.b ss

pub sides_linked : (x : Point) (ys : List Point) (sides : List Segment) → map segment_ends sides ≡ pairs (x ∷ ys)
    → AreLinked x sides × (map (λ s. s.b) sides ≡ ys)
sides_linked x [] [] e = (tt, refl)
sides_linked x [] (s ∷ ss) e = absurd cc
sides_linked x (y ∷ ys) [] e = absurd cc
sides_linked x (y ∷ ys) (s ∷ ss) e =
    let here : segment_ends s ≡ (x, y) = cc in
    let there : map segment_ends ss ≡ pairs (y ∷ ys) = cc in
    let rest = sides_linked y ys ss there in
    let start = ap (λ (p : Point × Point). p.0) here in
    let end = ap (λ (p : Point × Point). p.1) here in
    ((start, subst (λ v. AreLinked v ss) (sym end) rest.0), λ i. end i ∷ rest.1 i)

pub linked_at : (x : Point) (sides : List Segment) → AreLinked x sides → (i : ℕ) (d : Segment) → i < length sides
    → last x (map (λ s. s.b) (take i sides)) ≡ (get_or sides i d).a
linked_at x [] h i d lt = absurd (omega arith)
linked_at x (s ∷ ss) h zero d lt = sym h.0
linked_at x (s ∷ ss) h (suc i) d lt = linked_at s.b ss h.1 i d (omega arith)

-- ---- rounded paths
tail-append : {A : Type 0} (x : A) (xs rest ys : List A) → xs ≡ x ∷ rest → tail (xs ++ ys) ≡ tail xs ++ ys
tail-append x xs rest ys e = subst (λ l. tail (l ++ ys) ≡ tail l ++ ys) (sym e) refl

pub chain_of_hot : (segments : List Segment) (hot : List Point) (s : Segment) (chain : List Point) → AreHotCentres segments hot
    → IsChain (Contains hot) s chain → IsChain (IsHot segments) s chain
chain_of_hot segments hot s chain all h = record {
  rising = h.rising;
  exact = λ c. (
    (λ w. let m = (h.exact c).0 w in ((all.exact c).0 m.0, m.1)),
    (λ m. (h.exact c).1 ((all.exact c).1 m.0, m.1)),
  );
}

-- the chain of one more side, from where the path ends
pub further_side : (segments : List Segment) (s : Segment) (chain : List Point) → Contains segments s → IsChain (IsHot segments) s chain
    → (path points : List Point) → IsRoundedPath segments path points → last_of s.a path ≡ s.a
    → IsRoundedPath segments (path ++ s.b ∷ []) (points ++ tail chain)
further_side segments s chain given h path points (point q) e =
    let ends = chains_join_ends segments s chain given h in
    let shape : chain ≡ s.a ∷ tail chain = ends.first_is ∙ ap (λ l. s.a ∷ l) (sym (ap tail ends.first_is)) in
    let base = further s [] chain (s.b ∷ []) given h (point s.b) in
    subst (λ v. IsRoundedPath segments (v ∷ s.b ∷ []) (v ∷ tail chain)) (sym e)
    (subst (IsRoundedPath segments (s.a ∷ s.b ∷ [])) (append-nil chain ∙ shape) base)
further_side segments s chain given h path points (further s' path' chain' rest given' h' g) e =
    let more = further_side segments s chain given h (s'.b ∷ path') rest g e in
    let ends = rounded_paths_join_ends segments (s'.b ∷ path') rest g s'.b (last s'.b path')
    (record { rest = path'; first_is = refl; last_is = refl }) in
    let whole = further s' (path' ++ s.b ∷ []) chain' (rest ++ tail chain) given' h' more in
    subst (IsRoundedPath segments (s'.a ∷ s'.b ∷ (path' ++ s.b ∷ [])))
    (ap (λ l. chain' ++ l) (tail-append s'.b rest ends.rest (tail chain) ends.first_is)
    ∙ sym (append_assoc chain' (tail rest) (tail chain))) whole

pub Contains-map : {A B : Type 0} (f : A → B) (xs : List A) (x : A) → Contains xs x → Contains (map f xs) (f x)
Contains-map {A} {B} f xs x h = contains (map f xs) (f x) (mapped xs (has xs x h))
  where
    mapped : (ys : List A) → Has ys x → Has (map f ys) (f x)
    mapped [] m = absurd m
    mapped (y ∷ ys) (inl e) = inl (ap f e)
    mapped (y ∷ ys) (inr m) = inr (mapped ys m)

-- ---- a chain depends on the ends of its segment alone
abbrev key_of : Point → Point → Point → ℤ
key_of a b c = int_signum (b.x -ℤ a.x) *ℤ c.x +ℤ int_signum (b.y -ℤ a.y) *ℤ c.y

abbrev IsBelowFor : Point → Point → Point → Point → Type 0
IsBelowFor a b c d = (key_of a b c <ℤ key_of a b d) ⊎ ((key_of a b c ≡ key_of a b d) × IsBefore c d)

pub same_chain : (Hot : Point → Type 0) (s t : Segment) (chain : List Point) → s.a ≡ t.a → s.b ≡ t.b → IsChain Hot s chain
    → IsChain Hot t chain
same_chain Hot s t chain ea eb h = record {
  rising = coe 0 1 (i. IsRising (IsBelowFor (ea i) (eb i)) chain) h.rising;
  exact = coe 0 1 (i. (c : Point) → Contains chain c ↔ (Hot c × Meets (ea i) (eb i) c)) h.exact;
}

-- one more side, which has the ends of one of the segments
side_of_some : (segments : List Segment) (s : Segment) (chain path walk : List Point)
    → Contains (map segment_ends segments) (segment_ends s)
    → IsChain (IsHot segments) s chain → IsRoundedPath segments path walk → last_of s.a path ≡ s.a
    → IsRoundedPath segments (path ++ s.b ∷ []) (walk ++ tail chain)
side_of_some segments s chain path walk among h so_far link =
    let found = map-has segment_ends segments (segment_ends s) (has (map segment_ends segments) (segment_ends s) among) in
    let t = found.0 in
    let ea : t.a ≡ s.a = ap (λ (p : Point × Point). p.0) found.2 in
    let eb : t.b ≡ s.b = ap (λ (p : Point × Point). p.1) found.2 in
    let link' = subst (λ (v : Point). last_of v path ≡ v) (sym ea) link in
    subst (λ v. IsRoundedPath segments (path ++ v ∷ []) (walk ++ tail chain)) eb
    (further_side segments t chain (contains segments t found.1)
    (same_chain (IsHot segments) s t chain (sym ea) (sym eb) h) path walk so_far link')

-- one more side of a ring
pub next_side : (segments : List Segment) (hot ring walk chain : List Point) (sides : List Segment) (i : ℕ) (s : Segment) →
    AreHotCentres segments hot
    → ((e : Point × Point) → Contains (pairs (closed_walk ring)) e → Contains (map segment_ends segments) e)
    → map segment_ends sides ≡ pairs (closed_walk ring)
    → i < length sides → s ≡ get_or sides i s → IsChain (Contains hot) s chain
    → (p : Point) (ps : List Point) → ring ≡ p ∷ ps → IsRoundedPath segments (p ∷ map (λ t. t.b) (take i sides)) walk
    → IsRoundedPath segments (p ∷ map (λ t. t.b) (take (i + 1) sides)) (walk ++ tail chain)
next_side segments hot ring walk chain sides i s all among are_sides lt at is_chain p ps e so_far =
    let linked = sides_linked p (ps ++ p ∷ []) sides (are_sides ∙ ap (λ r. pairs (closed_walk r)) e) in
    let on_ring : Contains (pairs (closed_walk ring)) (segment_ends s) =
    subst (λ l. Contains l (segment_ends s)) are_sides (Contains-map segment_ends sides s (i, lt, sym at)) in
    let link = linked_at p sides linked.0 i s lt ∙ ap (λ (t : Segment). t.a) (sym at) in
    let more = take_more sides i s lt ∙ ap (λ t. take i sides ++ t ∷ []) (sym at) in
    subst (λ l. IsRoundedPath segments (p ∷ l) (walk ++ tail chain))
    (sym (ap (map (λ (t : Segment). t.b)) more ∙ map-push (λ (t : Segment). t.b) (take i sides) s))
    (side_of_some segments s chain (p ∷ map (λ t. t.b) (take i sides)) walk (among (segment_ends s) on_ring)
    (chain_of_hot segments hot s chain all is_chain) so_far link)

-- all sides
pub whole_ring : (segments : List Segment) (ring walk : List Point) (sides : List Segment) (i : ℕ) (p : Point) (ps : List Point) →
    length sides ≤ i
    → ring ≡ p ∷ ps → map segment_ends sides ≡ pairs (closed_walk ring) → IsRoundedPath segments (p ∷ map (λ t. t.b) (take i sides)) walk
    → IsRoundedPath segments (closed_walk ring) walk
whole_ring segments ring walk sides i p ps over e are_sides h =
    let linked = sides_linked p (ps ++ p ∷ []) sides (are_sides ∙ ap (λ r. pairs (closed_walk r)) e) in
    subst (λ r. IsRoundedPath segments (closed_walk r) walk) (sym e)
    (subst (λ l. IsRoundedPath segments (p ∷ l) walk) (ap (map (λ (t : Segment). t.b)) (take_all i sides over) ∙ linked.1) h)
