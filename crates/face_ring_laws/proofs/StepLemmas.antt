-- The steps of linking: along a way, from ring to ring, and what is so of all rings.
use Rattle.std.proofs.Common.{◌≡◌, ◌≢◌, ℕ, zero, suc, ◌<◌, ◌≤◌, true, false, ◌&&◌, cond, List, [], ◌∷◌, ◌++◌}
use Rattle.std.proofs.Common.{Contains, length, Option, None, Some, refl, sym, ap, subst, ◌∙◌, arith, append_assoc}
use Rattle.std.specs.Prelude.{All, IsTrue}
use Rattle.std.proofs.lemmas.Bool.{and_parts}
use Rattle.lay_point.specs.declared.point.Point.{Point}
use Rattle.lay_point.specs.Edges.{IsEdgeBefore, is_before}
use Rattle.lay_point.specs.Points.{is_in_range, point_eq}
use Rattle.lay_point.specs.Rising.{IsRising}
use Rattle.lay_point.proofs.EdgeOrder.{points_decide}
use Rattle.lay_point.proofs.Members.{Has, contains}
use Rattle.face_ring_laws.specs.Linked.{AreLinked}
use Rattle.face_ring_laws.specs.Linking.{Ends, behind_first, first_ring, linked_rings, other_end, ring_along, rings_up_to, take_at, way}
use Rattle.face_ring_laws.proofs.TakenLemmas.{is_taken, taken_length}
use Rattle.face_ring_laws.proofs.CountLemmas.{AreUndirected, proper_from_undirected}
use Rattle.face_ring_laws.proofs.LinkedLemmas.{rings_linked}
use Rattle.face_ring_laws.proofs.RingLaws.{AreSound, IsSound, rings_sound}
use Rattle.face_ring_laws.proofs.WayLemmas.{AreEven, AreRings, are_rings}

-- ---- along a way
abbrev pub whole_way : Point → Point → List Ends → List Point × List Ends
whole_way start at es = way (suc (length es)) start at es

way_goes : (start at : Point) (es : List Ends) → at ≢ start
    → whole_way start at es ≡ ring_along (way (length es) start) at es (take_at at es)
way_goes start at es apart = let f = points_decide.apart at start apart in rw f refl

pub way_further : (start at : Point) (es : List Ends) (t : Ends × List Ends) → at ≢ start → take_at at es ≡ Some t
    → whole_way start at es ≡ (at ∷ (whole_way start (other_end at t.0) t.1).0, (whole_way start (other_end at t.0) t.1).1)
way_further start at es t apart h =
    way_goes start at es apart ∙ ap (ring_along (way (length es) start) at es) h
    ∙ ap (λ n. (at ∷ (way n start (other_end at t.0) t.1).0, (way n start (other_end at t.0) t.1).1))
    (taken_length at es t.0 t.1 (is_taken at es t h))

-- the points so far and those to come are those of the whole way
pub record IsOnWay (start from at : Point) (before so_far : List Point) (es left : List Ends) : Type 0 where
  pub points : so_far ++ (whole_way start at left).0 ≡ before ++ (whole_way start from es).0
  pub rest : (whole_way start at left).1 ≡ (whole_way start from es).1

pub on_way_further : (start from at : Point) (before so_far more : List Point) (es left left' : List Ends) (e : Ends) → at ≢ start
    → IsOnWay start from at before so_far es left → take_at at left ≡ Some (e, left') → more ≡ so_far ++ at ∷ []
    → IsOnWay start from (other_end at e) before more es left'
on_way_further start from at before so_far more es left left' e apart h taken pushed =
    let further = way_further start at left (e, left') apart taken in
    let rest = (whole_way start (other_end at e) left').0 in
    record {
      points = ap (λ l. l ++ rest) pushed ∙ append_assoc so_far (at ∷ []) rest
          ∙ ap (λ (w : List Point × List Ends). so_far ++ w.0) (sym further) ∙ h.points;
      rest = ap (λ (w : List Point × List Ends). w.1) (sym further) ∙ h.rest;
    }

pub taken_shorter : (at : Point) (left left' : List Ends) (e : Ends) → take_at at left ≡ Some (e, left') → length left' < length left
taken_shorter at left left' e h = let count = taken_length at left e left' (is_taken at left (e, left') h) in omega arith

-- ---- from ring to ring
along_less : (go : Point → List Ends → List Point × List Ends) → ((at : Point) (es : List Ends) → length (go at es).1 ≤ length es)
    → (at : Point) (es : List Ends) (o : Option (Ends × List Ends)) → take_at at es ≡ o → length (ring_along go at es o).1 ≤ length es
along_less go less at es None h = omega arith
along_less go less at es (Some t) h =
    let further = less (other_end at t.0) t.1 in
    let count = taken_length at es t.0 t.1 (is_taken at es t h) in
    omega arith

way_less : (n : ℕ) (start at : Point) (es : List Ends) → length (way n start at es).1 ≤ length es
way_less zero start at es = omega arith
way_less (suc n) start at es =
    elim (point_eq at start) as (λ b. length (cond b ([], es) (ring_along (way n start) at es (take_at at es))).1 ≤ length es) [
      | true ↦ omega arith
      | false ↦ along_less (way n start) (way_less n start) at es (take_at at es) refl
    ]

rings_same : (n m : ℕ) (es : List Ends) → length es ≤ n → length es ≤ m → rings_up_to n es ≡ rings_up_to m es
rings_same zero zero es h g = refl
rings_same zero (suc m) [] h g = refl
rings_same zero (suc m) (e ∷ es) h g = absurd (omega arith)
rings_same (suc n) zero [] h g = refl
rings_same (suc n) zero (e ∷ es) h g = absurd (omega arith)
rings_same (suc n) (suc m) [] h g = refl
rings_same (suc n) (suc m) (e ∷ es) h g =
    let less = way_less (suc (length es)) e.0 e.1 es in
    ap (λ rs. first_ring (e ∷ es) ∷ rs) (rings_same n m (behind_first (e ∷ es)) (omega arith) (omega arith))

pub linked_rings-first : (e : Ends) (es : List Ends) → linked_rings (e ∷ es) ≡ first_ring (e ∷ es) ∷ linked_rings (behind_first (e ∷ es))
unfolding linked_rings
linked_rings-first e es =
    let less = way_less (suc (length es)) e.0 e.1 es in
    ap (λ rs. first_ring (e ∷ es) ∷ rs)
    (rings_same (length es) (length (behind_first (e ∷ es))) (behind_first (e ∷ es)) less (omega arith))

-- the first edge isn't used: its ring comes next
pub next_ring_is : (left : List Ends) (e : Ends) (es : List Ends) → left ≡ e ∷ es
    → linked_rings left ≡ first_ring left ∷ linked_rings (behind_first left)
next_ring_is left e es same =
    subst (λ l. linked_rings l ≡ first_ring l ∷ linked_rings (behind_first l)) (sym same) (linked_rings-first e es)

pub one_more_ring : (rings more all : List (List Point)) (ring : List Point) (left left' : List Ends) (e : Ends) (es : List Ends)
    → left ≡ e ∷ es → rings ++ linked_rings left ≡ all → more ≡ rings ++ ring ∷ [] → ring ≡ first_ring left → left' ≡ behind_first left
    → more ++ linked_rings left' ≡ all
one_more_ring rings more all ring left left' e es same so_far pushed is_ring behind =
    (λ k. pushed k ++ linked_rings (behind k)) ∙ append_assoc rings (ring ∷ []) (linked_rings (behind_first left))
    ∙ ap (λ r. rings ++ r ∷ linked_rings (behind_first left)) is_ring
    ∙ ap (λ rs. rings ++ rs) (sym (next_ring_is left e es same)) ∙ so_far

pub sound_next : (left : List Ends) (e : Ends) (es : List Ends) → left ≡ e ∷ es → AreSound (linked_rings left)
    → IsSound (first_ring left) × AreSound (linked_rings (behind_first left))
sound_next left e es same h = subst AreSound (next_ring_is left e es same) h

-- ---- all edges
pub undirected_edges : (edges : List Ends) → ((e : Ends) → Contains edges e → is_before e.0 e.1 ≡ true) → AreUndirected edges
undirected_edges edges h e m = h e (contains edges e m)

all_has : (P : Ends → Type 0) (edges : List Ends) → All P edges → (e : Ends) → Has edges e → P e
all_has P edges h e m = let c = contains edges e m in subst P c.2 (h c.0 e c.1)

pub all_rings : (edges : List Ends) → AreUndirected edges → AreEven edges → AreRings edges (linked_rings edges)
unfolding linked_rings
all_rings edges lesser even = are_rings (length edges) edges (omega arith) (proper_from_undirected edges lesser) even

pub all_sound : (edges : List Ends) → AreUndirected edges → AreEven edges → IsRising IsEdgeBefore edges
    → All (λ e. IsTrue (is_in_range e.0 && is_in_range e.1)) edges → AreSound (linked_rings edges)
all_sound edges lesser even up fits =
    rings_sound edges (linked_rings edges) (all_rings edges lesser even) up lesser
    (λ e m. and_parts (is_in_range e.0) (is_in_range e.1) (all_has (λ f. IsTrue (is_in_range f.0 && is_in_range f.1)) edges fits e m))

pub all_linked : (edges : List Ends) → AreUndirected edges → AreEven edges → IsRising IsEdgeBefore edges
    → AreLinked edges [] (linked_rings edges)
all_linked edges lesser even up =
    rings_linked edges [] edges (linked_rings edges) (all_rings edges lesser even)
    (record { given = λ f m. m; left = λ f m none. none; all = λ f m n. m; rising = up })
