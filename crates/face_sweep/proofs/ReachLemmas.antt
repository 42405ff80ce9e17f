-- Boxes round the edges of shapes, which grow.
use Rattle.std.proofs.Common.{◌≡◌, ℕ, ◌+◌, ◌<◌, Bool, true, false, ◌||◌, List, [], ◌∷◌, Some, length, get_or, set, take}
use Rattle.std.proofs.Common.{refl, sym, ap, subst, ◌∙◌, arith}
use Rattle.std.specs.Prelude.{nat_eq, slice_get}
use Rattle.std.proofs.Math.ListN.{length-set}
use Rattle.std.proofs.lemmas.Bool.Decides.{Decides-eqb}
use Rattle.std.proofs.lemmas.List.{get_or-set_other, get_or-set_same, get_or_default, take_more}
use Rattle.std.proofs.lemmas.List.Folds.{list_any-append}
use Rattle.std.proofs.lemmas.Option.{get_or_from_slice_get, slice_get-get_or, slice_get_within}
use Rattle.lay_point.specs.declared.point.Point.{Point}
use Rattle.lay_point.specs.declared.rect.Rect.{Rect}
use Rattle.lay_point.specs.Rects.{grown}
use Rattle.lay_point.proofs.RectLemmas.{grown_has, grown_keeps}
use Rattle.snap_chains.specs.declared.owner.Input.{Input}
use Rattle.snap_chains.specs.declared.owner.Input.TheVariants.{First, Second}
use Rattle.snap_chains.specs.declared.owner.Owner.{Owner}
use Rattle.snap_chains.specs.Owners.{owner_eq}
use Rattle.snap_chains.specs.Rounded.{Owned, is_owner_listed}
use Rattle.face_sweep.specs.declared.boxes.Boxes.{Boxes}
use Rattle.face_sweep.specs.declared.reach.Reach.{Reach}
use Rattle.face_sweep.specs.declared.turns.Turn.{Turn}
use Rattle.face_sweep.specs.declared.turns.Turn.TheVariants.{Sought}
use Rattle.face_rows.specs.Lines.{edge_at, owners_at}
use Rattle.face_sweep.specs.Reaches.{HaveGrown, IsEdgeIn, IsEnclosed, IsInBoxes, IsReach, IsTurnOf, box_list, extent_of, keys_of}
use Rattle.face_rows.proofs.Shapes.{same_owner}

-- ---- boxes that grow
-- with both ends of an edge
pub enclosed_both : (extent : Rect) (e : Point × Point) → IsEnclosed extent (grown (grown extent e.0) e.1)
enclosed_both extent e p own = grown_keeps (grown extent e.0) e.1 p (grown_keeps extent e.0 p own)

pub in_both : (extent : Rect) (e : Point × Point) → IsEdgeIn (grown (grown extent e.0) e.1) e
in_both extent e = (grown_keeps (grown extent e.0) e.1 e.0 (grown_has extent e.0), grown_has (grown extent e.0) e.1)

pub grown_none : (xs : List Rect) → HaveGrown xs xs
grown_none xs shape extent h = (extent, h, λ p own. own)

pub grown_more : (xs ys zs : List Rect) → HaveGrown xs ys → HaveGrown ys zs → HaveGrown xs zs
grown_more xs ys zs f g shape extent h =
    let second = g shape extent h in
    let first = f shape second.0 second.1 in
    (first.0, first.1, λ p own. second.2 p (first.2 p own))

pub grown_set : (xs : List Rect) (i : ℕ) (v d : Rect) → i < length xs → IsEnclosed (get_or xs i d) v → HaveGrown xs (set xs i v)
grown_set xs i v d less part shape extent h = by_number (nat_eq i shape) refl
  where
    there : get_or (set xs i v) shape d ≡ extent
    there = get_or_from_slice_get (set xs i v) shape extent d h

    inside : shape < length xs
    inside = subst (λ k. shape < k) (length-set xs i v) (slice_get_within (set xs i v) shape extent h)

    by_number : (b : Bool) → nat_eq i shape ≡ b → (before : Rect) × (slice_get xs shape ≡ Some before) × IsEnclosed before extent
    by_number true t =
        let same = (Decides-eqb i shape).0 t in
        let now : v ≡ extent = sym (get_or-set_same xs i v d less) ∙ ap (λ k. get_or (set xs i v) k d) same ∙ there in
        let was : IsEnclosed (get_or xs shape d) v = subst (λ k. IsEnclosed (get_or xs k d) v) same part in
        (get_or xs shape d, slice_get-get_or xs shape d inside, subst (IsEnclosed (get_or xs shape d)) now was)
    by_number false t =
        let kept : get_or xs shape d ≡ extent =
        sym (get_or-set_other xs i shape v d (λ same. let t' = (Decides-eqb i shape).1 (sym same) in absurd cc)) ∙ there in
        (get_or xs shape d, slice_get-get_or xs shape d inside, subst (IsEnclosed (get_or xs shape d)) kept (λ p own. own))

pub reached_set : (xs : List Rect) (i : ℕ) (v : Rect) (e : Point × Point) (extent : Rect) → i < length xs → IsEdgeIn v e
    → slice_get (set xs i v) i ≡ Some extent → IsEdgeIn extent e
reached_set xs i v e extent less own h =
    subst (λ z. IsEdgeIn z e) (sym (get_or-set_same xs i v extent less) ∙ get_or_from_slice_get (set xs i v) i extent extent h) own

-- of all shapes
pub record HasGrown (old new : Boxes) : Type 0 where
  pub first : HaveGrown old.first.items new.first.items
  pub second : HaveGrown old.second.items new.second.items

grown_of : (old new : Boxes) → HasGrown old new → (input : Input) (shape : ℕ) (extent : Rect)
    → slice_get (box_list new input) shape ≡ Some extent
    → (before : Rect) × (slice_get (box_list old input) shape ≡ Some before) × IsEnclosed before extent
grown_of old new h First shape extent e = h.first shape extent e
grown_of old new h Second shape extent e = h.second shape extent e

-- an edge that was in the box before is in it
still_in : (e : Point × Point) (before extent : Rect) → IsEnclosed before extent → IsEdgeIn before e → IsEdgeIn extent e
still_in e before extent part own = (part e.0 own.0, part e.1 own.1)

-- what was in reach is so
pub still_in_boxes : (r : Owned) (old new : Boxes) (n : ℕ) → HasGrown old new → IsInBoxes r old n → IsInBoxes r new n
still_in_boxes r old new n grown h o extent listed e =
    let g = grown_of old new grown o.input o.shape extent e in
    still_in (edge_at r n) g.0 extent g.2 (h o g.0 listed g.1)

-- one shape more reaches round the edge
pub boxes_more : (old new : Boxes) (owners : List Owner) (i : ℕ) (d : Owner) (edge : Point × Point) → i < length owners → HasGrown old new
    → ((extent : Rect) → extent_of new (get_or owners i d) ≡ Some extent → IsEdgeIn extent edge)
    → ((o : Owner) (extent : Rect) → is_owner_listed o (take i owners) ≡ true → extent_of old o ≡ Some extent → IsEdgeIn extent edge)
    → (o : Owner) (extent : Rect) → is_owner_listed o (take (i + 1) owners) ≡ true → extent_of new o ≡ Some extent
    → IsEdgeIn extent edge
boxes_more old new owners i d edge less grown here so_far o extent listed e =
    by_tests (is_owner_listed o (take i owners)) (owner_eq (get_or owners i d) o) refl refl
    (sym (ap (is_owner_listed o) (take_more owners i d less)
    ∙ list_any-append (λ p. owner_eq p o) (take i owners) (get_or owners i d ∷ [])) ∙
    listed)
  where
    by_tests : (a b : Bool) → is_owner_listed o (take i owners) ≡ a → owner_eq (get_or owners i d) o ≡ b → (a || (b || false)) ≡ true
        → IsEdgeIn extent edge
    by_tests true b s t h =
        let g = grown_of old new grown o.input o.shape extent e in
        still_in edge g.0 extent g.2 (so_far o g.0 s g.1)
    by_tests false true s t h =
        here extent (subst (λ p. extent_of new p ≡ Some extent) (sym (same_owner (get_or owners i d) o t)) e)
    by_tests false false s t h = absurd cc

-- ---- what the sweep knows of an edge
pub turn_at : (r : Owned) (reach : Reach) (n : ℕ) (kept turn : Turn) → IsReach r reach → n < length r.0
    → kept ≡ get_or reach.turns.items n kept → kept ≡ turn
    → IsTurnOf (owners_at r n) (edge_at r n) reach.boxes (keys_of reach) turn
turn_at r reach n kept turn h given is at =
    subst (IsTurnOf (owners_at r n) (edge_at r n) reach.boxes (keys_of reach))
    (sym (get_or_default reach.turns.items n kept Sought (omega (arith, h.turns.count, given))) ∙ sym is ∙ at) (h.turns.each n given)
