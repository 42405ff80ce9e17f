-- The shapes that are answered are those of the operation.
use Rattle.std.proofs.Common.{◌≡◌, inl, inr, Bool, true, false, ◌&&◌, cond, List, map, ℤ, pos, ◌≤ℤ◌, Result, Ok, Err, sym, ap, subst, ◌∙◌}
use Rattle.std.specs.Prelude.{All, IfOk, IsTrue, nat_le}
use Rattle.std.specs.Global.{Vec}
use Rattle.std.specs.List.{list_all, list_any}
use Rattle.lay_point.specs.declared.point.Point.{Point}
use Rattle.lay_point.specs.declared.ring.Ring.{Ring}
use Rattle.lay_point.specs.Edges.{IsEdgeBefore, touches}
use Rattle.lay_point.specs.Memory.{IsAnswer}
use Rattle.lay_point.specs.Parity.{odd, parity}
use Rattle.lay_point.specs.Points.{is_in_range}
use Rattle.lay_point.specs.RingEdges.{edges_of}
use Rattle.lay_point.specs.Rising.{IsRising}
use Rattle.face_ring_laws.specs.Linking.{Ends}
use Rattle.snap_chains.specs.Rounded.{Owned}
use Rattle.lay_flat.specs.Flat.{FlatRing, IsFlat}
use Rattle.face_rows.specs.declared.op.Op.{Op}
use Rattle.face_rows.specs.Operations.{edges_of_op, op_at}
use Rattle.bool_rules.specs.Shapes.{Rings, are_short, fits, is_short, max_segments, op_rings, rounded_inputs, segments_of, shapes_of}
use Rattle.bool_rules.proofs.ShapeLemmas.{edges_in_range, edges_tell, tell_places}
use Rattle.layer_ops.specs.declared.fault.OpFault.{OpFault}
use Rattle.layer_ops.specs.declared.fault.OpFault.TheVariants.{NoMemory, TooMany}
use Rattle.layer_ops.specs.Combining.{combined, shape_lists, shaped}

-- what linking requires of edges
pub record AreLinkable (edges : List Ends) : Type 0 where
  pub rising : IsRising IsEdgeBefore edges
  pub in_range : All (λ e. IsTrue (is_in_range e.0 && is_in_range e.1)) edges
  pub even : (v : Point) → parity (touches v) edges ≡ false

-- the labelled edges of the rounded inputs are the operation's
pub edges_are : (op : Op) (a b : List FlatRing) (inputs : Owned) (kept edges : List Ends) → inputs ≡ rounded_inputs a b
    → kept ≡ edges_of_op op inputs → edges ≡ kept → edges ≡ edges_of_op op (rounded_inputs a b)
edges_are op a b inputs kept edges is_inputs is_kept same = same ∙ is_kept ∙ ap (edges_of_op op) is_inputs

pub are_linkable : (op : Op) (a b : List FlatRing) (edges : List Ends) → All IsFlat a → All IsFlat b
    → edges ≡ edges_of_op op (rounded_inputs a b) → AreLinkable edges
are_linkable op a b edges flat_a flat_b same =
    let h = edges_tell op a b flat_a flat_b in
    subst AreLinkable (sym same) (record { rising = h.rising; in_range = edges_in_range op a b flat_a flat_b; even = h.even })

pub too_many_sides : (op : Op) (a b : List FlatRing) → nat_le (segments_of a b) max_segments ≡ false → combined op a b ≡ Err TooMany
unfolding fits
too_many_sides op a b h =
    ap (λ t. cond {A = Result (List Rings) OpFault} ((t && list_all is_short (op_rings op a b)) && are_short (shapes_of op a b))
    (Ok (shapes_of op a b)) (Err TooMany)) h

pub few_sides : (op : Op) (a b : List FlatRing) → nat_le (segments_of a b) max_segments ≡ true
    → combined op a b ≡ shaped (edges_of_op op (rounded_inputs a b))
unfolding fits shaped shapes_of
few_sides op a b h =
    ap (λ t. cond {A = Result (List Rings) OpFault} ((t && list_all is_short (op_rings op a b)) && are_short (shapes_of op a b))
    (Ok (shapes_of op a b)) (Err TooMany)) h

shapes_by_test : (b : Bool) (lists shapes : List Rings) → Ok lists ≡ cond {A = Result (List Rings) OpFault} b (Ok shapes) (Err TooMany)
    → lists ≡ shapes
shapes_by_test true lists shapes e = cc
shapes_by_test false lists shapes e = absurd cc

pub shapes_are : (op : Op) (a b : List FlatRing) (lists : List Rings) → IsAnswer NoMemory (Ok lists) (combined op a b)
    → lists ≡ shapes_of op a b
shapes_are op a b lists (inl refused) = absurd cc
shapes_are op a b lists (inr so) = shapes_by_test (fits op a b) lists (shapes_of op a b) so

pub places_are : (op : Op) (a b : List FlatRing) (result : Result (Vec (Vec Ring)) OpFault) → All IsFlat a → All IsFlat b
    → IsAnswer NoMemory (shape_lists result) (combined op a b)
    → IfOk result (λ shapes. (k x y : ℤ) → pos 1 ≤ℤ k →
    list_any (λ shape. odd (edges_of shape) k x y) (map (λ shape. shape.items) shapes.items) ≡ op_at op (rounded_inputs a b) k x y)
places_are op a b (Err fault) flat_a flat_b h = tt
places_are op a b (Ok shapes) flat_a flat_b h = λ k x y scale.
    ap (list_any (λ shape. odd (edges_of shape) k x y)) (shapes_are op a b (map (λ shape. shape.items) shapes.items) h)
    ∙ (tell_places op a b flat_a flat_b).places k x y scale
