-- Where the shapes of an operation are, and that there are no others.
use Rattle.std.proofs.Common.{◌≡◌, false, List, [], refl, subst, ◌∙◌}
use Rattle.std.specs.Prelude.{All, IsTrue, ◌&&◌}
use Rattle.std.proofs.Common.{get_or}
use Rattle.std.proofs.lemmas.List.Elements.{Contains-get_or}
use Rattle.std.proofs.lemmas.Bool.{and_from}
use Rattle.lay_point.specs.Points.{is_in_range}
use Rattle.lay_point.specs.declared.point.Point.{Point}
use Rattle.lay_point.proofs.Members.{contains}
use Rattle.lay_flat.specs.Flat.{FlatRing, IsFlat}
use Rattle.snap_chains.specs.Round.{IsRoundOf}
use Rattle.snap_laws.specs.RoundLaws.{AreCleanEdges}
use Rattle.snap_laws.proofs.Exists.{rounding_exists, rounding_is_computed}
use Rattle.snap_laws.proofs.InRange.{rounded_is_in_range, rounded_is_rounded}
use Rattle.face_rows.proofs.UpwardLemmas.{even_operation, operation_among, operation_law, operation_rises}
use Rattle.face_rows.specs.declared.op.Op.{Op}
use Rattle.face_rows.specs.declared.op.Op.TheVariants.{And, Or, Not, Xor}
use Rattle.face_rows.specs.Operations.{TellAnswer, answer, edges_of_op}
use Rattle.face_ring_laws.specs.Linked.{AreLinked}
use Rattle.face_ring_laws.proofs.CountLemmas.{AreUndirected, rings_count, rings_odd}
use Rattle.face_ring_laws.proofs.LinkedLemmas.{linked_once}
use Rattle.face_ring_laws.proofs.StepLemmas.{all_linked, all_rings}
use Rattle.face_ring_laws.specs.Parts.{AreParts}
use Rattle.face_ring_laws.proofs.PartLaws.{odd_by_parts}
use Rattle.bool_rules.specs.ShapeLaws.{AreDetermined, ShapesAreDetermined, ShapesTellPlaces, TellPlaces}
use Rattle.bool_rules.specs.Shapes.{op_rings, owned_of, rounded_inputs, shapes_of}
use Rattle.bool_rules.proofs.LabelLemmas.{parts_exist}
use Rattle.bool_rules.proofs.OneDivision.{parts_are_unique}
use Rattle.bool_rules.proofs.SameEdges.{parts_have_edges}
use Rattle.bool_rules.proofs.TurningLemmas.{owned_are_rings}

-- no operation holds where neither input does
neither : (op : Op) → answer op false false ≡ false
neither And = refl
neither Or = refl
neither Not = refl
neither Xor = refl

module _ (op : Op) (a b : List FlatRing) (flat_a : All IsFlat a) (flat_b : All IsFlat b) where
  abbrev edges : List (Point × Point)
  edges = edges_of_op op (rounded_inputs a b)

  pub inputs_round : IsRoundOf (owned_of a b) (rounded_inputs a b)
  inputs_round = rounding_exists (owned_of a b) (owned_are_rings a b flat_a flat_b)

  pub inputs_in_order : AreCleanEdges (rounded_inputs a b)
  inputs_in_order = rounded_is_rounded (owned_of a b) (owned_are_rings a b flat_a flat_b) (rounded_inputs a b) inputs_round

  pub edges_tell : TellAnswer op (rounded_inputs a b)
  edges_tell =
      let h = inputs_in_order in record {
        places = operation_law (rounded_inputs a b) h.rounded h.clean h.lesser_first (answer op) (neither op);
        even = even_operation (rounded_inputs a b) h.rounded h.clean h.lesser_first (answer op) (neither op);
        rising = operation_rises (rounded_inputs a b) h.rounded (answer op);
      }

  lesser : AreUndirected edges
  lesser e m = inputs_in_order.lesser_first e (operation_among (rounded_inputs a b) (answer op) e (contains edges e m))

  pub edges_in_range : All (λ e. IsTrue (is_in_range e.0 && is_in_range e.1)) edges
  edges_in_range = λ k d lt.
      let e = get_or edges k d in
      let h = rounded_is_in_range (owned_of a b) (owned_are_rings a b flat_a flat_b) (rounded_inputs a b) inputs_round e
      (operation_among (rounded_inputs a b) (answer op) e (Contains-get_or edges k d lt)) in
      and_from (is_in_range e.0) (is_in_range e.1) h.0 h.1

  shapes_are_parts : AreParts (op_rings op a b) (shapes_of op a b)
  unfolding shapes_of
  shapes_are_parts = parts_exist (op_rings op a b)

  rings_linked : AreLinked edges [] (op_rings op a b)
  rings_linked = all_linked edges lesser edges_tell.even edges_tell.rising

  pub tell_places : TellPlaces op a b
  unfolding shapes_of
  tell_places = record {
    places = λ k x y scale.
        odd_by_parts (op_rings op a b) (shapes_of op a b) shapes_are_parts k x y scale
        ∙ rings_odd edges (op_rings op a b) (all_rings edges lesser edges_tell.even) lesser k x y
        ∙ edges_tell.places k x y scale;
    once = λ test.
        parts_have_edges test (op_rings op a b)
        ∙ rings_count test edges (op_rings op a b) (all_rings edges lesser edges_tell.even) lesser;
  }

  pub are_determined : AreDetermined op a b
  unfolding shapes_of
  are_determined = record {
    exist = record {
      inputs = rounded_inputs a b;
      rounded = inputs_round;
      rings = op_rings op a b;
      linked = rings_linked;
      parts = shapes_are_parts;
    };
    unique = λ shapes s.
        let same = rounding_is_computed (owned_of a b) (owned_are_rings a b flat_a flat_b) s.inputs s.rounded in
        let linked = subst (λ r. AreLinked (edges_of_op op r) [] s.rings) same s.linked in
        let rings = linked_once edges s.rings (op_rings op a b) linked rings_linked in
        parts_are_unique (op_rings op a b) shapes (shapes_of op a b) (subst (λ rs. AreParts rs shapes) rings s.parts) shapes_are_parts;
  }

pub shapes_tell_places : ShapesTellPlaces
shapes_tell_places = tell_places

pub shapes_are_determined : ShapesAreDetermined
shapes_are_determined = are_determined
