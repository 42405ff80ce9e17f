-- The shapes of an operation are drawn by rings, where they keep the limits.
use Rattle.std.proofs.Common.{◌≡◌, ℕ, zero, suc, ◌<◌, ◌≤◌, Bool, true, false, List, [], ◌∷◌, length, All, refl, sym, subst, arith}
use Rattle.std.specs.Prelude.{◌&&◌, ◌==◌, IsTrue, if◌then◌else◌, nat_le, slice_index}
use Rattle.std.specs.List.{AllByRecursion, list_all}
use Rattle.std.proofs.lemmas.Bool.{and_parts}
use Rattle.std.proofs.lemmas.Bool.Decides.{nat_tests}
use Rattle.std.proofs.lemmas.List.Elements.{All-from_recursion, recursion_from_All}
use Rattle.lay_point.specs.declared.point.Point.{Point}
use Rattle.lay_point.specs.declared.ring.TheConstants.{MAX_RING_POINTS}
use Rattle.lay_point.specs.Bridges.{bridged}
use Rattle.lay_point.specs.Points.{is_in_range}
use Rattle.lay_point.specs.Rings.{IsRing}
use Rattle.lay_point.proofs.Members.{Has, contains}
use Rattle.lay_point.proofs.ListLaws.{all_has}
use Rattle.lay_layouts.specs.Sound.{IsDrawn}
use Rattle.lay_flat.specs.Flat.{FlatRing, IsFlat}
use Rattle.face_rows.proofs.UpwardLemmas.{operation_among}
use Rattle.face_rows.specs.declared.op.Op.{Op}
use Rattle.face_rows.specs.Operations.{answer, edges_of_op}
use Rattle.face_ring_laws.proofs.CountLemmas.{AreUndirected}
use Rattle.face_ring_laws.proofs.RingLaws.{AreSound, ring_from_sound}
use Rattle.face_ring_laws.proofs.StepLemmas.{all_sound}
use Rattle.face_ring_laws.specs.Parts.{AreParts, with_label}
use Rattle.snap_laws.proofs.InRange.{rounded_is_in_range}
use Rattle.bool_rules.specs.Shapes.{Rings, fits, is_short, max_segments, op_rings, owned_of, rounded_inputs, segments_of, shapes_of}
use Rattle.bool_rules.proofs.LabelLemmas.{parts_exist}
use Rattle.bool_rules.proofs.ShapeLemmas.{edges_tell, inputs_in_order, inputs_round}
use Rattle.bool_rules.proofs.TurningLemmas.{owned_are_rings}
use Rattle.bool_rules.proofs.Everywhere.{tested_each}

-- of rings with a label each are rings
labelled_rings : (p : ℕ) (labels : List ℕ) (rings : Rings) → AllByRecursion IsRing rings → AllByRecursion IsRing (with_label p labels rings)
labelled_rings p [] rings all = tt
labelled_rings p (l ∷ labels) [] all = tt
labelled_rings p (l ∷ labels) (ring ∷ rings) all = by_test (l == p) (labelled_rings p labels rings all.1) where
  by_test : (t : Bool) → AllByRecursion IsRing (with_label p labels rings)
      → AllByRecursion IsRing (if t then ring ∷ with_label p labels rings else with_label p labels rings)
  by_test true rest = (all.0, rest)
  by_test false rest = rest

-- and there is one where a label is used
labelled_some : (p : ℕ) (labels : List ℕ) (rings : Rings) (j : ℕ) → j < length rings → length labels ≡ length rings →
    slice_index labels j ≡ p →
    1 ≤ length (with_label p labels rings)
labelled_some p [] [] j inside each is = absurd (omega (arith, inside))
labelled_some p [] (ring ∷ rings) j inside each is = absurd (omega (arith, each))
labelled_some p (l ∷ labels) [] j inside each is = absurd (omega (arith, inside))
labelled_some p (l ∷ labels) (ring ∷ rings) zero inside each is =
    let same : (l == p) ≡ true = grind (arith, nat_tests, is) in
    subst (λ t. 1 ≤ length (if t then ring ∷ with_label p labels rings else with_label p labels rings)) (sym same) (omega arith)
labelled_some p (l ∷ labels) (ring ∷ rings) (suc j) inside each is =
    by_test (l == p) (labelled_some p labels rings j (omega (arith, inside)) (omega (arith, each)) is) where
      by_test : (t : Bool) → 1 ≤ length (with_label p labels rings)
          → 1 ≤ length (if t then ring ∷ with_label p labels rings else with_label p labels rings)
      by_test true some = omega arith
      by_test false some = some

sound_rings : (rings : Rings) → AreSound rings → AllByRecursion (λ r. is_short r ≡ true) rings → AllByRecursion IsRing rings
sound_rings [] sound short = tt
sound_rings (ring ∷ rings) sound short =
    (ring_from_sound ring sound.0 (within ring short.0), sound_rings rings sound.1 short.1) where
      within : (r : List Point) → is_short r ≡ true → length r ≤ MAX_RING_POINTS
      within r h = grind (arith, nat_tests, h)

-- a part is drawn by its rings
drawn_each : (rings : Rings) (parts : List Rings) → AreParts rings parts → AllByRecursion IsRing rings
    → AllByRecursion (λ shape. is_short (bridged shape) ≡ true) parts → All IsDrawn parts
drawn_each rings parts are each short k d inside =
    let labels = are.0 in
    let same = are.1.rings_of_part k d inside in
    let used = are.1.used k inside in
    let path = All-from_recursion (λ shape. is_short (bridged shape) ≡ true) parts short k d inside in
    record {
      some = subst (λ s. 1 ≤ length s) (sym same) (labelled_some k labels rings used.0 used.1 are.1.each used.2);
      each = subst (AllByRecursion IsRing) (sym same) (labelled_rings k labels rings each);
      short = grind (arith, nat_tests, path);
    }

module _ (op : Op) (a b : List FlatRing) (flat_a : All IsFlat a) (flat_b : All IsFlat b) where
  abbrev edges : List (Point × Point)
  edges = edges_of_op op (rounded_inputs a b)

  lesser : AreUndirected edges
  lesser e m = (inputs_in_order op a b flat_a flat_b).lesser_first e (operation_among (rounded_inputs a b)
      (answer op) e (contains edges e m))

  in_range : AllByRecursion (λ e. IsTrue (is_in_range e.0 && is_in_range e.1)) edges
  in_range = all_has (λ e. IsTrue (is_in_range e.0 && is_in_range e.1)) edges ends where
    ends : (e : Point × Point) → Has edges e → IsTrue (is_in_range e.0 && is_in_range e.1)
    ends e m =
        let is = rounded_is_in_range (owned_of a b) (owned_are_rings a b flat_a flat_b) (rounded_inputs a b)
        (inputs_round op a b flat_a flat_b) e
        (operation_among (rounded_inputs a b) (answer op) e (contains edges e m)) in
        rw (is.0, is.1) refl

  rings_sound : AreSound (op_rings op a b)
  rings_sound =
      let tell = edges_tell op a b flat_a flat_b in
      all_sound edges lesser tell.even tell.rising (All-from_recursion (λ e. IsTrue (is_in_range e.0 && is_in_range e.1)) edges in_range)

  short_rings : fits op a b ≡ true → AllByRecursion (λ r. is_short r ≡ true) (op_rings op a b)
  unfolding fits
  short_rings h = tested_each is_short (op_rings op a b) (and_parts (nat_le (segments_of a b) max_segments)
      (list_all is_short (op_rings op a b))
      (and_parts (nat_le (segments_of a b) max_segments && list_all is_short (op_rings op a b))
      (list_all (λ shape. is_short (bridged shape)) (shapes_of op a b)) h).0).1

  short_paths : fits op a b ≡ true → AllByRecursion (λ shape. is_short (bridged shape) ≡ true) (shapes_of op a b)
  unfolding fits
  short_paths h = tested_each (λ shape. is_short (bridged shape)) (shapes_of op a b)
      (and_parts (nat_le (segments_of a b) max_segments && list_all is_short (op_rings op a b))
      (list_all (λ shape. is_short (bridged shape)) (shapes_of op a b)) h).1

  shapes_are_parts : AreParts (op_rings op a b) (shapes_of op a b)
  unfolding shapes_of
  shapes_are_parts = parts_exist (op_rings op a b)

  pub shapes_drawn : fits op a b ≡ true → AllByRecursion IsDrawn (shapes_of op a b)
  shapes_drawn h =
      recursion_from_All IsDrawn (shapes_of op a b)
      (drawn_each (op_rings op a b)
      (shapes_of op a b) shapes_are_parts (sound_rings (op_rings op a b) rings_sound (short_rings h)) (short_paths h))
