-- The laws of operations on layers of a layout, from those of flattenings and of shapes.
use Rattle.std.proofs.Common.{◌≡◌, ℕ, Bool, true, false, List, refl, sym, ap, subst, ◌∙◌}
use Rattle.std.specs.Prelude.{Result, Ok, Err, if◌then◌else◌}
use Rattle.std.specs.List.{AllByRecursion, list_any}
use Rattle.lay_point.specs.Parity.{odd}
use Rattle.lay_point.specs.RingEdges.{edges_of}
use Rattle.lay_cells.specs.declared.cell_id.CellId.{CellId}
use Rattle.lay_layouts.specs.Layout.{Layout}
use Rattle.lay_layouts.specs.Sound.{IsDrawn}
use Rattle.lay_flat.specs.declared.fault.FlatFault.{FlatFault}
use Rattle.lay_flat.specs.declared.fault.FlatFault.TheVariants.{TooMany}
use Rattle.lay_flat.specs.Flat.{FlatRing}
use Rattle.lay_flat.specs.Flattening.{flat_of, on_success}
use Rattle.lay_flat.proofs.Below.{same_flattening}
use Rattle.face_rows.specs.declared.op.Op.{Op}
use Rattle.bool_rules.specs.Shapes.{Rings, fits, shapes_of}
use Rattle.bool_rules.proofs.ShapeLemmas.{shapes_tell_places}
use Rattle.bool_rules.specs.Booleans.{bool_shapes, shapes_within}
use Rattle.bool_rules.specs.Laws.{BooleansAreDrawn, BooleansReadWhatIsBelow, BooleansTellPlaces}
use Rattle.bool_rules.proofs.DrawnShapes.{shapes_drawn}
use Rattle.bool_rules.proofs.Flats.{flattenings_are_flat}

pub booleans_read : BooleansReadWhatIsBelow
unfolding bool_shapes
booleans_read l m one other op cell a b first second =
    let same_a = same_flattening l m one other cell a first in
    let same_b = same_flattening l m one other cell b second in
    ap (λ r. on_success r (λ f. on_success (flat_of l cell b) (λ g. shapes_within op f g))) same_a
    ∙ ap (λ r. on_success (flat_of m cell a) (λ f. on_success r (λ g. shapes_within op f g))) same_b

-- the two flattenings of an operation that is accepted, and its shapes
record IsAccepted (layout : Layout) (op : Op) (cell : CellId) (a b : List ℕ) (shapes : List Rings) : Type 0 where
  first : List FlatRing
  second : List FlatRing
  first_flat : flat_of layout cell a ≡ Ok first
  second_flat : flat_of layout cell b ≡ Ok second
  within : fits op first second ≡ true
  are : shapes_of op first second ≡ shapes

accepted : (layout : Layout) (op : Op) (cell : CellId) (a b : List ℕ) (shapes : List Rings) → bool_shapes layout op cell a b ≡ Ok shapes →
    IsAccepted layout op cell a b shapes
unfolding bool_shapes
accepted layout op cell a b shapes h = by_first (flat_of layout cell a) (flat_of layout cell b) refl refl h where
  by_test : (first second : List FlatRing) (t : Bool) → fits op first second ≡ t → flat_of layout cell a ≡ Ok first →
      flat_of layout cell b ≡ Ok second → (if t then Ok (shapes_of op first second) else Err TooMany) ≡ Ok shapes →
      IsAccepted layout op cell a b shapes
  by_test first second true fit one other g =
      record { first = first; second = second; first_flat = one; second_flat = other; within = fit; are = cc }
  by_test first second false fit one other g = absurd (cc)

  by_second : (first : List FlatRing) (r : Result (List FlatRing) FlatFault) → flat_of layout cell a ≡ Ok first →
      flat_of layout cell b ≡ r → on_success r (λ second. shapes_within op first second) ≡ Ok shapes → IsAccepted layout op cell a b shapes
  by_second first (Ok second) one other g = by_test first second (fits op first second) refl one other g
  by_second first (Err fault) one other g = absurd (cc)

  by_first : (r s : Result (List FlatRing) FlatFault) → flat_of layout cell a ≡ r → flat_of layout cell b ≡ s →
      on_success r (λ first. on_success s (λ second. shapes_within op first second)) ≡ Ok shapes → IsAccepted layout op cell a b shapes
  by_first (Ok first) s one other g = by_second first s one other g
  by_first (Err fault) s one other g = absurd (cc)

pub booleans_tell : BooleansTellPlaces
booleans_tell layout sound op cell a b shapes h =
    let is = accepted layout op cell a b shapes h in
    let tell = shapes_tell_places op is.first is.second (flattenings_are_flat layout sound cell a is.first is.first_flat)
    (flattenings_are_flat layout sound cell b is.second is.second_flat) in
    record {
      first = is.first;
      second = is.second;
      first_flat = is.first_flat;
      second_flat = is.second_flat;
      places = λ k x y scale. ap (λ ss. list_any (λ shape. odd (edges_of shape) k x y) ss) (sym is.are) ∙ tell.places k x y scale;
    }

pub booleans_are_drawn : BooleansAreDrawn
booleans_are_drawn layout sound op cell a b shapes h =
    let is = accepted layout op cell a b shapes h in
    subst (AllByRecursion IsDrawn) is.are (shapes_drawn op is.first is.second
    (flattenings_are_flat layout sound cell a is.first is.first_flat)
    (flattenings_are_flat layout sound cell b is.second is.second_flat) is.within)
