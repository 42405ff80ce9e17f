-- Where the shapes are that an accepted operation leaves: by their rings, and by the paths that are written for them.
use Rattle.std.proofs.Common.{◌≡◌, ℤ, ◌||◌, List, [], ◌∷◌, refl, ap, ◌∙◌, append-nil, arith}
use Rattle.std.specs.List.{AllByRecursion, list_any}
use Rattle.lay_point.specs.declared.point.Point.{Point}
use Rattle.lay_point.specs.Bridges.{bridged}
use Rattle.lay_point.specs.Parity.{odd}
use Rattle.lay_point.specs.RingEdges.{edges_of, edges_of_ring}
use Rattle.lay_layouts.specs.Lent.{LentShape}
use Rattle.lay_layouts.specs.Sound.{IsDrawn}
use Rattle.face_rings.proofs.BridgeParity.{odd-bridged}
use Rattle.bool_rules.specs.Shapes.{Rings}
use Rattle.bool_rules.proofs.BooleanLaws.{booleans_are_drawn, booleans_tell}
use Rattle.txn_commands.specs.Effects.{next_id}
use Rattle.undo_laws.specs.Laws.{BooleansHoldWhereAsked, is_inside_path, is_inside_some}
use Rattle.undo_laws.proofs.Numbered.{any-numbered}
use Rattle.undo_laws.proofs.Replacing.{shapes_replaced}

-- the path of a shape's rings has their parity
same_parity : (rings : List (List Point)) → IsDrawn rings → (k x y : ℤ) →
    odd (edges_of (bridged rings ∷ [])) k x y ≡ odd (edges_of rings) k x y
same_parity [] drawn k x y = absurd (omega (arith, drawn.some))
same_parity (ring ∷ rings) drawn k x y =
    ap (λ es. odd es k x y) (append-nil (edges_of_ring (bridged (ring ∷ rings)))) ∙ odd-bridged ring rings drawn.each.0 k x y

paths_alike : (shapes : List Rings) → AllByRecursion IsDrawn shapes → (k x y : ℤ) →
    list_any (λ rings. odd (edges_of (bridged rings ∷ [])) k x y) shapes ≡ list_any (λ rings. odd (edges_of rings) k x y) shapes
paths_alike [] drawn k x y = refl
paths_alike (rings ∷ shapes) drawn k x y =
    (λ i. same_parity rings drawn.0 k x y i || paths_alike shapes drawn.1 k x y i)

pub places_told : BooleansHoldWhereAsked
places_told txn run op cell a b out next sound h =
    let is = shapes_replaced txn run op cell a b out next h in
    let shapes = is.0 in
    let new = next_id txn run in
    let tell = booleans_tell run.layout sound op cell a b shapes is.1 in
    let drawn = booleans_are_drawn run.layout sound op cell a b shapes is.1 in
    record {
      first = tell.first;
      second = tell.second;
      first_flat = tell.first_flat;
      second_flat = tell.second_flat;
      places = λ k x y scale. ap (λ (ss : List LentShape). is_inside_some ss k x y) is.2
          ∙ any-numbered (λ rings. odd (edges_of rings) k x y) new shapes ∙ tell.places k x y scale;
      paths = λ k x y scale. ap (λ (ss : List LentShape). is_inside_path ss k x y) is.2
          ∙ any-numbered (λ rings. odd (edges_of (bridged rings ∷ [])) k x y) new shapes ∙ paths_alike shapes drawn k x y
          ∙ tell.places k x y scale;
    }
