-- Edges with their owners: an item's edge is one of the edges, and items of rising edges are distinct.
use Rattle.std.proofs.Common.{inl, inr, List, [], ◌∷◌, sym, ap, subst}
use Rattle.std.specs.List.{zip}
use Rattle.lay_point.specs.declared.point.Point.{Point}
use Rattle.lay_point.specs.Edges.{IsEdgeBefore}
use Rattle.lay_point.specs.Rising.{IsRising}
use Rattle.lay_point.proofs.EdgeOrder.{edges_are_strict}
use Rattle.lay_point.proofs.Members.{Has}
use Rattle.lay_point.proofs.Rising.{before_rest, rising_rest}
use Rattle.snap_chains.specs.declared.owner.Owner.{Owner}
use Rattle.face_rows.specs.Labels.{Item}
use Rattle.face_rows.proofs.Cuts.{AreDistinct}

pub zip_first : (es : List (Point × Point)) (os : List (List Owner)) (p : Item) → Has (zip es os) p → Has es p.0
zip_first [] os p m = absurd m
zip_first (e ∷ es) [] p m = absurd m
zip_first (e ∷ es) (o ∷ os) p (inl same) = inl (ap (λ (q : Item). q.0) same)
zip_first (e ∷ es) (o ∷ os) p (inr m) = inr (zip_first es os p m)

pub distinct_zip : (es : List (Point × Point)) (os : List (List Owner)) → IsRising IsEdgeBefore es → AreDistinct (zip es os)
distinct_zip [] os h = tt
distinct_zip (e ∷ es) [] h = tt
distinct_zip (e ∷ es) (o ∷ os) h = (
  (λ q m same. edges_are_strict.irreflexive e
      (subst (IsEdgeBefore e) (sym same) (before_rest IsEdgeBefore edges_are_strict e es q.0 h (zip_first es os q m)))),
  distinct_zip es os (rising_rest IsEdgeBefore e es h),
)
