-- The group of edges that ends at a point.
use Rattle.std.proofs.Common.{◌≡◌, inl, inr, ⊎_elim, ℕ, ◌<◌, ◌≤◌, Bool, true, false, List}
use Rattle.std.proofs.Common.{◌++◌, length, get_or}
use Rattle.std.proofs.Common.{Contains, pos, ◌<ℤ◌, sym, subst, arith}
use Rattle.std.specs.Prelude.{slice_index}
use Rattle.std.proofs.lemmas.List.Elements.{Contains-get_or}
use Rattle.lay_point.specs.declared.point.Point.{Point}
use Rattle.lay_point.specs.Points.{point_eq}
use Rattle.lay_point.proofs.EdgeOrder.{points_decide}
use Rattle.lay_point.proofs.Members.{has, has-append}
use Rattle.lay_point.proofs.RingLemmas.{point_eq-true}
use Rattle.face_rows.specs.Lines.{edge_at}
use Rattle.snap_chains.specs.Rounded.{Owned}
use Rattle.face_rows.specs.Rows.{upward}
use Rattle.face_rows.specs.Sound.{AreSound}
use Rattle.face_sweep.specs.Points.{HasHigh, IsEndedGroup, IsPlaceAmong, IsStatus, IsEndPoint, distance_from}
use Rattle.face_sweep.proofs.StatusLemmas.{places_tell}

pub ends_by_test : (r : Owned) (p : Point) (n : ℕ) → point_eq (upward (edge_at r n)).1 p ≡ true → HasHigh r p n
ends_by_test r p n t = point_eq-true (upward (edge_at r n)).1 p t

pub status_given : (r : Owned) (p : Point) (numbers : List ℕ) → IsStatus r p numbers → (k : ℕ) → k < length numbers
    → get_or numbers k 0 < length r.0
status_given r p numbers s k less =
    let m = subst (λ ns. Contains ns (get_or numbers k 0)) s.joined (Contains-get_or numbers k 0 less) in
    elim (has-append s.below s.above (get_or numbers k 0) (has (s.below ++ s.above) (get_or numbers k 0) m)) [
      | inl f ↦ (s.row_below.members (get_or numbers k 0) (Rattle.lay_point.proofs.Members.contains s.below (get_or numbers k 0) f)).0
      | inr f ↦ (s.row_above.members (get_or numbers k 0) (Rattle.lay_point.proofs.Members.contains s.above (get_or numbers k 0) f)).0
    ]

pub group_here : (r : Owned) (p : Point) (numbers : List ℕ) (from to : ℕ) → AreSound r → IsEndPoint r p → IsStatus r p numbers
    → IsPlaceAmong r p numbers from → from ≤ to → to ≤ length numbers
    → ((k : ℕ) → from ≤ k → k < to → HasHigh r p (slice_index numbers k))
    → (to < length numbers → point_eq (upward (edge_at r (slice_index numbers to))).1 p ≡ false) → IsEndedGroup r p numbers from to
group_here r p numbers from to sound v s place order bound ends other =
    let t = places_tell r p numbers from sound v s place in
    record {
      order = order;
      bound = bound;
      left = t.left;
      ends = ends;
      right = λ k le less. t.neighbours to k le less (⊎_elim
          (λ (e : HasHigh r p (slice_index numbers to)). absurd (no_way (other (omega arith))
          (subst (λ w. point_eq w p ≡ true) (sym e) (points_decide.itself p))))
          (λ (far : pos 0 <ℤ distance_from r p (slice_index numbers to)). far)
          (t.from to order (omega arith)));
    }
  where
    no_way : {b : Bool} → b ≡ false → b ≡ true → ⊥
    no_way f t = absurd cc
