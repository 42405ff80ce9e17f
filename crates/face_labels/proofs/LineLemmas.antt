-- The line of a sweep when it passes a stop.
use Rattle.std.proofs.Common.{◌≡◌, ⊎_elim, ℕ, ◌+◌, ◌-◌, ◌<◌, ◌≤◌, Bool, List, ◌++◌, length, get_or, take, drop, append_assoc}
use Rattle.std.proofs.Common.{Contains, pos, ◌≤ℤ◌, ◌<ℤ◌, refl, sym, ap, subst, ◌∙◌, arith}
use Rattle.std.specs.Prelude.{All, slice_range}
use Rattle.std.proofs.Math.ListN.{take-append-drop}
use Rattle.std.proofs.lemmas.Bool.{cases_lt}
use Rattle.std.proofs.lemmas.List.{
  drop-drop,
  drop_at,
  get_or-drop,
  get_or_append_left,
  get_or_default,
  length-drop,
  length-take-le,
  take_at,
}
use Rattle.lay_point.proofs.Signs.{linear}
use Rattle.lay_point.specs.declared.point.Point.{Point}
use Rattle.lay_point.proofs.Members.{Has, contains, has, has-append}
use Rattle.lay_point.proofs.ListLaws.{has_get}
use Rattle.snap_chains.specs.declared.owner.Owner.{Owner}
use Rattle.snap_chains.specs.Rounded.{Owned}
use Rattle.face_rows.specs.Rows.{CrossesRow}
use Rattle.face_rows.specs.Sound.{AreSound}
use Rattle.face_rows.specs.declared.op.Op.{Op}
use Rattle.face_sweep.specs.declared.counts.LeftCounts.{LeftCounts}
use Rattle.face_sweep.specs.declared.stops.Stop.{Stop}
use Rattle.face_sweep.specs.declared.stops.Stops.{Stops}
use Rattle.face_sweep.specs.OwnRows.{IsCutAt, own_edge, own_of}
use Rattle.face_sweep.specs.Points.{AreBegunAt, HasHigh, HasLow, IsEndedGroup, IsLevelFrom, IsPassed, IsStatus, distance_from}
use Rattle.face_sweep.specs.Sides.{AreBehind, AreLefts, holds_beside, is_odd_in}
use Rattle.face_sweep.specs.Stops.{AreStops}
use Rattle.face_sweep.proofs.PassLemmas.{has_back, has_front}
use Rattle.face_sweep.proofs.OwnLemmas.{own_append}
use Rattle.face_sweep.proofs.PointLemmas.{begins_none, ends_none}
use Rattle.face_sweep.proofs.GroupLemmas.{status_given}
use Rattle.face_sweep.proofs.StateLemmas.{lefts_drop, lefts_joined, lefts_take, split_at}
use Rattle.face_sweep.proofs.SweepLemmas.{is_end}
use Rattle.face_labels.specs.RowSides.{AreSplit, HasLabel, IsSweepStop}
use Rattle.face_labels.proofs.BegunLemmas.{rises_or_level}

pub all_in : (P : ℕ → Type 0) (xs : List ℕ) → ((n : ℕ) → Contains xs n → P n) → All P xs
all_in P xs f k d less = f (get_or xs k d) (contains xs (get_or xs k d) (has_get xs k d less))

pub in_all : (P : ℕ → Type 0) (xs : List ℕ) (n : ℕ) → All P xs → Contains xs n → P n
in_all P xs n all m = subst P m.2 (all m.0 n m.1)

among_back : (xs : List ℕ) (to n : ℕ) → Contains (drop to xs) n → Contains xs n
among_back xs to n found = let b = has_back xs to n found in (b.0, b.2, get_or_default xs b.0 n 0 b.2 ∙ b.3)

-- ---- the edges of a row
-- those behind an edge of the row tell what holds beside it
module _ (r : Owned) (numbers : List ℕ) (from : ℕ) (h : AreBehind r (drop from numbers)) where
  pub beside_at : (k : ℕ) → from ≤ k → k < length numbers → (o : Owner)
      → is_odd_in r (drop (k + 1) numbers) o ≡ holds_beside r (get_or numbers k 0) o
  beside_at k le less o =
      let i = k - from in
      let there : from + i ≡ k = omega arith in
      let next : from + (i + 1) ≡ k + 1 = omega arith in
      ap (λ j. is_odd_in r (drop j numbers) o) (sym next)
      ∙ ap (λ l. is_odd_in r l o) (sym (drop-drop (i + 1) from numbers))
      ∙ h i (omega (arith, length-drop from numbers)) o
      ∙ ap (λ n. holds_beside r n o) (get_or-drop from numbers i 0 ∙ ap (λ j. get_or numbers j 0) there)

-- ---- the list once the group is replaced
module _ (old new begun : List ℕ) (from to : ℕ) (order : from ≤ to) (bound : to ≤ length old)
    (is : new ≡ take from old ++ begun ++ drop to old) where
  long : length (take from old) ≡ from
  long = length-take-le from old (omega arith)

  joined : new ≡ take from old ++ (begun ++ drop to old)
  joined = is ∙ append_assoc (take from old) begun (drop to old)

  pub new_front : take from new ≡ take from old
  new_front = ap (take from) joined ∙ take_at (take from old) (begun ++ drop to old) from long

  pub new_back : drop from new ≡ begun ++ drop to old
  new_back = ap (drop from) joined ∙ drop_at (take from old) (begun ++ drop to old) from long

  pub new_rest : drop (from + length begun) new ≡ drop to old
  new_rest = sym (drop-drop (length begun) from new) ∙ ap (drop (length begun)) new_back
      ∙ drop_at begun (drop to old) (length begun) refl

  pub new_range : slice_range new from (from + length begun) ≡ begun
  new_range =
      let count : (from + length begun) - from ≡ length begun = omega arith in
      ap (λ k. take k (drop from new)) count ∙ ap (take (length begun)) new_back ∙ take_at begun (drop to old) (length begun) refl

  pub new_at : (k : ℕ) → k < length begun → get_or new (from + k) 0 ≡ get_or begun k 0
  new_at k less = sym (get_or-drop from new k 0) ∙ ap (λ l. get_or l k 0) new_back ∙ get_or_append_left begun (drop to old) 0 k less

-- ---- where they are beside the point
module _ (r : Owned) (p : Point) (numbers : List ℕ) (from to : ℕ) (sound : AreSound r) (h : IsEndedGroup r p numbers from to) where
  front_left : (n : ℕ) → Contains (take from numbers) n → distance_from r p n <ℤ pos 0
  front_left n found =
      let f = has_front numbers from n (omega (arith, h.order, h.bound)) found in
      subst (λ j. distance_from r p j <ℤ pos 0) f.2 (h.left f.0 f.1)

  back_right : (n : ℕ) → Contains (drop to numbers) n → pos 0 ≤ℤ distance_from r p n
  back_right n found =
      let b = has_back numbers to n found in
      let far = subst (λ j. pos 0 <ℤ distance_from r p j) b.3 (h.right b.0 b.1 b.2) in
      omega (arith, linear, far)

  group_right : (n : ℕ) → Contains (drop from numbers) n → pos 0 ≤ℤ distance_from r p n
  group_right n found =
      let b = has_back numbers from n found in
      ⊎_elim
      (λ (ends : b.0 < to).
      let none = ends_none r sound p n (subst (HasHigh r p) b.3 (h.ends b.0 b.1 ends)) in
      omega (arith, linear, none))
      (λ (right : to ≤ b.0).
      let far = subst (λ j. pos 0 <ℤ distance_from r p j) b.3 (h.right b.0 right b.2) in
      omega (arith, linear, far))
      (cases_lt b.0 to)

  pub group_cut : IsCutAt r p (drop from numbers) (take from numbers)
  group_cut = record { not_left = group_right; are_left = front_left }

  pub rest_cut : IsCutAt r p (drop to numbers) (take from numbers)
  rest_cut = record { not_left = back_right; are_left = front_left }

  pub begun_cut : (begun : List ℕ) → AreBegunAt r p begun → IsCutAt r p (begun ++ drop to numbers) (take from numbers)
  begun_cut begun b = record {
    not_left = λ n found. ⊎_elim
        (λ (rises : Has begun n).
        let none = begins_none r sound p n (b.at n (contains begun n rises)) in
        omega (arith, linear, none))
        (λ (back : Has (drop to numbers) n). back_right n (contains (drop to numbers) n back))
        (has-append begun (drop to numbers) n (has (begun ++ drop to numbers) n found));
    are_left = front_left;
  }

-- those of a later part are of the whole
pub cut_later : (r : Owned) (p : Point) (numbers left : List ℕ) (from k : ℕ) → from ≤ k → IsCutAt r p (drop from numbers) left
    → IsCutAt r p (drop k numbers) left
cut_later r p numbers left from k le h = record {
  not_left = λ n found. h.not_left n (later n found);
  are_left = h.are_left;
}
  where
    later : (n : ℕ) → Contains (drop k numbers) n → Contains (drop from numbers) n
    later n found =
        let there : from + (k - from) ≡ k = omega arith in
        among_back (drop from numbers) (k - from) n
        (subst (λ l. Contains l n) (sym (drop-drop (k - from) from numbers ∙ ap (λ j. drop j numbers) there)) found)

pub passed_given : (r : Owned) (p : Point) (numbers : List ℕ) → IsPassed r p numbers → All (λ n. n < length r.0) numbers
passed_given r p numbers s = all_in (λ n. n < length r.0) numbers (λ n found. ⊎_elim
    (λ (below : Has s.below n). (s.row_below.members n (contains s.below n below)).0)
    (λ (above : Has s.above n). (s.row_above.members n (contains s.above n above)).0)
    (has-append s.below s.above n (has (s.below ++ s.above) n (subst (λ l. Contains l n) s.joined found))))

pub all_given : (r : Owned) (p : Point) (numbers : List ℕ) → IsStatus r p numbers → All (λ n. n < length r.0) numbers
all_given r p numbers s k d less =
    subst (λ m. m < length r.0) (get_or_default numbers k 0 d less) (status_given r p numbers s k less)

-- ---- the edges of single shapes
-- those of an edge and of those behind it
pub own_split : (r : Owned) (o : Owner) (numbers : List ℕ) (i : ℕ) → i < length numbers
    → own_of r o (drop (i + 1) numbers) ++ own_edge r o (get_or numbers i 0) ≡ own_of r o (drop i numbers)
own_split r o numbers i less = sym (ap (own_of r o) (split_at numbers i less))

pub own_joined : (r : Owned) (o : Owner) (numbers : List ℕ) (from : ℕ)
    → own_of r o (drop from numbers) ++ own_of r o (take from numbers) ≡ own_of r o numbers
own_joined r o numbers from =
    sym (own_append r o (take from numbers) (drop from numbers)) ∙ ap (own_of r o) (take-append-drop from numbers)

-- ---- what is kept beside the edges
-- once the group is replaced
pub lefts_replaced : (r : Owned) (old new begun : List ℕ) (was now found : List LeftCounts) (from to : ℕ)
    → new ≡ take from old ++ begun ++ drop to old → now ≡ take from was ++ found ++ drop to was
    → AreLefts r old was → AreLefts r begun found → AreLefts r new now
lefts_replaced r old new begun was now found from to is kept_is kept begun_is =
    coe 1 0 (i. AreLefts r (is i) (kept_is i))
    (lefts_joined r (take from old ++ begun) (drop to old) (take from was ++ found) (drop to was)
    (lefts_joined r (take from old) begun (take from was) found (lefts_take r from old was kept) begun_is)
    (lefts_drop r to old was kept))

-- ---- the labels of the edges that begin at a point
pub begun_labels : (r : Owned) (op : Op) (p : Point) (numbers : List ℕ) (index : ℕ) (first last : List Bool) → AreSplit r p numbers index
    → All (HasLabel op r first) (drop index numbers) → ((n : ℕ) → HasLabel op r first n → HasLabel op r last n)
    → All (HasLabel op r last) (take index numbers) → (n : ℕ) → n < length r.0 → HasLow r p n → HasLabel op r last n
begun_labels r op p numbers index first last h levels kept begun n given low = ⊎_elim
    (λ (rises : CrossesRow r.0 p.y n). in_all (HasLabel op r last) (take index numbers) n begun (h.begun.all n rises low))
    (λ (level : IsLevelFrom r p n). kept n (in_all (HasLabel op r first) (drop index numbers) n levels (h.all_levels n level)))
    (rises_or_level r p n given low)

-- ---- the stops
pub stop_is : (r : Owned) (stops : Stops) → AreStops r stops → (k : ℕ) (d : Stop) → k < length stops.list.items
    → IsSweepStop r stops (get_or stops.list.items k d)
stop_is r stops h k d less =
    record { end = is_end r stops h d k less; order = h.order k d less; bound = h.bound k d less; begun = h.begun k d less }
