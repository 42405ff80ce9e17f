-- The edges that begin at a point: those that rise, and those that are level.
use Rattle.std.proofs.Common.{◌≡◌, ◌⊎◌, inl, inr, ⊎_elim, ℕ, ◌-◌, ◌<◌, ◌≤◌, true, false, List, ◌++◌, length, get_or}
use Rattle.std.proofs.Common.{Contains, ℤ, ◌<ℤ◌, refl, sym, ap, subst, ◌∙◌, arith}
use Rattle.std.specs.Prelude.{int_lt}
use Rattle.std.proofs.Math.ListN.{length-append}
use Rattle.std.proofs.lemmas.Bool.{cases_lt}
use Rattle.std.proofs.lemmas.List.{drop_at, get_or-append_right, get_or_append_left, get_or_default, take_at}
use Rattle.std.proofs.lemmas.List.Elements.{Contains-get_or}
use Rattle.lay_point.proofs.Signs.{below_or_same, linear}
use Rattle.lay_point.proofs.Tests.{lt_false, lt_true}
use Rattle.lay_point.specs.declared.point.Point.{Point}
use Rattle.lay_point.proofs.Members.{Has, contains, has, has-append}
use Rattle.snap_chains.specs.Rounded.{Owned}
use Rattle.face_rows.specs.Lines.{edge_at, nowhere}
use Rattle.face_rows.specs.Rows.{CrossesRow, crosses_row, upward}
use Rattle.face_rows.proofs.RowLemmas.{spans_of}
use Rattle.face_rows.proofs.UpwardLemmas.{up_rises}
use Rattle.face_sweep.specs.Points.{AreBegunAt, HasLow, IsLevelFrom}
use Rattle.face_sweep.specs.Stops.{BeginAt}
use Rattle.face_sweep.proofs.OrderLemmas.{crosses}
use Rattle.face_labels.specs.RowSides.{AreSplit}

pub begun_given : (r : Owned) (p : Point) (numbers : List ℕ) → BeginAt r p numbers → (n : ℕ) → Contains numbers n → n < length r.0
begun_given r p numbers h n found = ⊎_elim
    (λ (rises : Has h.begun n). (h.rising.row n (contains h.begun n rises)).0)
    (λ (level : Has h.level n). (h.levels n (contains h.level n level)).given)
    (has-append h.begun h.level n (has (h.begun ++ h.level) n (subst (λ ns. Contains ns n) h.joined found)))

-- an edge that begins at the point rises from it, or is level
pub rises_or_level : (r : Owned) (p : Point) (n : ℕ) → n < length r.0 → HasLow r p n → CrossesRow r.0 p.y n ⊎ IsLevelFrom r p n
rises_or_level r p n given low =
    let e = edge_at r n in
    let at : (upward e).0.y ≡ p.y = ap (λ (z : Point). z.y) low in
    let up = up_rises e in
    ⊎_elim
    (λ (less : p.y <ℤ (upward e).1.y).
    let so : crosses_row p.y e ≡ true = crosses p.y e (omega (arith, linear, at)) less in
    inl (given, λ d. subst (λ f. crosses_row p.y f ≡ true) (get_or_default r.0 n nowhere d given) so))
    (λ (same : p.y ≡ (upward e).1.y). inr (record { given = given; begins = low; level = sym same }))
    (below_or_same p.y (upward e).1.y (omega (arith, linear, at, up)))

-- where the first level one stands
module _ (r : Owned) (p : Point) (begun level : List ℕ) (rising : AreBegunAt r p begun)
    (levels : (n : ℕ) → Contains level n → IsLevelFrom r p n) (all_levels : (n : ℕ) → IsLevelFrom r p n → Contains level n) where
  abbrev high_at : ℕ → ℤ
  high_at k = (upward (edge_at r (get_or (begun ++ level) k 0))).1.y

  rises : (k : ℕ) → k < length begun → int_lt p.y (high_at k) ≡ false → ⊥
  rises k less f =
      let cross = rising.row (get_or begun k 0) (Contains-get_or begun k 0 less) in
      let s = spans_of p.y (edge_at r (get_or begun k 0)) (cross.1 nowhere) in
      let same : high_at k ≡ (upward (edge_at r (get_or begun k 0))).1.y =
      ap (λ n. (upward (edge_at r n)).1.y) (get_or_append_left begun level 0 k less) in
      let low = lt_false p.y (high_at k) f in
      omega (arith, linear, s.high, same, low)

  first_level : length begun < length (begun ++ level) → int_lt p.y (high_at (length begun)) ≡ true → ⊥
  first_level less t =
      let some : 0 < length level = omega (arith, length-append begun level) in
      let none : length begun - length begun ≡ 0 = omega arith in
      let same : high_at (length begun) ≡ (upward (edge_at r (get_or level 0 0))).1.y =
      ap (λ n. (upward (edge_at r n)).1.y)
      (get_or-append_right begun level (length begun) (length begun) 0 refl (omega arith) ∙ ap (λ k. get_or level k 0) none) in
      let is = (levels (get_or level 0 0) (Contains-get_or level 0 0 some)).level in
      let high = lt_true p.y (high_at (length begun)) t in
      omega (arith, linear, same, is, high)

  pub split : (index : ℕ) → index ≤ length (begun ++ level) → ((k : ℕ) → k < index → int_lt p.y (high_at k) ≡ true)
      → (index < length (begun ++ level) → int_lt p.y (high_at index) ≡ false) → AreSplit r p (begun ++ level) index
  split index bound before here =
      let at : length begun ≡ index = ⊎_elim
      (λ (less : index < length begun). absurd (rises index less (here (omega (arith, length-append begun level)))))
      (λ (ge : length begun ≤ index). ⊎_elim
      (λ (more : length begun < index). absurd (first_level (omega arith) (before (length begun) more)))
      (λ (le : index ≤ length begun). omega arith)
      (cases_lt (length begun) index))
      (cases_lt index (length begun)) in
      record {
        bound = bound;
        begun = subst (AreBegunAt r p) (sym (take_at begun level index at)) rising;
        levels = λ n found. levels n (subst (λ ns. Contains ns n) (drop_at begun level index at) found);
        all_levels = λ n is. subst (λ ns. Contains ns n) (sym (drop_at begun level index at)) (all_levels n is);
      }

pub split_here : (r : Owned) (p : Point) (numbers : List ℕ) (index : ℕ) → BeginAt r p numbers → index ≤ length numbers
    → ((k : ℕ) → k < index → int_lt p.y (upward (edge_at r (get_or numbers k 0))).1.y ≡ true)
    → (index < length numbers → int_lt p.y (upward (edge_at r (get_or numbers index 0))).1.y ≡ false) → AreSplit r p numbers index
split_here r p numbers index h bound before here =
    subst (λ ns. AreSplit r p ns index) (sym h.joined)
    (split r p h.begun h.level h.rising h.levels h.all_levels index (subst (λ ns. index ≤ length ns) h.joined bound)
    (subst (λ ns. (k : ℕ) → k < index → int_lt p.y (upward (edge_at r (get_or ns k 0))).1.y ≡ true) h.joined before)
    (subst (λ ns. index < length ns → int_lt p.y (upward (edge_at r (get_or ns index 0))).1.y ≡ false) h.joined here))
