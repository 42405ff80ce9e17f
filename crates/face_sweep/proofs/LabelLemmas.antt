-- An edge's label, from the shapes that hold on its sides; and those of all edges of a row.
use Rattle.std.proofs.Common.{◌≡◌, inl, inr, ℕ, zero, suc, ◌<◌, Bool, true, false, ◌&&◌, List, [], ◌∷◌}
use Rattle.std.proofs.Common.{◌+◌, ℤ, pos, ◌+ℤ◌, ◌<ℤ◌, length, get_or, refl, sym, subst, ◌∙◌, arith}
use Rattle.std.specs.Prelude.{int_lt}
use Rattle.std.proofs.lemmas.Int.{ints}
use Rattle.std.proofs.lemmas.List.{get_or_default}
use Rattle.lay_point.proofs.Signs.{linear}
use Rattle.face_side_laws.proofs.Rows.{row_distance, row_inside, row_k, row_place, row_x, row_y}
use Rattle.std.specs.List.{zip}
use Rattle.lay_point.specs.declared.point.Point.{Point}
use Rattle.lay_point.specs.Parity.{xor, parity, distance_right, is_crossed}
use Rattle.lay_point.proofs.Members.{Has, contains, has-append_left, has-append_right}
use Rattle.lay_point.proofs.ListLaws.{before_by_number, has_get}
use Rattle.snap_chains.specs.declared.owner.Owner.{Owner}
use Rattle.snap_chains.specs.Rounded.{Owned, is_owner_listed}
use Rattle.snap_chains.proofs.RoundLemmas.{listed_has}
use Rattle.face_rows.specs.Labels.{Item, differs, listed_shapes, owned_items}
use Rattle.face_rows.specs.declared.op.Op.{Op}
use Rattle.face_sweep.specs.declared.sides.Sides.{Sides}
use Rattle.face_rows.specs.Lines.{edge_at, nowhere, owned_item_at, owners_at}
use Rattle.face_rows.specs.Operations.{answer}
use Rattle.face_rows.specs.Rows.{AreRowEdges, upward}
use Rattle.face_sweep.specs.Sides.{AreBehind, AreSidesOf, IsDifference, holds_beside}
use Rattle.face_rows.specs.Sound.{AreSound}
use Rattle.face_rows.proofs.JudgeLemmas.{IsBeforeIn, before_rising, before_strict, is_right, odd_behind}
use Rattle.face_rows.proofs.RowLemmas.{spans_of}
use Rattle.face_rows.proofs.SideLemmas.{crossed_beside}
use Rattle.face_rows.proofs.Shapes.{shapes_have}

-- a shape of which there is an odd number of edges is listed
odd_shape : (f : Item → Bool) (o : Owner) (items : List Item) → parity (λ p. is_owner_listed o p.1 && f p) items ≡ true
    → Has (listed_shapes items) o
odd_shape f o [] e = absurd cc
odd_shape f o (p ∷ ps) e = by_test (is_owner_listed o p.1) refl e (λ g. odd_shape f o ps g)
  where
    by_test : (b : Bool) → is_owner_listed o p.1 ≡ b → xor (b && f p) (parity (λ q. is_owner_listed o q.1 && f q) ps) ≡ true
        → (parity (λ q. is_owner_listed o q.1 && f q) ps ≡ true → Has (listed_shapes ps) o) → Has (listed_shapes (p ∷ ps)) o
    by_test true t g further = has-append_left p.1 (listed_shapes ps) o (listed_has o p.1 t)
    by_test false t g further = has-append_right p.1 (listed_shapes ps) o (further g)

pub zip_at : (es : List (Point × Point)) (os : List (List Owner)) (n : ℕ) → length os ≡ length es → n < length es
    → Has (zip es os) (get_or es n nowhere, get_or os n [])
zip_at [] os n count less = absurd (omega arith)
zip_at (e ∷ es) [] n count less = absurd (omega arith)
zip_at (e ∷ es) (o ∷ os) zero count less = inl refl
zip_at (e ∷ es) (o ∷ os) (suc n) count less = inr (zip_at es os n (omega arith) (omega arith))

-- the label, from what holds on the edge's sides
pub label_beside : (op : Op) (r : Owned) (n : ℕ) → AreSound r → n < length r.0 → (sides : Sides)
    → AreSidesOf (owners_at r n) (holds_beside r n) sides
    → (result : Bool) → IsDifference op sides result → result ≡ differs (answer op) (owned_items r) (owned_item_at r n)
unfolding differs
label_beside op r n sound given sides own result is =
    let e = edge_at r n in
    let items = owned_items r in
    let owners = owners_at r n in
    let there = zip_at r.0 r.1 n sound.paired given in
    is (holds_beside r n) owners (listed_shapes items) own
    (λ o t. contains (listed_shapes items) o (odd_shape (λ p. is_crossed (pos 2) (e.0.x +ℤ e.1.x) (e.0.y +ℤ e.1.y) p.0) o items t))
    (λ o m. contains (listed_shapes items) o (shapes_have items (owned_item_at r n) o there (listed_has o owners m)))

-- ---- all edges of a row
-- what those behind an edge of a row tell is what holds beside it
pub row_behind : (r : Owned) → AreSound r → (row : ℤ) (numbers : List ℕ) → AreRowEdges r.0 row numbers → AreBehind r numbers
row_behind r sound row numbers edges i less o =
    let n = get_or numbers i 0 in
    let e = edge_at r n in
    let u = upward e in
    let cross = (edges.exact n).0 (contains numbers n (has_get numbers i 0 less)) in
    let s = spans_of row e (cross.1 nowhere) in
    odd_behind r sound.rising sound.paired sound.clean row (row_k u) (row_x row u) (row_y row u) (row_place row u s) numbers edges (i + 1)
    (λ j next. let at : i ≡ j = omega arith in
    subst (λ l. is_right (row_k u) (row_x row u) (row_y row u) r (get_or numbers l 0) ≡ false) at
    (not_right (distance_right (row_k u) (row_x row u) (row_y row u) u.0 u.1) (row_inside row u s).on))
    (λ inside. let b = before_by_number (IsBeforeIn r.0 row) (before_strict r.0 row) numbers i (i + 1) 0
    (before_rising r.0 row numbers (λ m h. (edges.exact m).0 (contains numbers m h)) edges.rising) (omega arith) inside in
    let f = edge_at r (get_or numbers (i + 1) 0) in
    let left = b.left nowhere in
    right_then (distance_right (row_k u) (row_x row u) (row_y row u) (upward f).0 (upward f).1)
    (omega (arith, linear, left, row_distance row u (upward f))))
    (omega arith) o
    ∙ crossed_beside r sound.even sound.clean sound.lesser o (owned_item_at r n) (zip_at r.0 r.1 n sound.paired cross.0) row s
  where
    not_right : (z : ℤ) → z ≡ pos 0 → int_lt (pos 0) z ≡ false
    not_right z e = grind (arith, ints)

    right_then : (z : ℤ) → pos 0 <ℤ z → int_lt (pos 0) z ≡ true
    right_then z e = grind (arith, ints)

-- the row's numbers are those of edges
pub row_given : (edges : List (Point × Point)) (row : ℤ) (numbers xs : List ℕ) → xs ≡ numbers → AreRowEdges edges row numbers
    → (k d : ℕ) → k < length xs → get_or xs k d < length edges
row_given edges row numbers xs same h k d less =
    let lt : k < length numbers = subst (λ ns. k < length ns) same less in
    let own = (h.exact (get_or numbers k d)).0 (k, lt, sym (get_or_default numbers k d (get_or numbers k d) lt)) in
    subst (λ ns. get_or ns k d < length edges) (sym same) own.0
