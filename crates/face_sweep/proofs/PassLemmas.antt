-- What is known of the list of a sweep when it passes a point.
use Rattle.std.proofs.Common.{◌≡◌, ℕ, ◌+◌, ◌<◌, ◌≤◌, List, ◌++◌, length, get_or, take, drop, Contains}
use Rattle.std.proofs.Common.{sym, ap, subst, ◌∙◌, arith}
use Rattle.std.proofs.lemmas.List.{get_or-drop, get_or-take, get_or_default, length-drop, length-take-le}
use Rattle.lay_point.specs.declared.point.Point.{Point}
use Rattle.snap_chains.specs.declared.owner.Owner.{Owner}
use Rattle.snap_chains.specs.Rounded.{Owned}
use Rattle.face_rows.specs.Rows.{AreSomeRowEdges}
use Rattle.face_rows.specs.Sound.{AreSound}
use Rattle.face_sweep.specs.Points.{AreBegunAt, IsEndPoint, IsEndedGroup, IsLevelFrom, IsStatus}
use Rattle.face_sweep.specs.Sides.{AreBehind, holds_beside, is_odd_in}
use Rattle.face_sweep.proofs.BehindLemmas.{passed_behind, status_behind}
use Rattle.face_sweep.proofs.LevelLemmas.{level_behind}
use Rattle.face_sweep.proofs.StatusLemmas.{passed_rest, status_rest}

-- ---- the edges right of the point
pub record AreRest (r : Owned) (p : Point) (numbers : List ℕ) : Type 0 where
  pub row : AreSomeRowEdges r.0 p.y numbers
  pub behind : AreBehind r numbers

pub rest_of_status : (r : Owned) (p : Point) (numbers : List ℕ) (from to : ℕ) → AreSound r → IsEndPoint r p → IsStatus r p numbers
    → IsEndedGroup r p numbers from to → AreRest r p (drop to numbers)
rest_of_status r p numbers from to sound v s h =
    subst (AreRest r p) (sym (status_rest r p numbers from to sound v s h))
    (record { row = s.row_above; behind = status_behind r p numbers sound s })

pub rest_beside : (r : Owned) (p : Point) (numbers : List ℕ) (from to n : ℕ) (o : Owner) → AreSound r → IsEndPoint r p
    → IsStatus r p numbers
    → IsEndedGroup r p numbers from to → IsLevelFrom r p n → is_odd_in r (drop to numbers) o ≡ holds_beside r n o
rest_beside r p numbers from to n o sound v s h level =
    ap (λ l. is_odd_in r l o) (status_rest r p numbers from to sound v s h) ∙ level_behind r p numbers n sound level s o

-- once it is passed
pub rest_of_passed : (r : Owned) (p : Point) (numbers begun : List ℕ) (from to : ℕ) → AreSound r → IsEndPoint r p → IsStatus r p numbers
    → AreBegunAt r p begun → IsEndedGroup r p numbers from to → AreRest r p (begun ++ drop to numbers)
rest_of_passed r p numbers begun from to sound v s b h =
    let t = passed_rest r p numbers begun from to sound v s b h in
    subst (AreRest r p) t.1
    (record { row = t.0.row_above; behind = passed_behind r p (take from numbers ++ begun ++ drop to numbers) sound t.0 })

-- ---- edges before and behind a place
pub has_front : (xs : List ℕ) (from n : ℕ) → from ≤ length xs → Contains (take from xs) n → (k : ℕ) × (k < from) × (get_or xs k 0 ≡ n)
has_front xs from n bound (j, less, at) =
    let short : j < from = subst (λ m. j < m) (length-take-le from xs bound) less in
    (j, short, get_or_default xs j 0 n (omega arith) ∙ sym (get_or-take from xs j n short) ∙ at)

pub has_back : (xs : List ℕ) (to n : ℕ) → Contains (drop to xs) n → (k : ℕ) × (to ≤ k) × (k < length xs) × (get_or xs k 0 ≡ n)
has_back xs to n (j, less, at) =
    let inside : to + j < length xs = omega (arith, length-drop to xs) in
    (to + j, omega arith, inside, get_or_default xs (to + j) 0 n inside ∙ sym (get_or-drop to xs j n) ∙ at)
