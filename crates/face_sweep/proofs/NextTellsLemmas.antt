-- The next edge tells what holds right of an edge.
use Rattle.std.proofs.Common.{◌≡◌, ℕ, suc, ◌+◌, List, [], ◌∷◌, drop, refl, sym, ap, ◌∙◌, arith}
use Rattle.lay_point.specs.declared.point.Point.{Point}
use Rattle.lay_point.specs.Parity.{xor}
use Rattle.snap_chains.specs.declared.owner.Owner.{Owner}
use Rattle.face_rows.specs.Lines.{owners_at}
use Rattle.snap_chains.specs.Rounded.{Owned, is_owner_listed}
use Rattle.face_sweep.specs.Sides.{AreBehind, holds_beside, is_odd_in}
use Rattle.face_rows.specs.Sound.{AreSound}
use Rattle.face_sweep.specs.Nexts.{left_of_first}
use Rattle.face_sweep.specs.Points.{IsLevelFrom, IsStatus}
use Rattle.face_sweep.proofs.BehindLemmas.{status_behind}
use Rattle.face_sweep.proofs.LevelLemmas.{level_behind}

none_dropped : (ns : List ℕ) → drop 0 ns ≡ ns
none_dropped [] = refl
none_dropped (n ∷ ns) = refl

odd_first : (r : Owned) (ns : List ℕ) (o : Owner) → AreBehind r ns → is_odd_in r ns o ≡ left_of_first r ns o
odd_first r [] o h = refl
odd_first r (n ∷ ns) o h = ap (xor (is_owner_listed o (owners_at r n)))
    (ap (λ l. is_odd_in r l o) (sym (none_dropped ns)) ∙ h 0 (omega arith) o)

rest_behind : (r : Owned) (n : ℕ) (ns : List ℕ) → AreBehind r (n ∷ ns) → AreBehind r ns
rest_behind r n ns h i less o =
    let same : suc i + 1 ≡ suc (i + 1) = omega arith in
    ap (λ k. is_odd_in r (drop k (n ∷ ns)) o) (sym same) ∙ h (suc i) (omega arith) o

pub next_tells : (r : Owned) (behind : List ℕ) (n : ℕ) (o : Owner) → AreBehind r (n ∷ behind)
    → holds_beside r n o ≡ left_of_first r behind o
next_tells r behind n o h =
    sym (ap (λ l. is_odd_in r l o) (sym (none_dropped behind)) ∙ h 0 (omega arith) o)
    ∙ odd_first r behind o (rest_behind r n behind h)

pub level_next : (r : Owned) (p : Point) (numbers : List ℕ) (n : ℕ) (o : Owner) → AreSound r → IsLevelFrom r p n
    → (s : IsStatus r p numbers)
    → holds_beside r n o ≡ left_of_first r s.above o
level_next r p numbers n o sound h s =
    sym (level_behind r p numbers n sound h s o) ∙ odd_first r s.above o (status_behind r p numbers sound s)
