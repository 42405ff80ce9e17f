-- The shapes that hold on the two sides of an edge.
use Rattle.std.specs.Prelude.{◌≡◌, ℕ, ◌+◌, ◌<◌, pos, ◌+ℤ◌, Bool, Contains, IsTrue, List, drop, length, slice_index}
use Rattle.std.specs.List.{AllZip}
use Rattle.lay_point.specs.Parity.{xor, parity}
use Rattle.snap_chains.specs.declared.owner.Owner.{Owner}
use Rattle.snap_chains.specs.Rounded.{Owned, is_owner_listed}
use Rattle.face_rows.specs.Labels.{answer_on, odd_of, owned_items}
use Rattle.face_rows.specs.declared.op.Op.{Op}
use Rattle.face_sweep.specs.declared.counts.Counts.{Counts}
use Rattle.face_sweep.specs.declared.counts.LeftCounts.{LeftCounts}
use Rattle.face_sweep.specs.declared.sides.Sides.{Sides}
use Rattle.face_sweep.specs.Counts.{AreCounts, kept_counts}
use Rattle.face_rows.specs.Lines.{edge_at, owners_at}
use Rattle.face_rows.specs.Operations.{answer}

-- an odd number of these edges lists the owner
abbrev pub is_odd_in : Owned → List ℕ → Owner → Bool
is_odd_in r numbers o = parity (λ n. is_owner_listed o (owners_at r n)) numbers

-- the owner holds right of the edge's midpoint, or above that of a level edge
abbrev pub holds_beside : Owned → ℕ → Owner → Bool
holds_beside r n o =
    odd_of (owned_items r) o (pos 2) ((edge_at r n).0.x +ℤ (edge_at r n).1.x) ((edge_at r n).0.y +ℤ (edge_at r n).1.y)

-- these are edges of a row from some place on to its right end: what holds beside each is what those behind it tell
abbrev pub AreBehind : Owned → List ℕ → Type 0
AreBehind r numbers = (i : ℕ) → i < length numbers → (o : Owner) → is_odd_in r (drop (i + 1) numbers) o
    ≡ holds_beside r (slice_index numbers i) o

-- of an edge with these owners, if those shapes hold on its right
pub record AreSidesOf (owners : List Owner) (holds : Owner → Bool) (sides : Sides) : Type 0 where
  pub right : AreCounts sides.right holds
  pub left : AreCounts sides.left (λ o. xor (is_owner_listed o owners) (holds o))

-- whether the operation's answers on the two sides differ, of whatever edge they are, if only these shapes can hold there
abbrev pub IsDifference : Op → Sides → Bool → Type 0
IsDifference op sides result = (holds : Owner → Bool) (owners shapes : List Owner) → AreSidesOf owners holds sides
    → ((o : Owner) → IsTrue (holds o) → Contains shapes o)
    → ((o : Owner) → IsTrue (is_owner_listed o owners) → Contains shapes o)
    → result ≡ xor (answer_on (answer op) shapes holds) (answer_on (answer op) shapes (λ o. xor (is_owner_listed o owners) (holds o)))

-- so many shapes hold left of the edge of this number, or below a level edge
abbrev pub AreLeftOf : Owned → ℕ → Counts → Type 0
AreLeftOf r n counts = AreCounts counts (λ o. xor (is_owner_listed o (owners_at r n)) (holds_beside r n o))

-- the same, in the form in which a row keeps it
abbrev pub IsKeptLeft : Owned → ℕ → LeftCounts → Type 0
IsKeptLeft r n left = AreLeftOf r n (kept_counts left)

-- beside each of these edges is what holds left of it
abbrev pub AreLefts : Owned → List ℕ → List LeftCounts → Type 0
AreLefts r numbers lefts = AllZip (IsKeptLeft r) numbers lefts
