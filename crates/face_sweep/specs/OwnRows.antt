-- The edges of single shapes in a row.
use Rattle.std.specs.Prelude.{
  ◌≡◌,
  ◌≢◌,
  ℕ,
  zero,
  suc,
  ◌<◌,
  pos,
  ◌≤ℤ◌,
  ◌<ℤ◌,
  Bool,
  false,
  not,
  if◌then◌else◌,
  All,
  Contains,
  List,
  [],
  ◌∷◌,
  ◌++◌,
  None,
  Option,
  Some,
  length,
  map,
  slice_index,
  slice_index_or,
}
use Rattle.std.specs.Global.{Vec}
use Rattle.lay_point.specs.declared.point.Point.{Point}
use Rattle.snap_chains.specs.declared.owner.Owner.{Owner}
use Rattle.snap_chains.specs.Rounded.{Owned, is_owner_listed}
use Rattle.face_rows.specs.Lines.{owners_at}
use Rattle.face_sweep.specs.declared.own_rows.OwnRows.{OwnRows}
use Rattle.face_sweep.specs.Points.{distance_from}
use Rattle.face_sweep.specs.Reaches.{key_of}
use Rattle.face_sweep.specs.Sides.{holds_beside, is_odd_in}

abbrev pub is_odd : ℕ → Bool
is_odd zero = false
is_odd (suc n) = not (is_odd n)

-- the edge, or none
abbrev pub listed_if : Bool → ℕ → List ℕ
listed_if b n = if b then n ∷ [] else []

-- the edge, if the shape owns it
abbrev pub own_edge : Owned → Owner → ℕ → List ℕ
own_edge r o n = listed_if (is_owner_listed o (owners_at r n)) n

-- those of the edges that the shape owns, from the last to the first
abbrev pub own_of : Owned → Owner → List ℕ → List ℕ
own_of r o [] = []
own_of r o (n ∷ ns) = own_of r o ns ++ own_edge r o n

abbrev pub lists_of : OwnRows → List (List ℕ)
lists_of rows = map (λ (v : Vec ℕ). v.items) rows.lists.items

abbrev pub list_at : OwnRows → ℕ → List ℕ
list_at rows i = slice_index_or (lists_of rows) i []

-- there is a list for each key, of numbers of edges
pub record HaveLists (r : Owned) (keys : List ℕ) (rows : OwnRows) : Type 0 where
  pub count : length (lists_of rows) ≡ length keys
  pub given : (i : ℕ) → All (λ n. n < length r.0) (list_at rows i)

-- these are the lists of the shapes of these keys
abbrev pub AreOwn : List ℕ → (Owner → List ℕ) → OwnRows → Type 0
AreOwn keys own rows = (i : ℕ) (o : Owner) → i < length keys → slice_index keys i ≡ key_of o → list_at rows i ≡ own o

-- the edges of the second list are left of the point, and those of the first aren't
pub record IsCutAt (r : Owned) (p : Point) (right left : List ℕ) : Type 0 where
  pub not_left : (n : ℕ) → Contains right n → pos 0 ≤ℤ distance_from r p n
  pub are_left : (n : ℕ) → Contains left n → distance_from r p n <ℤ pos 0

-- the same where there is a point, and else all are of the first
abbrev pub IsCutBy : Owned → Option Point → List ℕ → List ℕ → Type 0
IsCutBy r None right left = left ≡ []
IsCutBy r (Some p) right left = IsCutAt r p right left

-- one edge comes to the list of one shape, behind those that aren't left of the point
abbrev pub HasInserted : Owned → List ℕ → Owner → Option Point → ℕ → OwnRows → OwnRows → Type 0
HasInserted r keys owner point n old new = (own after : Owner → List ℕ) (right left : List ℕ) → own owner ≡ right ++ left
    → IsCutBy r point right left → after owner ≡ (right ++ n ∷ []) ++ left → ((o : Owner) → o ≢ owner → after o ≡ own o)
    → AreOwn keys own old → AreOwn keys after new

-- and the last of those goes
abbrev pub HasTaken : Owned → List ℕ → Owner → Point → OwnRows → OwnRows → Type 0
HasTaken r keys owner p old new = (own after : Owner → List ℕ) (right left : List ℕ) (n : ℕ)
    → own owner ≡ (right ++ n ∷ []) ++ left → IsCutBy r (Some p) (right ++ n ∷ []) left → after owner ≡ right ++ left
    → ((o : Owner) → o ≢ owner → after o ≡ own o) → AreOwn keys own old → AreOwn keys after new

-- the edge comes to the lists of its owners, or goes
abbrev pub HasPutEdge : Owned → List ℕ → Option Point → ℕ → OwnRows → OwnRows → Type 0
HasPutEdge r keys point n old new = (right left : Owner → List ℕ) → ((o : Owner) → IsCutBy r point (right o) (left o))
    → AreOwn keys (λ o. right o ++ left o) old → AreOwn keys (λ o. (right o ++ own_edge r o n) ++ left o) new

abbrev pub HasTakenEdge : Owned → List ℕ → Point → ℕ → OwnRows → OwnRows → Type 0
HasTakenEdge r keys p n old new = (right left : Owner → List ℕ)
    → ((o : Owner) → IsCutBy r (Some p) (right o ++ own_edge r o n) (left o))
    → AreOwn keys (λ o. (right o ++ own_edge r o n) ++ left o) old → AreOwn keys (λ o. right o ++ left o) new

-- these edges of a row, and others left of the point, are in the lists
pub record AreRight (r : Owned) (keys : List ℕ) (point : Option Point) (behind : List ℕ) (rows : OwnRows) : Type 0 where
  pub left : Owner → List ℕ
  pub cut : (o : Owner) → IsCutBy r point (own_of r o behind) (left o)
  pub own : AreOwn keys (λ o. own_of r o behind ++ left o) rows

-- some edges that are right of the edge, and in the lists of single shapes, tell what holds beside it
pub record TellBeside (r : Owned) (keys : List ℕ) (point : Option Point) (n : ℕ) (rows : OwnRows) : Type 0 where
  pub behind : List ℕ
  pub right : AreRight r keys point behind rows
  pub tell : (o : Owner) → is_odd_in r behind o ≡ holds_beside r n o
