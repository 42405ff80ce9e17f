-- Keys and their centres: what lists of both hold, and that sorted keys are those of rising points.
use Rattle.std.proofs.Common.{◌≡◌, ◌⊎◌, inl, inr, ⊎_elim, ◌↔◌, ℕ, suc, ◌+◌, ◌<◌, ◌≤◌, ◌/◌, ◌%◌, List, [], ◌∷◌, map}
use Rattle.std.proofs.Common.{Contains, ◌<ℤ◌, sym, ap, subst, arith}
use Rattle.std.specs.List.{slice_index}
use Rattle.std.specs.List.Sorted.{IsStrictlyIncreasing}
use Rattle.std.proofs.lemmas.Bool.{cases_lt}
use Rattle.lay_point.specs.declared.point.Point.{Point}
use Rattle.lay_point.specs.Points.{IsBefore}
use Rattle.lay_point.proofs.Members.{Has, contains, has}
use Rattle.lay_point.proofs.Signs.{linear}
use Rattle.snap_pixels.specs.Coordinates.{coordinate_from}
use Rattle.snap_pixels.specs.Gathered.{centre_of}
use Rattle.snap_pixels.specs.Order.{ArePointsRising}

-- ---- members
has_centre : (ks : List ℕ) (k : ℕ) → Has ks k → Has (map centre_of ks) (centre_of k)
has_centre [] k m = absurd m
has_centre (j ∷ js) k (inl same) = inl (ap centre_of same)
has_centre (j ∷ js) k (inr m) = inr (has_centre js k m)

has_key : (ks : List ℕ) (c : Point) → Has (map centre_of ks) c → (k : ℕ) × Has ks k × (centre_of k ≡ c)
has_key [] c m = absurd m
has_key (j ∷ js) c (inl same) = (j, inl (λ _. j), same)
has_key (j ∷ js) c (inr m) = let w = has_key js c m in (w.0, inr w.1, w.2)

centre_in : (ks : List ℕ) (k : ℕ) → Contains ks k → Contains (map centre_of ks) (centre_of k)
centre_in ks k m = contains (map centre_of ks) (centre_of k) (has_centre ks k (has ks k m))

key_in : (ks : List ℕ) (c : Point) → Contains (map centre_of ks) c → (k : ℕ) × Contains ks k × (centre_of k ≡ c)
key_in ks c m = let w = has_key ks c (has (map centre_of ks) c m) in (w.0, contains ks w.0 w.1, w.2)

-- where one list has the keys of the other, it has its centres
some_in : (ks ls : List ℕ) → ((k : ℕ) → Contains ks k → Contains ls k) → (c : Point) → Contains (map centre_of ks) c
    → Contains (map centre_of ls) c
some_in ks ls f c m =
    let w = key_in ks c m in
    subst (λ p. Contains (map centre_of ls) p) w.2 (centre_in ls w.0 (f w.0 w.1))

pub same_centres : (ks ls : List ℕ) → ((k : ℕ) → Contains ls k ↔ Contains ks k)
    → (c : Point) → Contains (map centre_of ls) c ↔ Contains (map centre_of ks) c
same_centres ks ls h c = (some_in ls ks (λ k. (h k).0) c, some_in ks ls (λ k. (h k).1) c)

pub one_more_centre : (old new : List ℕ) (key : ℕ) (p : Point) → centre_of key ≡ p
    → ((k : ℕ) → Contains new k ↔ (Contains old k ⊎ (key ≡ k)))
    → (c : Point) → Contains (map centre_of new) c ↔ (Contains (map centre_of old) c ⊎ (p ≡ c))
one_more_centre old new key p at h c = (
  (λ m.
      let w = key_in new c m in
      ⊎_elim
      (λ (was : Contains old w.0). inl (subst (λ q. Contains (map centre_of old) q) w.2 (centre_in old w.0 was)))
      (λ (is : key ≡ w.0). inr (subst (λ q. q ≡ c) at (subst (λ k. centre_of k ≡ c) (sym is) w.2)))
      ((h w.0).0 w.1)),
  ⊎_elim
      (λ m. some_in old new (λ k w. (h k).1 (inl w)) c m)
      (λ e. subst (λ q. Contains (map centre_of new) q) e
      (subst (λ q. Contains (map centre_of new) q) at (centre_in new key ((h key).1 (inr (λ _. key)))))),
)

-- ---- order
pub parts_of_less : (a b : ℕ) → a < b
    → ((a / 4294967296 ≡ b / 4294967296) × (a % 4294967296 < b % 4294967296)) ⊎ (a / 4294967296 < b / 4294967296)
parts_of_less a b less = ⊎_elim
    (λ (lt : a / 4294967296 < b / 4294967296). inr lt)
    (λ (ge : b / 4294967296 ≤ a / 4294967296). inl (omega arith, omega arith))
    (cases_lt (a / 4294967296) (b / 4294967296))

coordinate_less : (m n : ℕ) → m < n → coordinate_from m <ℤ coordinate_from n
coordinate_less m n less = omega (arith, linear)

IsBefore-keys : (a b : ℕ) → a < b → IsBefore (centre_of a) (centre_of b)
IsBefore-keys a b less = ⊎_elim
    (λ (h : (a / 4294967296 ≡ b / 4294967296) × (a % 4294967296 < b % 4294967296)).
    inr (ap coordinate_from h.0, coordinate_less (a % 4294967296) (b % 4294967296) h.1))
    (λ (lt : a / 4294967296 < b / 4294967296). inl (coordinate_less (a / 4294967296) (b / 4294967296) lt))
    (parts_of_less a b less)

increasing_tail : (k : ℕ) (ks : List ℕ) → IsStrictlyIncreasing (k ∷ ks) → IsStrictlyIncreasing ks
increasing_tail k ks h i lt =
    let e : suc i + 1 ≡ suc (i + 1) = omega arith in
    subst (λ n. slice_index ks i < slice_index (k ∷ ks) n) e (h (suc i) (omega arith))

pub centres_rising : (ks : List ℕ) → IsStrictlyIncreasing ks → ArePointsRising (map centre_of ks)
centres_rising [] h = tt
centres_rising (k ∷ []) h = tt
centres_rising (j ∷ k ∷ ks) h = (IsBefore-keys j k (h 0 (omega arith)), centres_rising (k ∷ ks) (increasing_tail j (k ∷ ks) h))
