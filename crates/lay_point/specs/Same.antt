-- Equality of points, names and rings: the tests, and that they decide. What an `==` answers is such a test.
-- Checked on: two rings with the same points from another start are different.
use Rattle.std.specs.Prelude.{◌≡◌, ℕ, List, Bool, refl}
use Rattle.std.specs.Str.{bytes_eq}
use Rattle.std.specs.Bool.{Decides}
use Rattle.std.specs.Cmp.{IsEquivalence, IsPartialEquivalence, decided, partial_equiv_from_equiv}
use Rattle.std.specs.Cmp.Lexicographic.{pointwise}
use Rattle.std.proofs.Common.{ap}
use Rattle.std.proofs.lemmas.Bool.Decides.{Decides-int_eq, Decides-and, Decides-like}
use Rattle.std.proofs.lemmas.Slice.Eq.{bytes_eq-Decides, slice_eq-Decides}
use Rattle.lay_point.specs.declared.point.Point.{Point}
use Rattle.lay_point.specs.Points.{point_eq}

pub point_eq-Decides : (p q : Point) → Decides (point_eq p q) (p ≡ q)
point_eq-Decides p q =
    Decides-like (point_eq p q) (λ both. λ i. record { x = both.0 i; y = both.1 i })
    (λ e. (ap (λ (r : Point). r.x) e, ap (λ (r : Point). r.y) e))
    (Decides-and _ _ (Decides-int_eq p.x q.x) (Decides-int_eq p.y q.y))

-- the same points in the same order
abbrev pub points_eq : List Point → List Point → Bool
points_eq = pointwise point_eq

pub points_eq-Decides : (ps qs : List Point) → Decides (points_eq ps qs) (ps ≡ qs)
points_eq-Decides ps qs = slice_eq-Decides point_eq-Decides ps qs (points_eq ps qs) refl

pub points_eq_equiv : IsEquivalence points_eq
points_eq_equiv = decided points_eq points_eq-Decides

pub points_eq_partial : IsPartialEquivalence points_eq
points_eq_partial = partial_equiv_from_equiv points_eq_equiv

-- the same bytes in the same order
abbrev pub names_eq : List ℕ → List ℕ → Bool
names_eq = bytes_eq

pub names_eq_equiv : IsEquivalence names_eq
names_eq_equiv = decided names_eq bytes_eq-Decides

pub names_eq_partial : IsPartialEquivalence names_eq
names_eq_partial = partial_equiv_from_equiv names_eq_equiv
