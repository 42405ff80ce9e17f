-- A number that is written is spelled so.
use Rattle.std.proofs.Common.{◌≡◌, ℕ, ◌≤◌, suc, true, false}
use Rattle.std.proofs.Common.{List, [], ◌∷◌, ◌++◌, refl, sym, ap, subst, arith}
use Rattle.std.proofs.Common.{append_assoc, ℤ, pos, negsuc}
use Rattle.std.specs.Fmt.{decimal, signed_decimal}
use Rattle.std.specs.List.{list_all}
use Rattle.std.proofs.lemmas.Bool.{and_parts}
use Rattle.std.proofs.lemmas.Bool.Decides.{nat_tests}
use Rattle.byte_io.proofs.DigitLemmas.{decimal_is}
use Rattle.lay_point.specs.declared.point.Point.{Point}
use Rattle.lay_point.specs.Points.{is_coordinate, is_in_range}
use Rattle.cif_grammar.specs.declared.number.Number.{Number}
use Rattle.cif_grammar.specs.declared.number.TheConstants.{MAX_MAGNITUDE}
use Rattle.cif_grammar.specs.Bytes.{is_blank, is_mark, is_separator}
use Rattle.cif_grammar.specs.ScanGrammar.{IsDigits, IsInteger, IsSigned}
use Rattle.cif_grammar.specs.declared.paths.Vertex.{Vertex}
use Rattle.cif_grammar.specs.Grammar.{IsVertex}
use Rattle.cif_write.specs.Lines.{point_text}

pub decimal_spelled : (n : ℕ) → n ≤ MAX_MAGNITUDE → IsDigits (decimal n) n
decimal_spelled n h =
    let is = decimal_is n (omega arith) in
    record { some = is.some; digits = is.digits; value = omega (arith, is.value) }

-- behind a space
pub integer_spelled : (n : ℕ) → n ≤ MAX_MAGNITUDE → IsInteger (32 ∷ decimal n) n
unfolding is_separator is_blank is_mark
integer_spelled n h = record { front = 32 ∷ []; digits = decimal n; parts = refl; separators = refl; spelled = decimal_spelled n h }

-- a number as it is written
abbrev pub number_of : ℤ → Number
number_of (pos n) = record { negative = false; magnitude = n }
number_of (negsuc n) = record { negative = true; magnitude = suc n }

abbrev pub vertex_of : Point → Vertex
vertex_of p = record { x = number_of p.x; y = number_of p.y }

-- a coordinate is within what a text may write
pub coordinate_within : (z : ℤ) → is_coordinate z ≡ true → (number_of z).magnitude ≤ MAX_MAGNITUDE
coordinate_within (pos n) h = grind (arith, nat_tests)
coordinate_within (negsuc n) h = grind (arith, nat_tests)

signed_spelled : (front : List ℕ) (z : ℤ) → list_all is_separator front ≡ true → (number_of z).magnitude ≤ MAX_MAGNITUDE
    → IsSigned (front ++ signed_decimal z) (number_of z)
signed_spelled front (pos n) h within =
    record { front = front; digits = decimal n; parts = refl; separators = h; spelled = decimal_spelled n within }
signed_spelled front (negsuc n) h within =
    record { front = front; digits = decimal (suc n); parts = refl; separators = h; spelled = decimal_spelled (suc n) within }

-- two coordinates and a space between
vertex_spelled : (front : List ℕ) (p : Point) → list_all is_separator front ≡ true → is_in_range p ≡ true
    → IsVertex (front ++ (signed_decimal p.x ++ (32 ∷ signed_decimal p.y))) (vertex_of p)
unfolding is_separator is_blank is_mark
vertex_spelled front p h within =
    let both = and_parts (is_coordinate p.x) (is_coordinate p.y) within in
    record {
      x_text = front ++ signed_decimal p.x;
      separator = 32;
      y_text = signed_decimal p.y;
      parts = sym (append_assoc front (signed_decimal p.x) (32 ∷ signed_decimal p.y));
      x_is = signed_spelled front p.x h (coordinate_within p.x both.0);
      separated = refl;
      y_is = signed_spelled [] p.y refl (coordinate_within p.y both.1);
    }

-- a point without the space before it
abbrev pub bare_point : Point → List ℕ
bare_point p = signed_decimal p.x ++ (32 ∷ signed_decimal p.y)

pub bare_spelled : (p : Point) → is_in_range p ≡ true → IsVertex (bare_point p) (vertex_of p)
bare_spelled p within = vertex_spelled [] p refl within

pub point_is : (p : Point) → point_text p ≡ 32 ∷ bare_point p
point_is p = ap (λ t. 32 ∷ t) (append_assoc (signed_decimal p.x) (32 ∷ []) (signed_decimal p.y))

pub point_spelled : (p : Point) → is_in_range p ≡ true → IsVertex (point_text p) (vertex_of p)
unfolding is_separator is_blank is_mark
point_spelled p within =
    subst (λ (t : List ℕ). IsVertex t (vertex_of p)) (sym (point_is p)) (vertex_spelled (32 ∷ []) p refl within)
