-- What a written figure is: the line of a path or of a box, its command, and the ring that it draws.
use Rattle.std.proofs.Common.{◌≡◌, ℕ, ◌≤◌, true, cond, List, [], ◌∷◌, ◌++◌, map, Option, None, Some, Err}
use Rattle.std.proofs.Common.{refl, sym, ap, ◌∙◌, subst, arith, append_assoc, append-nil, inl}
use Rattle.std.specs.Fmt.{decimal}
use Rattle.lay_point.specs.declared.point.Point.{Point}
use Rattle.lay_point.specs.Points.{is_in_range}
use Rattle.lay_point.specs.Rings.{IsRing, rectangle}
use Rattle.lay_cells.specs.declared.cell_id.CellId.TheVariants.{Symbol}
use Rattle.byte_io.specs.Decimal.{spaced_pair}
use Rattle.cif_grammar.specs.declared.number.TheConstants.{MAX_MAGNITUDE}
use Rattle.cif_grammar.specs.Bytes.{is_blank, is_mark, is_separator}
use Rattle.cif_grammar.specs.Commands.{Command}
use Rattle.cif_grammar.specs.Commands as command
use Rattle.cif_grammar.specs.Grammar.{IsBox, Spells}
use Rattle.cif_grammar.specs.ScanGrammar.{IsInteger}
use Rattle.cif_read.specs.declared.element.Element.{Element}
use Rattle.cif_read.specs.declared.element.Figure.TheVariants.{Polygon}
use Rattle.cif_read.specs.declared.fault.FaultKind.TheVariants.{TooBig}
use Rattle.cif_read.specs.Boxes.{box_at, high_corner, low_corner}
use Rattle.cif_read.specs.Content.{after_box, on_layer}
use Rattle.cif_write.specs.declared.boxes.Rectangles.{Rectangles}
use Rattle.cif_write.specs.declared.boxes.Rectangles.TheVariants.{Boxes, Polygons}
use Rattle.cif_write.specs.declared.boxes.UprightBox.{UprightBox}
use Rattle.cif_write.specs.Boxes.{box_as, corner_box, box_text, figure_text, line_text_as}
use Rattle.cif_write.specs.Lines.{Path, line_text, point_text}
use Rattle.cif_laws.specs.SameRings.{IsSameRing}
use Rattle.cif_laws.proofs.BoxesBack.{IsBoxOfRing, box_back, box_of_ring, centre_in, numbers, numbers_is, numbers_of, small_box}
use Rattle.cif_laws.proofs.BoxesBack.{high_is, low_is}
use Rattle.cif_laws.proofs.CommandsDo.{draws, inside}
use Rattle.cif_laws.proofs.Reaching.{Does, with_calls}
use Rattle.cif_laws.proofs.WrittenLines.{IsLineOf, half, path_line}
use Rattle.cif_laws.proofs.WrittenNumbers.{bare_point, bare_spelled, decimal_spelled, integer_spelled, point_is, vertex_of}

-- ---- boxes

-- digits with nothing before them
bare_integer : (n : ℕ) → n ≤ MAX_MAGNITUDE → IsInteger (decimal n) n
bare_integer n h = record { front = []; digits = decimal n; parts = refl; separators = refl; spelled = decimal_spelled n h }

-- a box's text without its semicolon
abbrev pub spelling_of : ℕ → ℕ → Point → List ℕ
spelling_of n m centre = 66 ∷ ((32 ∷ decimal n) ++ (32 ∷ (decimal m ++ point_text centre)))

box_spelled : (n m : ℕ) (centre : Point) → n ≤ MAX_MAGNITUDE → m ≤ MAX_MAGNITUDE → is_in_range centre ≡ true
    → IsBox (spelling_of n m centre) (numbers n m centre)
unfolding is_separator is_blank is_mark
box_spelled n m centre long wide within = record {
  length_text = 32 ∷ decimal n;
  before_width = 32;
  width_text = decimal m;
  rest = point_text centre;
  parts = refl;
  length_is = integer_spelled n long;
  width_separated = refl;
  width_is = bare_integer m wide;
  centre = record {
    separator = 32;
    spelling = bare_point centre;
    rest = [];
    parts = point_is centre ∙ ap (λ t. 32 ∷ t) (sym (append-nil (bare_point centre)));
    separated = refl;
    spelled = bare_spelled centre within;
  };
  direction = refl;
}

spelled_out : (a b c tail : List ℕ) → (((a ++ (32 ∷ [])) ++ b) ++ c) ++ tail ≡ (a ++ (32 ∷ (b ++ c))) ++ tail
spelled_out a b c tail = simp append_assoc

pub box_text_is : (ring : List Point) (b : UprightBox) (is : IsBoxOfRing ring b)
    → box_text b ≡ spelling_of is.length is.width b.centre ++ (59 ∷ (10 ∷ []))
box_text_is ring b is =
    (λ i. 66 ∷ ((spaced_pair (is.length_is i) (is.width_is i) ++ point_text b.centre) ++ (59 ∷ (10 ∷ []))))
    ∙ ap (λ t. 66 ∷ (32 ∷ t)) (spelled_out (decimal is.length) (decimal is.width) (point_text b.centre) (59 ∷ (10 ∷ [])))

box_is_spelled : (ring : List Point) (b : UprightBox) (is : IsBoxOfRing ring b)
    → IsBox (spelling_of is.length is.width b.centre) (numbers_of b)
box_is_spelled ring b is =
    subst (IsBox (spelling_of is.length is.width b.centre)) (sym (numbers_is ring b is))
    (box_spelled is.length is.width b.centre is.along.few is.across.few (centre_in ring b is))

draws_box : (number : ℕ) (layer symbols : List ℕ) (es : List Element) (ring : List Point) (b : UprightBox) (is : IsBoxOfRing ring b)
    → Does (inside number (Some layer) symbols es) (command.Box (numbers_of b))
    (inside number (Some layer) symbols (es ++ record { cell = Symbol number; figure = Polygon layer (rectangle is.low is.high) } ∷ []))
unfolding after_box
draws_box number layer symbols es ring b is calls offset =
    let content = with_calls (inside number (Some layer) symbols es) calls in (
      calls,
      ap (λ t. cond t (Err TooBig) (on_layer content (Some layer) (box_at half (numbers_of b)))) (small_box ring b is)
          ∙ ap (on_layer content (Some layer)) (box_back ring b is),
    )

-- ---- figures

-- the ring that is read of a path, or of the box that it is written as
abbrev pub ring_read : Option UprightBox → List Point → List Point
ring_read None ring = ring
ring_read (Some b) ring = rectangle (low_corner half (numbers_of b)) (high_corner half (numbers_of b))

-- the ring that is read of one that is written
abbrev pub ring_as : Rectangles → List Point → List Point
ring_as rectangles ring = ring_read (box_as rectangles ring) ring

-- the text of one ring is a command and its semicolon, and draws the other, which is the same but for its order
pub record IsFigure (text : List ℕ) (ring read : List Point) : Type 0 where
  pub command : Command
  pub spelling : List ℕ
  pub parts : text ≡ spelling ++ (59 ∷ (10 ∷ []))
  pub spells : Spells spelling command
  pub draws : (number : ℕ) (layer symbols : List ℕ) (es : List Element)
      → Does (inside number (Some layer) symbols es) command
      (inside number (Some layer) symbols (es ++ record { cell = Symbol number; figure = Polygon layer read } ∷ []))
  pub same : IsSameRing ring read

path_figure : (ring : List Point) → IsRing ring → IsFigure (line_text (Path ring)) ring ring
path_figure [] is = absurd (omega (arith, is.enough))
path_figure (p ∷ ps) is =
    let line = path_line p ps is.in_range in
    record {
      command = command.Polygon (map vertex_of (p ∷ ps));
      spelling = line.spelling;
      parts = line.parts;
      spells = line.spells;
      draws = λ number layer symbols es. draws number layer symbols es (p ∷ ps) is;
      same = inl ([], p ∷ ps, refl, sym (append-nil (p ∷ ps)));
    }

box_figure : (ring : List Point) (b : UprightBox) → IsBoxOfRing ring b → IsFigure (box_text b) ring (ring_read (Some b) ring)
box_figure ring b is =
    let corners : rectangle is.low is.high ≡ ring_read (Some b) ring =
    λ i. rectangle (sym (low_is ring b is) i) (sym (high_is ring b is) i) in
    record {
      command = command.Box (numbers_of b);
      spelling = spelling_of is.length is.width b.centre;
      parts = box_text_is ring b is;
      spells = box_is_spelled ring b is;
      draws = λ number layer symbols es.
          subst (λ (read : List Point). Does (inside number (Some layer) symbols es) (command.Box (numbers_of b))
          (inside number (Some layer) symbols (es ++ record { cell = Symbol number; figure = Polygon layer read } ∷ []))) corners
          (draws_box number layer symbols es ring b is);
      same = subst (IsSameRing ring) corners is.same;
    }

figure_at : (ring : List Point) → IsRing ring → (o : Option UprightBox) → ((b : UprightBox) → o ≡ Some b → corner_box ring ≡ Some b)
    → IsFigure (figure_text o ring) ring (ring_read o ring)
figure_at ring is None boxed = path_figure ring is
figure_at ring is (Some b) boxed = box_figure ring b (box_of_ring ring b is.in_range (boxed b refl))

pub box_as-box_of : (rectangles : Rectangles) (ring : List Point) (b : UprightBox) → box_as rectangles ring ≡ Some b → corner_box ring
    ≡ Some b
box_as-box_of Polygons ring b h = absurd (let no : ◌≡◌ {A = Option UprightBox} None (Some b) = h in cc)
box_as-box_of Boxes ring b h = h

pub figure_of : (rectangles : Rectangles) (ring : List Point) → IsRing ring
    → IsFigure (line_text_as rectangles (Path ring)) ring (ring_as rectangles ring)
figure_of rectangles ring is = figure_at ring is (box_as rectangles ring) (box_as-box_of rectangles ring)

pub figure_line : (rectangles : Rectangles) (ring : List Point) (is : IsRing ring)
    → IsLineOf rectangles (Path ring) (figure_of rectangles ring is).command
figure_line rectangles ring is =
    let figure = figure_of rectangles ring is in record { spelling = figure.spelling; parts = figure.parts; spells = figure.spells }
