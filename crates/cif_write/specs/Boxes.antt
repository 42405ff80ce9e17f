-- The text of a layout with boxes: a path round an upright rectangle is a box, where its middle is on the grid.
-- Source: Caltech Intermediate Form 2.0, boxes: a length along the x axis, a width across it, and a centre. Which paths are
-- boxes is this project's own.
-- Checked on: -40 -20, 40 -20, 40 20, -40 20 is `B 80 40 0 0;`, wherever it begins and whichever way it runs; 0 0, 3 0, 3 2,
-- 0 2 has its middle off the grid, 0 0, 2 0, 4 0, 4 2, 0 2 has five points, and one from -1,073,741,824 to 1,073,741,824 is
-- longer than a text may write: all three stay paths.
use Rattle.std.specs.Prelude.{ℕ, ◌/◌, ◌%◌, ◌==◌, nat_le, ℤ, pos, ◌+ℤ◌, ◌-ℤ◌, unsigned_abs, Bool, not, ◌&&◌, ◌||◌}
use Rattle.std.specs.Prelude.{List, [], ◌∷◌, ◌++◌, Option, Some, None, codes, if◌then◌else◌}
use Rattle.std.specs.Int.{int_min}
use Rattle.std.specs.List.{flat_map}
use Rattle.byte_io.specs.Decimal.{spaced_pair}
use Rattle.byte_io.specs.Steps.{◌>>=◌}
use Rattle.cif_grammar.specs.declared.number.TheConstants.{MAX_MAGNITUDE}
use Rattle.lay_point.specs.declared.point.Point.{Point}
use Rattle.lay_point.specs.Points.{point_eq}
use Rattle.lay_layouts.specs.Layout.{Layout}
use Rattle.cif_write.specs.declared.boxes.Rectangles.{Rectangles}
use Rattle.cif_write.specs.declared.boxes.Rectangles.TheVariants.{Boxes, Polygons}
use Rattle.cif_write.specs.declared.boxes.UprightBox.{UprightBox}
use Rattle.cif_write.specs.Lines.{Line, Start, OnLayer, Path, Finish, Call, End, line_text, point_text}
use Rattle.cif_write.specs.Text.{file_lines}
use Rattle.cif_write.specs.Wrap.{written}

-- the length of a side that isn't empty, whose middle is on the grid, and that a text may write
abbrev pub is_side : ℕ → Bool
is_side length = not (length == 0) && (length % 2 == 0) && nat_le length MAX_MAGNITUDE

-- the length and the middle of a side, by its lesser end and its length
abbrev pub side_from : ℤ → ℕ → Option (ℤ × ℤ)
side_from low length = if is_side length then Some (pos length, low +ℤ pos (length / 2)) else None

-- the same, by its ends
abbrev pub side_between : ℤ → ℤ → Option (ℤ × ℤ)
side_between a b = side_from (int_min a b) (unsigned_abs (a -ℤ b))

-- the corners of an upright rectangle in turn, from a to b along the x axis; its sides may be empty
abbrev pub goes_round : Point → Point → Point → Point → Bool
goes_round a b c d = point_eq b (record { x = c.x; y = a.y }) && point_eq d (record { x = a.x; y = c.y })

-- along either axis first
abbrev pub are_corners : Point → Point → Point → Point → Bool
are_corners a b c d = goes_round a b c d || goes_round a d c b

-- the box between two opposite corners
unfoldable pub box_across : Point → Point → Option UprightBox
box_across a c = do
  x ← side_between a.x c.x
  y ← side_between a.y c.y
  Some (record { length = x.0; width = y.0; centre = record { x = x.1; y = y.1 } })

-- the box that a path goes round
unfoldable pub corner_box : List Point → Option UprightBox
corner_box (a ∷ b ∷ c ∷ d ∷ []) = if are_corners a b c d then box_across a c else None
corner_box _ = None

-- the box that a path is written as, if it is
abbrev pub box_as : Rectangles → List Point → Option UprightBox
box_as Polygons points = None
box_as Boxes points = corner_box points

abbrev pub box_text : UprightBox → List ℕ
box_text b = codes "B" ++ spaced_pair b.length b.width ++ point_text b.centre ++ codes ";\n"

-- the line of a path, or of the box that it is written as
abbrev pub figure_text : Option UprightBox → List Point → List ℕ
figure_text None points = line_text (Path points)
figure_text (Some b) points = box_text b

abbrev pub line_text_as : Rectangles → Line → List ℕ
line_text_as rectangles (Start number) = line_text (Start number)
line_text_as rectangles (OnLayer name) = line_text (OnLayer name)
line_text_as rectangles (Path points) = figure_text (box_as rectangles points) points
line_text_as rectangles Finish = line_text Finish
line_text_as rectangles (Call number turn) = line_text (Call number turn)
line_text_as rectangles End = line_text End

abbrev pub lines_text_as : Rectangles → List Line → List ℕ
lines_text_as rectangles lines = flat_map (line_text_as rectangles) lines

-- the text of a layout, with boxes where they are asked for
unfoldable pub text_as : Rectangles → Layout → List ℕ
text_as rectangles layout = lines_text_as rectangles (file_lines (written layout))
