-- The lines of a CIF text: one command each, and a newline.
-- Source: Caltech Intermediate Form 2.0 (Mead and Conway, Introduction to VLSI Systems, 1980): `DS`,
-- `DF`, `L`, `P`, `C` with `M X`, `R` and `T`, `E`. That a command has a line and which blanks it has is this project's own.
-- Checked on: the ring of `B 40 20 0 0` is `P -40 -20 40 -20 40 20 -40 20;`; a mirror and a shift
-- by (20, 0) of symbol 1 are `C 1 M X T 20 0;`, one quarter turn of symbol 2 is `C 2 R 0 1;`.
use Rattle.std.specs.Prelude.{ℕ, List, [], ◌++◌, Bool, codes, decimal, if◌then◌else◌, pos}
use Rattle.std.specs.List.{flat_map}
use Rattle.byte_io.specs.Decimal.{spaced_pair}
use Rattle.lay_point.specs.declared.point.Point.{Point}
use Rattle.lay_point.specs.declared.turn.Quarter.{Quarter}
use Rattle.lay_point.specs.declared.turn.Quarter.TheVariants.{R0, R90, R180, R270}
use Rattle.lay_point.specs.declared.turn.Turn.{Turn}
use Rattle.lay_point.specs.Points.{point_eq}

pub data Line : Type 0 where
  -- the definition of the symbol of this number begins, its distances in database units
  Start : ℕ → Line
  -- what follows is drawn on this layer
  OnLayer : List ℕ → Line
  -- a polygon with these points
  Path : List Point → Line
  -- the definition ends
  Finish : Line
  -- the symbol of this number, turned
  Call : ℕ → Turn → Line
  -- the text ends
  End : Line

-- the coordinates, a space before each
abbrev pub point_text : Point → List ℕ
point_text p = spaced_pair p.x p.y

abbrev pub path_text : List Point → List ℕ
path_text points = flat_map point_text points

-- a mirror, if there is one
abbrev pub mirror_text : Bool → List ℕ
mirror_text mirror = if mirror then codes " M X" else []

-- quarter turns by the direction of the x axis, if there are any
abbrev pub quarter_text : Quarter → List ℕ
quarter_text R0 = []
quarter_text R90 = codes " R 0 1"
quarter_text R180 = codes " R -1 0"
quarter_text R270 = codes " R 0 -1"

-- a shift, if there is one
abbrev pub shift_text : Point → List ℕ
shift_text shift = if point_eq shift (record { x = pos 0; y = pos 0 }) then [] else codes " T" ++ point_text shift

-- in the order in which they are done
abbrev pub turn_text : Turn → List ℕ
turn_text turn = mirror_text turn.mirror ++ quarter_text turn.quarter ++ shift_text turn.shift

abbrev pub line_text : Line → List ℕ
line_text (Start number) = codes "DS " ++ decimal number ++ codes " 1 2;\n"
line_text (OnLayer name) = codes "L " ++ name ++ codes ";\n"
line_text (Path points) = codes "P" ++ path_text points ++ codes ";\n"
line_text Finish = codes "DF;\n"
line_text (Call number turn) = codes "C " ++ decimal number ++ turn_text turn ++ codes ";\n"
line_text End = codes "E\n"

abbrev pub lines_text : List Line → List ℕ
lines_text lines = flat_map line_text lines
