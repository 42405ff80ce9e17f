-- Each written line spells a command of the grammar, and a newline behind its semicolon.
use Rattle.std.proofs.Common.{◌≡◌, ℕ, ◌≤◌, true, List, [], ◌∷◌, ◌++◌, length, refl, sym, ap, arith, append_assoc, append-nil, map, inr}
use Rattle.std.specs.Fmt.{decimal}
use Rattle.std.specs.List.{list_all}
use Rattle.std.proofs.lemmas.Bool.{and_parts}
use Rattle.lay_point.specs.declared.point.Point.{Point}
use Rattle.lay_point.specs.declared.turn.Turn.{Turn}
use Rattle.lay_point.specs.Names.{is_name_byte}
use Rattle.lay_point.specs.Points.{is_in_range}
use Rattle.cif_grammar.specs.declared.number.TheConstants.{MAX_MAGNITUDE}
use Rattle.cif_grammar.specs.Bytes.{is_blank, is_mark, is_separator}
use Rattle.cif_grammar.specs.declared.definitions.Definition.{Definition}
use Rattle.cif_grammar.specs.declared.definitions.Scale.{Scale}
use Rattle.cif_grammar.specs.Commands.{Command}
use Rattle.cif_grammar.specs.Commands as command
use Rattle.cif_grammar.specs.Grammar.{AreVertices, IsWrittenScale, Spells}
use Rattle.cif_write.specs.declared.boxes.Rectangles.{Rectangles}
use Rattle.cif_write.specs.declared.boxes.Rectangles.TheVariants.{Polygons}
use Rattle.cif_write.specs.Boxes.{line_text_as}
use Rattle.cif_write.specs.Lines.{Call, Finish, Line, OnLayer, Path, Start, path_text, point_text, turn_text}
use Rattle.cif_laws.proofs.WrittenNumbers.{bare_point, bare_spelled, integer_spelled, point_is, point_spelled, vertex_of}
use Rattle.cif_laws.proofs.WrittenTurns.{changes_of, one_spelled, turn_spelled}

-- the line is the text of this command, a semicolon and a newline; with boxes, where they are asked for
pub record IsLineOf (rectangles : Rectangles) (line : Line) (c : Command) : Type 0 where
  pub spelling : List ℕ
  pub parts : line_text_as rectangles line ≡ spelling ++ (59 ∷ (10 ∷ []))
  pub spells : Spells spelling c

-- database units are half of what a text counts in
abbrev pub half : Scale
half = record { numerator = 1; denominator = 2 }

abbrev pub halved_definition : ℕ → Definition
halved_definition number = record { symbol = number; scale = half }

half_spelled : IsWrittenScale (32 ∷ 49 ∷ 32 ∷ 50 ∷ []) half
unfolding is_separator is_blank is_mark
half_spelled = record {
  before_numerator = 32;
  numerator_text = 49 ∷ [];
  before_denominator = 32;
  denominator_text = 50 ∷ [];
  behind = [];
  parts = refl;
  numerator_separated = refl;
  numerator_is = record { front = []; digits = 49 ∷ []; parts = refl; separators = refl; spelled = one_spelled };
  denominator_separated = refl;
  denominator_is = record {
    front = [];
    digits = 50 ∷ [];
    parts = refl;
    separators = refl;
    spelled = record { some = omega arith; digits = refl; value = refl };
  };
  behind_blank = refl;
}

pub start_line : (rectangles : Rectangles) (number : ℕ) → number ≤ MAX_MAGNITUDE
    → IsLineOf rectangles (Start number) (command.Start (halved_definition number))
start_line rectangles number h = record {
  spelling = 68 ∷ 83 ∷ ((32 ∷ decimal number) ++ (32 ∷ 49 ∷ 32 ∷ 50 ∷ []));
  parts = ap (λ t. 68 ∷ 83 ∷ 32 ∷ t) (sym (append_assoc (decimal number) (32 ∷ 49 ∷ 32 ∷ 50 ∷ []) (59 ∷ 10 ∷ [])));
  spells = record {
    gap = [];
    symbol_text = 32 ∷ decimal number;
    rest = 32 ∷ 49 ∷ 32 ∷ 50 ∷ [];
    parts = refl;
    gap_blank = refl;
    symbol_is = integer_spelled number h;
    scale_is = inr half_spelled;
  };
}

pub layer_line : (rectangles : Rectangles) (name : List ℕ) → 1 ≤ length name → list_all is_name_byte name ≡ true
    → IsLineOf rectangles (OnLayer name) (command.Layer name)
unfolding is_blank is_mark
layer_line rectangles name some passes = record {
  spelling = 76 ∷ 32 ∷ name;
  parts = refl;
  spells = record {
    front = 32 ∷ [];
    behind = [];
    parts = ap (λ t. 76 ∷ 32 ∷ t) (sym (append-nil name));
    front_blank = refl;
    some = some;
    name_bytes = passes;
    behind_blank = refl;
  };
}

-- points behind the first
vertices_spelled : (ps : List Point) → list_all is_in_range ps ≡ true → AreVertices (path_text ps) (map vertex_of ps)
unfolding is_separator is_blank is_mark
vertices_spelled [] h = refl
vertices_spelled (p ∷ ps) h =
    let parts = and_parts (is_in_range p) (list_all is_in_range ps) h in (
      record {
        separator = 32;
        spelling = bare_point p;
        rest = path_text ps;
        parts = ap (λ t. t ++ path_text ps) (point_is p);
        separated = refl;
        spelled = bare_spelled p parts.0;
      },
      vertices_spelled ps parts.1,
    )

pub path_line : (p : Point) (ps : List Point) → list_all is_in_range (p ∷ ps) ≡ true
    → IsLineOf Polygons (Path (p ∷ ps)) (command.Polygon (map vertex_of (p ∷ ps)))
unfolding is_separator is_blank is_mark
path_line p ps h =
    let parts = and_parts (is_in_range p) (list_all is_in_range ps) h in
    record {
      spelling = 80 ∷ path_text (p ∷ ps);
      parts = refl;
      spells = record {
        spelling = point_text p;
        rest = path_text ps;
        parts = refl;
        spelled = point_spelled p parts.0;
        further = vertices_spelled ps parts.1;
      };
    }

pub finish_line : (rectangles : Rectangles) → IsLineOf rectangles Finish command.Finish
finish_line rectangles = record {
  spelling = 68 ∷ 70 ∷ [];
  parts = refl;
  spells = record { gap = []; behind = []; parts = refl; gap_blank = refl; behind_blank = refl };
}

pub call_line : (rectangles : Rectangles) (number : ℕ) (turn : Turn) → number ≤ MAX_MAGNITUDE → is_in_range turn.shift ≡ true
    → IsLineOf rectangles (Call number turn) (command.Call number (changes_of turn))
call_line rectangles number turn h within = record {
  spelling = 67 ∷ ((32 ∷ decimal number) ++ turn_text turn);
  parts = refl;
  spells = record {
    symbol_text = 32 ∷ decimal number;
    rest = turn_text turn;
    parts = refl;
    symbol_is = integer_spelled number h;
    changed = turn_spelled turn within;
  };
}
