-- Which layer lines of a text are idle, and how a text ends.
-- Source: Caltech Intermediate Form 2.0: a primitive is on the layer that was set last, and a symbol's
-- definition begins with none.
-- Checked on: a second `L NM;` before a second path on `NM` would be idle, and so would one with a
-- call or `DF;` after it.
use Rattle.std.specs.Prelude.{◌≡◌, ◌≢◌, ℕ, List, [], ◌∷◌, ◌++◌, Option, None, Some, codes}
use Rattle.lay_layouts.specs.Layout.{Layout}
use Rattle.cif_write.specs.Lines.{Line, Start, OnLayer, Path, Finish, Call, End, lines_text}
use Rattle.cif_write.specs.Text.{file_lines, text}
use Rattle.cif_write.specs.Wrap.{written}

-- the first of the lines is a path
abbrev pub BeginsWithPath : List Line → Type 0
BeginsWithPath (Path points ∷ lines) = Unit {0}
BeginsWithPath _ = ⊥

-- each layer line sets another layer than is set, and a path comes next
abbrev pub NoneIdle : Option (List ℕ) → List Line → Type 0
NoneIdle set [] = Unit {0}
NoneIdle set (Start number ∷ lines) = NoneIdle None lines
NoneIdle set (OnLayer name ∷ lines) = (set ≢ Some name) × BeginsWithPath lines × NoneIdle (Some name) lines
NoneIdle set (Path points ∷ lines) = NoneIdle set lines
NoneIdle set (Finish ∷ lines) = NoneIdle None lines
NoneIdle set (Call number turn ∷ lines) = NoneIdle set lines
NoneIdle set (End ∷ lines) = NoneIdle set lines

-- the last line is the end, and so the text's last bytes are `E` and a newline
abbrev pub EndsWithEnd : Layout → Type 0
EndsWithEnd layout = (before : List Line) × (file_lines (written layout) ≡ before ++ End ∷ [])
    × (text layout ≡ lines_text before ++ codes "E\n")
