-- The grammar of a text, apart from any way of reading it.
-- Source: Caltech Intermediate Form 2.0, its formal grammar. A separator is an upper-case letter or a blank. That a layer's
-- name may have any length here, that bytes from 128 on stand in extensions and comments alone, and that blanks may stand
-- before the `E` where no command comes before, are this project's own.
-- That wires, round flashes and deletions of definitions are left out is this project's own too.
-- Checked on: `(a (b;) c); L A; Box 4 6 0 0 D0 1; E` is a comment at 0, a layer at 12, a box at 17
-- and the end; in `C 1 T 1 T 2 0` the second `T` separates the two numbers of the one shift, and
-- the 0 is left over, so it is in no text, and neither are `L A B` and `M TX`; `DSF 1 2 3` and
-- `D SX1` are definitions.
use Rattle.std.specs.Prelude.{◌≡◌, ◌⊎◌, ℕ, ◌+◌, ◌≤◌, ◌==◌, List, [], ◌∷◌, ◌++◌, length, Bool, true, false, not, Option, None, Some, IsTrue}
use Rattle.std.specs.Prelude.{◌||◌, ◌&&◌}
use Rattle.std.specs.List.{list_all}
use Rattle.lay_point.specs.Names.{is_digit, is_name_byte}
use Rattle.cif_grammar.specs.Bytes.{is_blank, is_gap, is_separator}
use Rattle.cif_grammar.specs.ScanGrammar.{IsInteger, IsSigned}
use Rattle.cif_grammar.specs.declared.boxes.BoxNumbers.{BoxNumbers}
use Rattle.cif_grammar.specs.declared.calls.Change.{Change}
use Rattle.cif_grammar.specs.declared.calls.Change.TheVariants.{Direction, MirrorX, MirrorY, Shift}
use Rattle.cif_grammar.specs.declared.definitions.Definition.{Definition}
use Rattle.cif_grammar.specs.declared.definitions.Scale.{Scale}
use Rattle.cif_grammar.specs.declared.paths.Vertex.{Vertex}
use Rattle.cif_grammar.specs.Commands.{Box, Call, Command, Comment, Extension, Finish, Layer, Polygon, Start}
use Rattle.cif_grammar.specs.Definitions.{plain_scale}

abbrev pub AreBlanks : List ℕ → Type 0
AreBlanks text = IsTrue (list_all is_blank text)

-- ---- points and paths

-- signed separator signed
pub record IsVertex (text : List ℕ) (v : Vertex) : Type 0 where
  pub x_text : List ℕ
  pub separator : ℕ
  pub y_text : List ℕ
  pub parts : text ≡ x_text ++ (separator ∷ y_text)
  pub x_is : IsSigned x_text v.x
  pub separated : IsTrue (is_separator separator)
  pub y_is : IsSigned y_text v.y

-- separator point, and a rest
pub record NextVertex (text : List ℕ) (v : Vertex) : Type 0 where
  pub separator : ℕ
  pub spelling : List ℕ
  pub rest : List ℕ
  pub parts : text ≡ separator ∷ (spelling ++ rest)
  pub separated : IsTrue (is_separator separator)
  pub spelled : IsVertex spelling v

-- {separator point} {blank}
abbrev pub AreVertices : List ℕ → List Vertex → Type 0
AreVertices text [] = AreBlanks text
AreVertices text (v ∷ vs) = (first : NextVertex text v) × AreVertices first.rest vs

-- "P" point {separator point} {blank}
pub record IsPath (text : List ℕ) (v : Vertex) (vs : List Vertex) : Type 0 where
  pub spelling : List ℕ
  pub rest : List ℕ
  pub parts : text ≡ 80 ∷ (spelling ++ rest)
  pub spelled : IsVertex spelling v
  pub further : AreVertices rest vs

abbrev pub IsPolygon : List ℕ → List Vertex → Type 0
IsPolygon text [] = ⊥
IsPolygon text (v ∷ vs) = IsPath text v vs

-- ---- boxes and layers

-- [separator point] {blank}
abbrev pub IsDirection : List ℕ → Option Vertex → Type 0
IsDirection text None = AreBlanks text
IsDirection text (Some v) = (next : NextVertex text v) × AreBlanks next.rest

-- "B" integer separator integer separator point [separator point] {blank}
pub record IsBox (text : List ℕ) (b : BoxNumbers) : Type 0 where
  pub length_text : List ℕ
  pub before_width : ℕ
  pub width_text : List ℕ
  pub rest : List ℕ
  pub parts : text ≡ 66 ∷ (length_text ++ (before_width ∷ (width_text ++ rest)))
  pub length_is : IsInteger length_text b.length
  pub width_separated : IsTrue (is_separator before_width)
  pub width_is : IsInteger width_text b.width
  pub centre : NextVertex rest b.centre
  pub direction : IsDirection centre.rest b.direction

-- "L" {blank} name {blank}
pub record IsLayer (text name : List ℕ) : Type 0 where
  pub front : List ℕ
  pub behind : List ℕ
  pub parts : text ≡ 76 ∷ (front ++ (name ++ behind))
  pub front_blank : AreBlanks front
  pub some : 1 ≤ length name
  pub name_bytes : IsTrue (list_all is_name_byte name)
  pub behind_blank : AreBlanks behind

-- ---- definitions

-- separator integer separator integer {blank}
pub record IsWrittenScale (text : List ℕ) (scale : Scale) : Type 0 where
  pub before_numerator : ℕ
  pub numerator_text : List ℕ
  pub before_denominator : ℕ
  pub denominator_text : List ℕ
  pub behind : List ℕ
  pub parts : text ≡ before_numerator ∷ (numerator_text ++ (before_denominator ∷ (denominator_text ++ behind)))
  pub numerator_separated : IsTrue (is_separator before_numerator)
  pub numerator_is : IsInteger numerator_text scale.numerator
  pub denominator_separated : IsTrue (is_separator before_denominator)
  pub denominator_is : IsInteger denominator_text scale.denominator
  pub behind_blank : AreBlanks behind

-- [separator integer separator integer] {blank}; none is 1/1
abbrev pub IsScale : List ℕ → Scale → Type 0
IsScale text scale = (AreBlanks text × (plain_scale ≡ scale)) ⊎ IsWrittenScale text scale

-- "D" {blank} "S" integer [separator integer separator integer] {blank}
pub record IsStart (text : List ℕ) (d : Definition) : Type 0 where
  pub gap : List ℕ
  pub symbol_text : List ℕ
  pub rest : List ℕ
  pub parts : text ≡ 68 ∷ (gap ++ (83 ∷ (symbol_text ++ rest)))
  pub gap_blank : AreBlanks gap
  pub symbol_is : IsInteger symbol_text d.symbol
  pub scale_is : IsScale rest d.scale

-- "D" {blank} "F" {blank}
pub record IsDefinitionFinish (text : List ℕ) : Type 0 where
  pub gap : List ℕ
  pub behind : List ℕ
  pub parts : text ≡ 68 ∷ (gap ++ (70 ∷ behind))
  pub gap_blank : AreBlanks gap
  pub behind_blank : AreBlanks behind

-- ---- calls

-- a letter and a point
abbrev pub IsPointChange : ℕ → List ℕ → Vertex → Type 0
IsPointChange letter text v = (point : List ℕ) × (text ≡ letter ∷ point) × IsVertex point v

-- "M" {blank} and the letter of an axis
pub record IsMirror (axis : ℕ) (text : List ℕ) : Type 0 where
  pub gap : List ℕ
  pub parts : text ≡ 77 ∷ (gap ++ (axis ∷ []))
  pub gap_blank : AreBlanks gap

-- "T" point, "M" {blank} "X", "M" {blank} "Y" or "R" point
abbrev pub IsChange : List ℕ → Change → Type 0
IsChange text (Shift v) = IsPointChange 84 text v
IsChange text MirrorX = IsMirror 88 text
IsChange text MirrorY = IsMirror 89 text
IsChange text (Direction v) = IsPointChange 82 text v

-- {blank} change, and a rest
pub record NextChange (text : List ℕ) (c : Change) : Type 0 where
  pub gap : List ℕ
  pub spelling : List ℕ
  pub rest : List ℕ
  pub parts : text ≡ gap ++ (spelling ++ rest)
  pub gap_blank : AreBlanks gap
  pub spelled : IsChange spelling c

-- { {blank} change } {blank}
abbrev pub AreCallChanges : List ℕ → List Change → Type 0
AreCallChanges text [] = AreBlanks text
AreCallChanges text (c ∷ cs) = (first : NextChange text c) × AreCallChanges first.rest cs

-- "C" integer { {blank} change } {blank}
pub record IsCall (text : List ℕ) (symbol : ℕ) (changes : List Change) : Type 0 where
  pub symbol_text : List ℕ
  pub rest : List ℕ
  pub parts : text ≡ 67 ∷ (symbol_text ++ rest)
  pub symbol_is : IsInteger symbol_text symbol
  pub changed : AreCallChanges rest changes

-- ---- extensions and comments

-- digit {any byte but ";"}
pub record IsExtension (text : List ℕ) : Type 0 where
  pub digit : ℕ
  pub rest : List ℕ
  pub parts : text ≡ digit ∷ rest
  pub begins : IsTrue (is_digit digit)
  pub plain : IsTrue (list_all (λ b. not (b == 59)) rest)

-- bytes in which parentheses match: none, a byte that is no parenthesis and more, or such bytes in parentheses and more
pub data Matched : Type 0 where
  nothing : Matched
  byte : ℕ → Matched → Matched
  within : Matched → Matched → Matched

abbrev pub matched_text : Matched → List ℕ
matched_text nothing = []
matched_text (byte b more) = b ∷ matched_text more
matched_text (within inner more) = 40 ∷ (matched_text inner ++ (41 ∷ matched_text more))

-- no single byte is a parenthesis
abbrev pub is_free : Matched → Bool
is_free nothing = true
is_free (byte b more) = not (b == 40 || b == 41) && is_free more
is_free (within inner more) = is_free inner && is_free more

-- "(" text ")" {blank}
pub record IsComment (text : List ℕ) : Type 0 where
  pub inside : Matched
  pub behind : List ℕ
  pub parts : text ≡ 40 ∷ (matched_text inside ++ (41 ∷ behind))
  pub free : IsTrue (is_free inside)
  pub behind_blank : AreBlanks behind

-- ---- whole texts

-- a command and the blanks before its semicolon
abbrev pub Spells : List ℕ → Command → Type 0
Spells text (Polygon vertices) = IsPolygon text vertices
Spells text (Box b) = IsBox text b
Spells text (Layer name) = IsLayer text name
Spells text (Start d) = IsStart text d
Spells text Finish = IsDefinitionFinish text
Spells text (Call symbol changes) = IsCall text symbol changes
Spells text Extension = IsExtension text
Spells text Comment = IsComment text

-- a definition begins outside of any other, and what ends is inside one
abbrev pub may_stand : Bool → Command → Bool
may_stand inside (Polygon vertices) = true
may_stand inside (Box b) = true
may_stand inside (Layer name) = true
may_stand inside (Start d) = not inside
may_stand inside Finish = inside
may_stand inside (Call symbol changes) = true
may_stand inside Extension = true
may_stand inside Comment = true

-- whether what follows a command is inside a definition
abbrev pub inside_after : Bool → Command → Bool
inside_after inside (Polygon vertices) = inside
inside_after inside (Box b) = inside
inside_after inside (Layer name) = inside
inside_after inside (Start d) = true
inside_after inside Finish = false
inside_after inside (Call symbol changes) = inside
inside_after inside Extension = inside
inside_after inside Comment = inside

-- blanks and empty commands, "E", blanks
pub record IsTextEnd (text : List ℕ) : Type 0 where
  pub gap : List ℕ
  pub behind : List ℕ
  pub parts : text ≡ gap ++ (69 ∷ behind)
  pub passed : IsTrue (list_all is_gap gap)
  pub behind_blank : AreBlanks behind

-- blanks and empty commands, then at this offset a command and its semicolon, and a rest; the text stands at the first offset
pub record BeginsWith (offset : ℕ) (text : List ℕ) (place : ℕ) (command : Command) : Type 0 where
  pub gap : List ℕ
  pub spelling : List ℕ
  pub rest : List ℕ
  pub parts : text ≡ gap ++ (spelling ++ (59 ∷ rest))
  pub passed : IsTrue (list_all is_gap gap)
  pub located : place ≡ offset + length gap
  pub spells : Spells spelling command

-- the rest of a text from an offset on, inside a definition or not, is these commands, each with its offset, and the end
abbrev pub ReadsFrom : Bool → ℕ → List ℕ → List (ℕ × Command) → Type 0
ReadsFrom inside offset text [] = IsTextEnd text × (inside ≡ false)
ReadsFrom inside offset text (c ∷ cs) =
    (first : BeginsWith offset text c.0 c.1) × IsTrue (may_stand inside c.1)
    × ReadsFrom (inside_after inside c.1) (c.0 + length first.spelling + 1) first.rest cs

-- a text is these commands, each with its offset, and the end
abbrev pub Reads : List ℕ → List (ℕ × Command) → Type 0
Reads text commands = ReadsFrom false 0 text commands
