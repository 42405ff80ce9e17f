-- What a text means.
-- Source: Caltech Intermediate Form 2.0. Wires, round flashes and deletions of definitions are refused by their first letters;
-- that is this project's own.
-- The limit of a text is this project's own too.
-- Checked on: 16,777,215 blanks and an `E` are read; with a `;` after them the text is TooMany at
-- 0, and no longer AfterEnd.
use Rattle.std.specs.Prelude.{◌≡◌, ◌⊎◌, ℕ, ◌==◌, nat_lt, List, [], ◌∷◌, length, Bool, false, Option, Some, None, Result, Ok, Err}
use Rattle.std.specs.Prelude.{if◌then◌else◌}
use Rattle.cif_grammar.specs.Bytes.{is_blank, skip}
use Rattle.cif_grammar.specs.Cutting.{Breaks, Cut, Ending, Ends, cut}
use Rattle.cif_grammar.specs.Reading.{command_of}
use Rattle.cif_read.specs.declared.content.Content.{Content}
use Rattle.cif_read.specs.declared.fault.CifFault.{CifFault}
use Rattle.cif_read.specs.declared.fault.FaultKind.{FaultKind}
use Rattle.cif_read.specs.declared.fault.FaultKind.TheVariants.{AfterEnd, DeleteDef, Flash, NoEnd, NoMemory, Syntax, TooMany, Wire}
use Rattle.cif_read.specs.declared.file.TheConstants.{MAX_TEXT}
use Rattle.cif_read.specs.Binding.{IsBoundAs}
use Rattle.cif_read.specs.Content.{effect_of, empty_content, is_inside}
use Rattle.cif_read.specs.Contents.{Contents}
use Rattle.cif_read.specs.Steps.{and_then, at_offset}

-- a deletion of definitions is a `D` behind the `D` and blanks
abbrev pub definition_kind : List ℕ → FaultKind
definition_kind [] = Syntax
definition_kind (b ∷ bs) = if b == 68 then DeleteDef else Syntax

-- what is wrong with bytes that are no command of the grammar, by their first letters
unfoldable pub unread_kind : List ℕ → FaultKind
unread_kind [] = Syntax
unread_kind (b ∷ bs) =
    if b == 87 then Wire
    else if b == 82 then Flash
    else if b == 68 then definition_kind (skip is_blank bs)
    else Syntax

-- the effect of what was read, or this fault where nothing was
abbrev pub read_as : {A : Type 0} → FaultKind → (A → Result Content FaultKind) → Option A → Result Content FaultKind
read_as kind effect None = Err kind
read_as kind effect (Some x) = effect x

-- what is meant after the bytes of the command at this offset
abbrev pub after_piece : Content → ℕ → List ℕ → Result Content FaultKind
after_piece content offset bytes = read_as (unread_kind bytes) (effect_of content offset) (command_of bytes)

unfoldable pub after_bytes : Content → ℕ → List ℕ → Result Content CifFault
after_bytes content offset bytes = at_offset offset (after_piece content offset bytes)

-- a fault of this kind at this offset
abbrev pub fault_at : {A : Type 0} → FaultKind → ℕ → Result A CifFault
fault_at kind offset = Err (record { kind = kind; offset = offset })

-- what is meant where something other than blanks stands behind the `E`, or nothing
abbrev pub after_end : Content → Option ℕ → Result Content CifFault
after_end content None = Ok content
after_end content (Some offset) = fault_at AfterEnd offset

-- what is meant at the end of a text
abbrev pub at_ending : Content → Ending → Result Content CifFault
at_ending content (Breaks offset) = fault_at NoEnd offset
at_ending content (Ends offset behind) = if is_inside content.definition then fault_at Syntax offset else after_end content behind

-- the bytes begin with the `E` that ends a text
abbrev pub begins_with_end : List ℕ → Bool
begins_with_end [] = false
begins_with_end (b ∷ bs) = b == 69

-- what is meant after commands with their offsets and the end behind them
unfoldable pub after_pieces : Content → List (ℕ × List ℕ) → Ending → Result Content CifFault
after_pieces content [] ending = at_ending content ending
after_pieces content (p ∷ ps) ending = and_then (after_bytes content p.0 p.1) (λ next. after_pieces next ps ending)

abbrev pub after_cut : Content → Cut → Result Content CifFault
after_cut content c = after_pieces content c.pieces c.ending

-- what a text that isn't too long means before its calls are bound, or its first fault
unfoldable pub content_in : List ℕ → Result Content CifFault
content_in text = after_cut empty_content (cut text)

-- a text is too long
abbrev pub too_long : CifFault
too_long = record { kind = TooMany; offset = 0 }

-- an allocation failed
abbrev pub no_memory : CifFault
no_memory = record { kind = NoMemory; offset = 0 }

-- the same of any text: one that is too long has that fault before any other
abbrev pub content_within : List ℕ → Result Content CifFault
content_within text = if nat_lt MAX_TEXT (length text) then Err too_long else content_in text

-- what is meant where this is meant before the calls are bound
abbrev pub IsEndOf : Result Content CifFault → Result Contents CifFault → Type 0
IsEndOf (Err fault) result = result ≡ Err fault
IsEndOf (Ok content) result = IsBoundAs content result

-- the meaning of a text, or its first fault
abbrev pub IsMeaning : List ℕ → Result Contents CifFault → Type 0
IsMeaning text result = IsEndOf (content_within text) result

-- the same, or out of memory in its place
abbrev pub AnswersMeaning : List ℕ → Result Contents CifFault → Type 0
AnswersMeaning text result = (result ≡ Err no_memory) ⊎ IsMeaning text result
