-- Where a text is refused, and why: behind good commands, by what stands there.
-- Source: Caltech Intermediate Form 2.0, its formal grammar. The kinds of faults are this project's own.
use Rattle.std.specs.Prelude.{◌≡◌, ◌⊎◌, ℕ, ◌+◌, ◌≤◌, List, [], ◌∷◌, ◌++◌, length, true, false, not, ◌==◌, Ok, Err, IsTrue, Some}
use Rattle.std.specs.List.{list_all}
use Rattle.cif_grammar.specs.Bytes.{is_blank, is_gap}
use Rattle.cif_grammar.specs.Commands.{Command}
use Rattle.cif_grammar.specs.Comments.{behind_closing}
use Rattle.cif_grammar.specs.Grammar.{AreBlanks, BeginsWith, Reads}
use Rattle.cif_read.specs.declared.content.Content.{Content}
use Rattle.cif_read.specs.declared.fault.CifFault.{CifFault}
use Rattle.cif_read.specs.declared.fault.FaultKind.TheVariants.{AfterEnd, NoEnd, Syntax}
use Rattle.cif_read.specs.declared.file.TheConstants.{MAX_TEXT}
use Rattle.cif_read.specs.Binding.{IsBoundAs}
use Rattle.cif_read.specs.Content.{content_of, effect_of, is_inside}
use Rattle.cif_read.specs.Meaning.{AnswersMeaning, begins_with_end, no_memory, unread_kind}

abbrev pub BeginsWithNoGap : List ℕ → Type 0
BeginsWithNoGap [] = Unit {0}
BeginsWithNoGap (b ∷ bs) = is_gap b ≡ false

-- blanks and empty commands, then at this offset a rest; the text stands at the first offset
pub record IsBehindGap (offset : ℕ) (text : List ℕ) (place : ℕ) (rest : List ℕ) : Type 0 where
  pub gap : List ℕ
  pub parts : text ≡ gap ++ rest
  pub passed : IsTrue (list_all is_gap gap)
  pub located : place ≡ offset + length gap
  pub no_gap : BeginsWithNoGap rest

-- a text from an offset on is these commands, each with its offset, and behind them, at this offset, a rest
abbrev pub Leaves : ℕ → List ℕ → List (ℕ × Command) → ℕ → List ℕ → Type 0
Leaves offset text [] place rest = IsBehindGap offset text place rest
Leaves offset text (c ∷ cs) place rest =
    (first : BeginsWith offset text c.0 c.1) × Leaves (c.0 + length first.spelling + 1) first.rest cs place rest

-- no command of the grammar and its semicolon stand at this offset
abbrev pub NoCommand : ℕ → List ℕ → Type 0
NoCommand place rest = (c : Command) → ¬ (BeginsWith place rest place c)

abbrev pub AreNoSemicolons : List ℕ → Type 0
AreNoSemicolons bytes = IsTrue (list_all (λ b. not (b == 59)) bytes)

-- no semicolon stands in the rest or, where it begins with a parenthesis, behind the one that closes it
abbrev pub HasNoSemicolon : List ℕ → Type 0
HasNoSemicolon rest = AreNoSemicolons rest
    ⊎ ((more : List ℕ) × (rest ≡ 40 ∷ more) × ((behind : List ℕ) → behind_closing 0 more ≡ Some behind → AreNoSemicolons behind))

-- where the bytes begin with a parenthesis, it is closed among them
abbrev pub IsOutside : List ℕ → Type 0
IsOutside bytes = (more : List ℕ) → bytes ≡ 40 ∷ more → (behind : List ℕ) × (behind_closing 0 more ≡ Some behind)

-- why a text is refused that means this so far, and of which this rest is left at this offset
pub data IsFirstFault (content : Content) (place : ℕ) (rest : List ℕ) (fault : CifFault) : Type 0 where
  -- a command stands there, and has the fault
  refused : (c : Command) → BeginsWith place rest place c → fault.offset ≡ place → effect_of content place c ≡ Err fault.kind
      → IsFirstFault content place rest fault
  -- no command stands there, though a semicolon does behind it, outside of parentheses; the first letters say which fault that is
  unread : (bytes behind : List ℕ) → rest ≡ bytes ++ (59 ∷ behind) → IsOutside bytes → begins_with_end rest ≡ false
      → NoCommand place rest → fault ≡ record { kind = unread_kind rest; offset = place } → IsFirstFault content place rest fault
  -- no semicolon ends what stands there, and neither does the text end there
  unended : HasNoSemicolon rest → begins_with_end rest ≡ false → NoCommand place rest → fault ≡ record { kind = NoEnd; offset = place }
      → IsFirstFault content place rest fault
  -- the text ends within a definition
  within : begins_with_end rest ≡ true → is_inside content.definition ≡ true → fault ≡ record { kind = Syntax; offset = place }
      → IsFirstFault content place rest fault
  -- behind the end and blanks another byte stands
  behind_end : (blanks more : List ℕ) (b : ℕ) → rest ≡ 69 ∷ (blanks ++ (b ∷ more)) → is_inside content.definition ≡ false → AreBlanks blanks
      → is_blank b ≡ false → fault ≡ record { kind = AfterEnd; offset = place + 1 + length blanks } → IsFirstFault content place rest fault

-- good commands stand before the fault
pub record HasFault (text : List ℕ) (fault : CifFault) : Type 0 where
  pub before : List (ℕ × Command)
  pub content : Content
  pub place : ℕ
  pub rest : List ℕ
  pub good : content_of before ≡ Ok content
  pub leaves : Leaves 0 text before place rest
  pub wrong : IsFirstFault content place rest fault

-- all commands are good, but a call isn't
abbrev pub HasBadCall : List ℕ → CifFault → Type 0
HasBadCall text fault = (commands : List (ℕ × Command)) × (last : Content)
    × Reads text commands × (content_of commands ≡ Ok last) × IsBoundAs last (Err fault)

-- whatever fault a text may be answered with that isn't too long, but out of memory, is one of these
abbrev pub FaultsAreWhereTheyStand : Type 0
FaultsAreWhereTheyStand = (text : List ℕ) (fault : CifFault) → length text ≤ MAX_TEXT → AnswersMeaning text (Err fault)
    → (fault ≡ no_memory) ⊎ HasFault text fault ⊎ HasBadCall text fault
