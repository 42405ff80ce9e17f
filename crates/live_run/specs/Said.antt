-- What is said in a live run, once these lines came.
use Rattle.std.specs.Prelude.{◌≡◌, ℕ, List, [], ◌∷◌, ◌++◌, Bool, true, false, replicate, Option, None, Some, Ok}
use Rattle.cif_names.specs.declared.names.Names.{Names}
use Rattle.cif_read.specs.Contents.{Contents}
use Rattle.cif_read.specs.Meaning.{IsMeaning}
use Rattle.cif_write.specs.Text.{text}
use Rattle.cif_layout.specs.FromCif.{layout_of}
use Rattle.lay_layouts.specs.Layout.{Layout}
use Rattle.session_steps.specs.Turns.{dealt}
use Rattle.job_text.specs.Order.{order_of, order_text}
use Rattle.live_run.specs.declared.ending.EndNotes.{EndNotes}
use Rattle.live_run.specs.declared.showing.Showing.{Showing}
use Rattle.live_run.specs.declared.showing.View.{View}
use Rattle.live_run.specs.Live.{LiveRun, Said, after_line, after_lines, before_first_line, has_refused}
use Rattle.live_run.specs.Cif.{behind, cif_of}
use Rattle.live_run.specs.Shown.{IsShown, IsShownNaming, left_out_of, text_named, view_of}

-- the text of a layout that is written behind other bytes, if one is
abbrev pub shown_text : Option Layout → List ℕ
shown_text None = []
shown_text (Some layout) = text layout

-- the same, with the names and labels that these have for it
abbrev pub shown_named : Option Names → Option Layout → List ℕ
shown_named names None = []
shown_named names (Some layout) = text_named names layout

-- what is seen of the layout in an answer, by whether it is wanted
abbrev pub IsShownIn : Bool → View → Layout → Option Layout → Type 0
IsShownIn false view layout seen = seen ≡ None
IsShownIn true view layout seen = (shown : Layout) × IsShown view.oriented layout shown × (seen ≡ Some shown)

-- what a line is answered, where the layout is as the line left it: a comment, and the layout where it is wanted
abbrev pub IsSaidText : LiveRun × Said → List ℕ → Type 0
IsSaidText took said =
    (seen : Option Layout) × IsShownIn took.1.1 took.0.view took.0.state.history.layout seen
    × (said ≡ took.1.0 ++ shown_named took.0.view.names seen)

-- what these lines are answered, in order
abbrev pub AreAnswered : LiveRun → List (List ℕ) → List ℕ → Type 0
AreAnswered run [] said = said ≡ []
AreAnswered run (line ∷ lines) said =
    (first rest : List ℕ) × IsSaidText (after_line run line) first × AreAnswered (after_line run line).0 lines rest × (said ≡ first ++ rest)

-- the order of the steps
abbrev pub order_said : LiveRun → List ℕ
order_said run = order_text (order_of run.state.history.log (dealt run.sessions run.replies (replicate 64 [])))

-- what is written at the end: the order of the steps, and the layout
abbrev pub IsClosing : LiveRun → List ℕ → Type 0
IsClosing run said =
    (seen : Layout) × IsShown run.view.oriented run.state.history.layout seen × (said ≡ order_said run ++ text_named run.view.names seen)

-- the same, and these are the notes of the layout that is written then
abbrev pub IsNotedClosing : LiveRun → EndNotes → List ℕ → Type 0
IsNotedClosing run notes said =
    (seen : Layout) × IsShownNaming run.view.oriented run.state.history.layout seen notes.staying notes.first.items
    × (notes.left_out ≡ left_out_of run.view.names) × (said ≡ order_said run ++ text_named run.view.names seen)

-- a run before its first line, whose CIF text is this and means this
abbrev pub first_run : Showing → List ℕ → Contents → LiveRun
first_run showing cif file = before_first_line (view_of showing cif) (layout_of file)

-- so a run begins behind these lines, with their CIF text
abbrev pub IsFirstRun : Showing → List (List ℕ) → LiveRun → Type 0
IsFirstRun showing lines first =
    (cif : List ℕ) × (file : Contents) × (cif_of lines ≡ Ok cif) × IsMeaning cif (Ok file) × (first ≡ first_run showing cif file)

-- what is said, by the lines behind the live line
abbrev pub IsSaidBehind : Showing → List (List ℕ) → Option (List (List ℕ)) → List ℕ → Type 0
IsSaidBehind showing lines None said = said ≡ []
IsSaidBehind showing lines (Some fed) said = (first : LiveRun) × IsFirstRun showing lines first × AreAnswered first fed said

-- what is said once these lines came: nothing before the live line, and behind it the answer of each line
abbrev pub IsSaid : Showing → List (List ℕ) → List ℕ → Type 0
IsSaid showing lines said = IsSaidBehind showing lines (behind lines) said

-- what is said in all where these lines were all
abbrev pub IsWhole : Showing → List (List ℕ) → List ℕ → Type 0
IsWhole showing lines said =
    (fed : List (List ℕ)) × (first : LiveRun) × (behind lines ≡ Some fed) × IsFirstRun showing lines first
    × (answered closed : List ℕ) × AreAnswered first fed answered × IsClosing (after_lines first fed) closed
    × (said ≡ answered ++ closed)

-- the same, and these are the notes of the layout at the end
abbrev pub IsNotedWhole : Showing → List (List ℕ) → EndNotes → List ℕ → Type 0
IsNotedWhole showing lines notes said =
    (fed : List (List ℕ)) × (first : LiveRun) × (behind lines ≡ Some fed) × IsFirstRun showing lines first
    × (answered closed : List ℕ) × AreAnswered first fed answered × IsNotedClosing (after_lines first fed) notes closed
    × (said ≡ answered ++ closed)

-- where these lines were all, a step of theirs was refused, or none was
abbrev pub HaveRefused : Showing → List (List ℕ) → Bool → Type 0
HaveRefused showing lines refused =
    (fed : List (List ℕ)) × (first : LiveRun) × (behind lines ≡ Some fed) × IsFirstRun showing lines first
    × (refused ≡ has_refused (after_lines first fed))
