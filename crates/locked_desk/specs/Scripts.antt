-- Scripts that sessions run in threads of their own.
use Rattle.std.specs.Prelude.{List, [], ◌∷◌, length, take}
use Rattle.lay_layouts.specs.Layout.{Layout}
use Rattle.undo_rules.specs.Books.{History}
use Rattle.undo_book.specs.declared.book.TheConstants.{MAX_CALLS}
use Rattle.session_steps.specs.declared.Reply.{Reply}
use Rattle.session_steps.specs.declared.Step.{Step}
use Rattle.desk_rules.specs.Close.{empty_seats}
use Rattle.desk_rules.specs.Legal.{Desk}
use Rattle.locked_desk.specs.Runs.{IsDeskRun}

-- one script that takes no step, where there are none
abbrev pub or_one : List (List Step) → List (List Step)
or_one [] = [] ∷ []
or_one (steps ∷ scripts) = steps ∷ scripts

-- the scripts of a desk, which has at most 64 sessions
abbrev pub desk_scripts : List (List Step) → List (List Step)
desk_scripts scripts = take 64 (or_one scripts)

-- a desk of this layout, with as many sessions as scripts
abbrev pub desk_for : Layout → List (List Step) → Desk
desk_for base scripts = record { base = base; sessions = length scripts; limit = MAX_CALLS }

-- a new such desk ran these scripts with these replies, and closed with this book
abbrev pub RunsOn : Layout → List (List Step) → List (List Reply) → History → Type 0
RunsOn base scripts replies book = IsDeskRun (desk_for base scripts) (empty_seats (length scripts)) scripts replies book

-- the same of the scripts of a job
abbrev pub RunsScripts : Layout → List (List Step) → List (List Reply) → History → Type 0
RunsScripts base scripts replies book = RunsOn base (desk_scripts scripts) replies book
