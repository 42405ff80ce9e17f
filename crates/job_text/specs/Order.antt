-- The order in which the sessions' steps ran, as far as the log of the book has it.
-- Source: this project's own.
-- Checked on: the eight steps of examples/first-run.job, in the order 1 2 1 2 1 2 1 1, are
-- `(order 1 2 1 1 2 2 1 1);`, since its session 2 draws, unlogged, before session 1 commits;
-- sixteen numbers are one line, seventeen are two.
use Rattle.std.specs.Prelude.{ℕ, zero, suc, ◌+◌, ◌-◌, ◌%◌, List, [], ◌∷◌, ◌++◌, codes}
use Rattle.std.specs.Prelude.{decimal, drop, length, replicate, Bool, true, false, ◌||◌, ◌==◌}
use Rattle.std.specs.Prelude.{if◌then◌else◌, option_map, slice_get, slice_index, slice_set, unwrap_or}
use Rattle.std.specs.List.{position}
use Rattle.undo_rules.specs.declared.log.BookFault.{BookFault}
use Rattle.undo_rules.specs.declared.log.BookFault.TheVariants.{LogFull, Foreign, NoMemory}
use Rattle.undo_rules.specs.declared.log.Logged.{Logged}
use Rattle.session_steps.specs.declared.Reply.{Reply}
use Rattle.session_steps.specs.declared.Reply.TheVariants.{Opened, Done, Committed, Cancelled, Undone, Redone, Fault}
use Rattle.session_steps.specs.declared.StepFault.TheVariants.{Book}

-- whether the log has the call that was refused so
abbrev pub is_logged_fault : BookFault → Bool
is_logged_fault LogFull = false
is_logged_fault NoMemory = false
is_logged_fault Foreign = false
is_logged_fault fault = true

-- whether the log has the call of a step that was answered so
abbrev pub is_logged : Reply → Bool
is_logged (Opened txn) = true
is_logged (Done done) = false
is_logged (Committed txn) = true
is_logged Cancelled = false
is_logged Undone = true
is_logged Redone = true
is_logged (Fault (Book fault)) = is_logged_fault fault
is_logged (Fault fault) = false

-- how many steps there are up to and with the first logged one, or all
abbrev pub steps_to_logged : List Reply → ℕ
steps_to_logged replies = unwrap_or (option_map (λ n. n + 1) (position is_logged replies)) (length replies)

-- the replies of the session of this number, from 1
abbrev pub replies_of : List (List Reply) → ℕ → List Reply
replies_of sessions zero = []
replies_of sessions (suc index) = unwrap_or (slice_get sessions index) []

-- the replies of a session to steps that aren't in the order so far, of which it has so many of each session
abbrev pub replies_left : List (List Reply) → List ℕ → ℕ → List Reply
replies_left sessions taken session = drop (slice_index taken session) (replies_of sessions session)

-- what is left of the sessions from this number on, one session after the other
abbrev pub rest_from : ℕ → List (List Reply) → List ℕ → List ℕ
rest_from session [] taken = []
rest_from session (replies ∷ sessions) taken =
    replicate (length replies - slice_index taken session) session ++ rest_from (session + 1) sessions taken

-- how many steps a logged call adds: those of its session up to and with its own
abbrev pub steps_up_to : List (List Reply) → List ℕ → Logged → ℕ
steps_up_to sessions taken call = steps_to_logged (replies_left sessions taken call.session)

-- with so many more steps of the session
abbrev pub with_taken : List ℕ → ℕ → ℕ → List ℕ
with_taken taken session more = slice_set taken session (slice_index taken session + more)

-- the order from here on, where the order so far has so many steps of each session
abbrev pub order_behind : List (List Reply) → List ℕ → List Logged → List ℕ
order_behind sessions taken [] = rest_from 1 sessions taken
order_behind sessions taken (call ∷ log) =
    replicate (steps_up_to sessions taken call) call.session
    ++ order_behind sessions (with_taken taken call.session (steps_up_to sessions taken call)) log

-- For each logged call its session's number, once for each step of the session behind its last logged one, up to and
-- with the call's. After the log the steps that are left.
abbrev pub order_of : List Logged → List (List Reply) → List ℕ
order_of log sessions = order_behind sessions (replicate 256 0) log

-- a number of the order, in comments of sixteen numbers, one a line: its place, and whether it is the last
unfoldable pub order_number_text : ℕ → Bool → ℕ → List ℕ
order_number_text place last number =
    (if place % 16 == 0 then codes "(order" else []) ++ codes " " ++ decimal number ++
    (if (place + 1) % 16 == 0 || last then codes ");\n" else [])

-- the numbers of the order from this place on
abbrev pub order_from : ℕ → List ℕ → List ℕ
order_from place [] = []
order_from place (number ∷ behind) = order_number_text place (length behind == 0) number ++ order_from (place + 1) behind

abbrev pub order_text : List ℕ → List ℕ
order_text order = order_from 0 order
