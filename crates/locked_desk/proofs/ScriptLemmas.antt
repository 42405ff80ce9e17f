-- As many sessions reply as have scripts.
use Rattle.std.proofs.Common.{◌≡◌, ◌≤◌, ◌+◌, ℕ, suc, List, [], ◌∷◌, length, arith, refl, ap}
use Rattle.std.proofs.lemmas.List.{length-take}
use Rattle.lay_layouts.specs.Layout.{Layout}
use Rattle.undo_rules.specs.Books.{History}
use Rattle.session_steps.specs.declared.Reply.{Reply}
use Rattle.session_steps.specs.declared.Step.{Step}
use Rattle.desk_rules.specs.Legal.{Desk}
use Rattle.desk_rules.specs.Seats.{Seat}
use Rattle.locked_desk.specs.Runs.{AllRan}
use Rattle.locked_desk.specs.Scripts.{RunsScripts, desk_for, desk_scripts, or_one}

pub few_scripts : (scripts : List (List Step)) → length (desk_scripts scripts) ≤ 64
few_scripts scripts = let taken = length-take 64 (or_one scripts) in omega (arith, taken)

as_many : (desk : Desk) (n : ℕ) (seats : List Seat) (scripts : List (List Step)) (replies : List (List Reply)) (ends : List Seat)
    → AllRan desk n seats scripts replies ends → length replies ≡ length scripts
as_many desk n [] [] [] [] ran = refl
as_many desk n (s ∷ ss) (steps ∷ scripts) (r ∷ rs) (e ∷ es) ran = ap suc (as_many desk (n + 1) ss scripts rs es ran.2)
as_many desk n [] (steps ∷ scripts) replies ends ran = absurd ran
as_many desk n [] [] (r ∷ rs) ends ran = absurd ran
as_many desk n [] [] [] (e ∷ es) ran = absurd ran
as_many desk n (s ∷ ss) [] replies ends ran = absurd ran
as_many desk n (s ∷ ss) (steps ∷ scripts) [] ends ran = absurd ran
as_many desk n (s ∷ ss) (steps ∷ scripts) (r ∷ rs) [] ran = absurd ran

-- so at most 64 do
pub few_replies : (base : Layout) (scripts : List (List Step)) (replies : List (List Reply)) (book : History)
    → RunsScripts base scripts replies book → length replies ≤ 64
few_replies base scripts replies book run =
    let same = as_many (desk_for base (desk_scripts scripts)) 1 run.seats (desk_scripts scripts) replies
    run.ends run.ran in
    let few = few_scripts scripts in
    omega (arith, same, few)
