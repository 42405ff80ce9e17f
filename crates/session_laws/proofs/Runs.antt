-- Steps lead from a sound base to a history, in which operations stay.
use Rattle.std.proofs.Common.{◌≡◌, ℕ, ◌≤◌, List, [], ◌∷◌, ◌++◌, None, refl, inl, inr, sym, subst}
use Rattle.std.proofs.lemmas.List.{length-replicate}
use Rattle.lay_layouts.specs.Layout.{Layout}
use Rattle.lay_layouts.specs.Sound.{IsSound}
use Rattle.undo_rules.specs.Books.{History, IsHistory}
use Rattle.undo_rules.specs.Histories.{AreKept}
use Rattle.undo_rules.specs.Links.{Entry}
use Rattle.undo_rules.specs.Steps.{fresh}
use Rattle.undo_book.proofs.SoundLemmas.{begins_history}
use Rattle.undo_laws.proofs.Staying.{stay}
use Rattle.session_steps.specs.declared.Reply.{Reply}
use Rattle.session_steps.specs.declared.Step.{Step}
use Rattle.session_core.specs.Machine.{Ran, State, after_steps, start, step_outcome}
use Rattle.session_laws.specs.Histories.{KeepsOperations, MachinesKeepOperations, ProgramsKeepOperations, StepsLeadToHistories, setting_in}
use Rattle.session_laws.proofs.Stepping.{IsGood, stepped}
use Rattle.session_laws.proofs.Works.{no_works}

pub begins : (base : Layout) (sessions limit : ℕ) → IsSound base → sessions ≤ 64 → IsGood base (start base sessions limit)
begins base sessions limit sound few = record {
  few = subst (λ n. n ≤ 64) (sym (length-replicate sessions None)) few;
  history = begins_history (fresh base limit) sound refl refl refl refl;
  base_is = refl;
  works = no_works sessions;
}

pub goes_on : (base : Layout) (steps : List (ℕ × Step)) (replies : List Reply) (old new : State) → IsGood base old
    → Ran old steps replies new → IsGood base new
goes_on base [] [] old new good ran = subst (IsGood base) (sym ran) good
goes_on base [] (reply ∷ replies) old new good ran = absurd ran
goes_on base (step ∷ steps) [] old new good ran = absurd ran
goes_on base (step ∷ steps) (reply ∷ replies) old new good (mid, takes, rest) = goes_on base steps replies mid new now rest where
  now : IsGood base mid
  now = elim takes [
    | inl exact ↦ subst (IsGood base) (sym exact.1) (stepped base old step.0 step.1 good)
    | inr memory ↦ subst (IsGood base) (sym memory.2) good
  ]

pub all_steps : (base : Layout) (steps : List (ℕ × Step)) (old : State) → IsGood base old → IsGood base (after_steps old steps).1
all_steps base [] old good = good
all_steps base (step ∷ steps) old good =
    all_steps base steps (step_outcome old step.0 step.1).1 (stepped base old step.0 step.1 good)

pub lead : StepsLeadToHistories
lead base sessions limit steps replies final sound few ran =
    let good = goes_on base steps replies (start base sessions limit) final (begins base sessions limit sound few) ran in
    (good.history, good.base_is)

-- in a history from a base
pub stays : (base : Layout) (h : History) → IsHistory h → h.base ≡ base → KeepsOperations base h
stays base h is same before entry later earlier d rest parts live told =
    stay (setting_in base h before entry later earlier rest) d (subst IsSound same is.sound)
    (subst (λ (l : Layout). AreKept h.log l h.layout (before ++ entry ∷ later)) same
    (subst (λ (es : List Entry). AreKept h.log h.base h.layout es) parts is.kept)) live told

pub machine : MachinesKeepOperations
machine base sessions limit steps replies final sound few ran =
    let good = lead base sessions limit steps replies final sound few ran in
    stays base final.history good.0 good.1

pub program : ProgramsKeepOperations
program base sessions limit steps sound few =
    let good = all_steps base steps (start base sessions limit) (begins base sessions limit sound few) in
    stays base (after_steps (start base sessions limit) steps).1.history good.history good.base_is
