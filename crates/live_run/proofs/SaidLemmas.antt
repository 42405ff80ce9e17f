-- What is written of a layout and of an answer.
use Rattle.std.proofs.Common.{◌≡◌, ℕ, List, ◌++◌, Bool, true, Option, Some, Result, Ok, Err, IfOk, refl, sym, ap, ◌∙◌, subst}
use Rattle.cif_names.specs.declared.names.Names.{Names}
use Rattle.lay_layouts.specs.Layout.{Layout}
use Rattle.lay_oriented.specs.Directed.{IsDirectedNaming}
use Rattle.lay_oriented.specs.declared.directing.Directed.{Directed}
use Rattle.live_run.specs.declared.showing.View.{View}
use Rattle.live_run.specs.declared.course.Course.TheVariants.{Steps}
use Rattle.live_run.specs.declared.ending.EndNotes.{EndNotes}
use Rattle.live_run.specs.declared.ending.LiveEnd.{LiveEnd}
use Rattle.live_run.specs.declared.live.Live.{Live}
use Rattle.live_run.specs.Course.{AnswersTo, GivesTo, InSteps}
use Rattle.live_run.specs.Journal.{KeptText}
use Rattle.live_run.specs.Live.{LiveRun, Said, run_of}
use Rattle.live_run.specs.Said.{IsClosing, IsNotedClosing, IsSaidText, IsShownIn, shown_named, order_said}
use Rattle.live_run.specs.Shown.{IsShown, IsShownNaming, left_out_of, text_named}

-- a layout that was directed is seen so
pub seen_directed : {E : Type 0} (oriented : Bool) (layout : Layout) (result : Result Directed E) → oriented ≡ true
    → IfOk result (λ d. IsDirectedNaming layout d.layout d.staying d.first.items) → IfOk result (λ d. IsShown oriented layout d.layout)
seen_directed oriented layout (Ok d) is (stays, count, named, but) =
    subst (λ o. IsShown o layout d.layout) (sym is) (d.staying, (stays, count, but))
seen_directed oriented layout (Err e) is none = none

-- and what stays is noted
pub noted_directed : {E : Type 0} (oriented : Bool) (layout : Layout) (result : Result Directed E) → oriented ≡ true
    → IfOk result (λ d. IsDirectedNaming layout d.layout d.staying d.first.items)
    → IfOk result (λ d. IsShownNaming oriented layout d.layout d.staying d.first.items)
noted_directed oriented layout (Ok d) is so = subst (λ o. IsShownNaming o layout d.layout d.staying d.first.items) (sym is) so
noted_directed oriented layout (Err e) is none = none

-- of an answer that wants the layout this one is seen
pub seen_one : (wanted : Bool) (view : View) (layout seen : Layout) → wanted ≡ true → IsShown view.oriented layout seen
    → IsShownIn wanted view layout (Some seen)
seen_one wanted view layout seen is so = subst (λ w. IsShownIn w view layout (Some seen)) (sym is) (seen, so, refl)

-- so a line is answered that leaves this run
pub said_by : (run : LiveRun) (said : Said) (view : View) (layout : Layout) (names : Option Names) (seen : Option Layout)
    (words : List ℕ) → view ≡ run.view → layout ≡ run.state.history.layout → names ≡ run.view.names → IsShownIn said.1 view layout seen
    → words ≡ said.0 ++ shown_named names seen → IsSaidText (run, said) words
said_by run said view layout names seen words of_run at_run called so joined = (
  seen,
  subst (λ (l : Layout). IsShownIn said.1 run.view l seen) at_run (subst (λ (v : View). IsShownIn said.1 v layout seen) of_run so),
  joined ∙ ap (λ n. said.0 ++ shown_named n seen) called,
)

-- so a run closes
pub closing_by : (run : LiveRun) (view : View) (layout seen : Layout) (order words : List ℕ) → view ≡ run.view
    → layout ≡ run.state.history.layout → order ≡ order_said run → IsShown view.oriented layout seen
    → words ≡ order ++ text_named view.names seen → IsClosing run words
closing_by run view layout seen order words of_run at_run ordered so joined = (
  seen,
  subst (λ (l : Layout). IsShown run.view.oriented l seen) at_run (subst (λ (v : View). IsShown v.oriented layout seen) of_run so),
  joined ∙ ap (λ (o : List ℕ). o ++ text_named view.names seen) ordered
      ∙ ap (λ (v : View). order_said run ++ text_named v.names seen) of_run,
)

-- and so it is noted
pub noted_by : (run : LiveRun) (view : View) (layout seen : Layout) (notes : EndNotes) (order words : List ℕ) → view ≡ run.view
    → layout ≡ run.state.history.layout → order ≡ order_said run
    → IsShownNaming view.oriented layout seen notes.staying notes.first.items → notes.left_out ≡ left_out_of view.names
    → words ≡ order ++ text_named view.names seen → IsNotedClosing run notes words
noted_by run view layout seen notes order words of_run at_run ordered so left joined = (
  seen,
  subst (λ (l : Layout). IsShownNaming run.view.oriented l seen notes.staying notes.first.items) at_run
      (subst (λ (v : View). IsShownNaming v.oriented layout seen notes.staying notes.first.items) of_run so),
  left ∙ ap (λ (v : View). left_out_of v.names) of_run,
  joined ∙ ap (λ (o : List ℕ). o ++ text_named view.names seen) ordered
      ∙ ap (λ (v : View). order_said run ++ text_named v.names seen) of_run,
)

-- a run goes on, or ends, as the answer to its line was given
pub goes_on : {O J : Type 0} (written : O → Option (List ℕ)) (failures : O → ℕ) (kept : J → Option (List KeptText)) (losses : J → ℕ)
    (out out' : O × J) (run : LiveRun) (said : Said) (took : LiveRun × Said) (live : Live) (entries all : List KeptText) (given : Unit)
    → run_of live ≡ run → (run, said) ≡ took → entries ≡ all
    → GivesTo written failures kept losses out out' (run, said) entries (Ok given)
    → AnswersTo written failures kept losses out out' took all (Ok (Steps live))
goes_on written failures kept losses out out' run said took live entries all given same is so gives = (
  ap InSteps (same ∙ ap (λ (t : LiveRun × Said). t.0) is),
  subst (λ (es : List KeptText). GivesTo written failures kept losses out out' took es (Ok given)) so
      (subst (λ (t : LiveRun × Said). GivesTo written failures kept losses out out' t entries (Ok given)) is gives),
)

pub ends_so : {O J : Type 0} (written : O → Option (List ℕ)) (failures : O → ℕ) (kept : J → Option (List KeptText)) (losses : J → ℕ)
    (out out' : O × J) (run : LiveRun) (said : Said) (took : LiveRun × Said) (entries all : List KeptText) (end : LiveEnd)
    → (run, said) ≡ took → entries ≡ all → GivesTo written failures kept losses out out' (run, said) entries (Err end)
    → AnswersTo written failures kept losses out out' took all (Err end)
ends_so written failures kept losses out out' run said took entries all end is so gives =
    subst (λ (es : List KeptText). GivesTo written failures kept losses out out' took es (Err end)) so
    (subst (λ (t : LiveRun × Said). GivesTo written failures kept losses out out' t entries (Err end)) is gives)
