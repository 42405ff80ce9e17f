-- What a run says where shapes stay as they are.
use Rattle.std.proofs.Common.{◌≡◌, ℕ, List, [], ◌∷◌, ◌++◌, Bool, true, false, cond, Option, None, Some, refl, ap, ◌∙◌}
use Rattle.lay_layouts.specs.Layout.{Layout}
use Rattle.job_text.specs.declared.live.LiveLine.{LiveLine}
use Rattle.job_text.specs.declared.live.LiveLine.TheVariants.{Ask, Blank, Unknown, Step, Write}
use Rattle.job_text.specs.Live.{live_line}
use Rattle.job_text.specs.Words.{words_of}
use Rattle.live_run.specs.declared.showing.View.{View}
use Rattle.live_run.specs.Laws.{PlainRunsSayOne, answers, said_text}
use Rattle.live_run.specs.Live.{LiveRun, Said, after_line, answered}
use Rattle.live_run.specs.Said.{AreAnswered, IsSaidText, IsShownIn, shown_named, order_said}
use Rattle.live_run.specs.Shown.{IsShown, text_named}

-- no line changes how the layout is shown
view_by : (run : LiveRun) (said : LiveLine) → (answered run said).0.view ≡ run.view
view_by run Blank = refl
view_by run (Step session step) = refl
view_by run Write = refl
view_by run (Ask question) = refl
view_by run Unknown = refl

view_stays : (run : LiveRun) (line : List ℕ) → (after_line run line).0.view ≡ run.view
unfolding after_line
view_stays run line = view_by run (live_line (words_of line))

seen_same : (oriented : Bool) (layout seen : Layout) → oriented ≡ false → IsShown oriented layout seen → seen ≡ layout
seen_same false layout seen plain is = is
seen_same true layout seen plain is = absurd (let e = plain in cc)

seen_one : (wanted : Bool) (view : View) (layout : Layout) (seen : Option Layout) → view.oriented ≡ false
    → IsShownIn wanted view layout seen
    → seen ≡ cond wanted (Some layout) None
seen_one false view layout seen plain is = is
seen_one true view layout seen plain (shown, so, is) = is ∙ ap (λ (l : Layout). Some l) (seen_same view.oriented layout shown plain so)

text_one : (took : LiveRun × Said) (said : List ℕ) → took.0.view.oriented ≡ false → IsSaidText took said → said ≡ said_text took
text_one took said plain (seen, so, is) =
    is
    ∙ ap (λ (s : Option Layout). took.1.0 ++ shown_named took.0.view.names s)
    (seen_one took.1.1 took.0.view took.0.state.history.layout seen plain so)

answers_one : (run : LiveRun) (lines : List (List ℕ)) (said : List ℕ) → run.view.oriented ≡ false → AreAnswered run lines said
    → said ≡ answers run lines
answers_one run [] said plain is = is
answers_one run (line ∷ lines) said plain (first, rest, so, are, is) =
    let next : (after_line run line).0.view.oriented ≡ false = ap (λ (v : View). v.oriented) (view_stays run line) ∙ plain in
    is
    ∙ ap (λ (l : List ℕ). l ++ rest) (text_one (after_line run line) first next so)
    ∙ ap (λ (l : List ℕ). said_text (after_line run line) ++ l) (answers_one (after_line run line).0 lines rest next are)

pub plain_runs : PlainRunsSayOne
plain_runs run plain = (
  λ lines said are. answers_one run lines said plain are,
  λ said so.
      so.2
      ∙ ap (λ (l : Layout). order_said run ++ text_named run.view.names l)
      (seen_same run.view.oriented run.state.history.layout so.0 plain so.1),
)
