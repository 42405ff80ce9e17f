-- Where a run stands after a byte, and after the last.
use Rattle.std.proofs.Common.{◌≡◌, ◌≢◌, ℕ, List, [], ◌∷◌, ◌++◌, false, eqb, Option, Result, Ok, Err}
use Rattle.std.proofs.Common.{inl, inr, refl, sym, ap, ◌∙◌, subst, append_assoc, append-nil}
use Rattle.std.specs.Prelude.{⊤}
use Rattle.byte_io.specs.Lines.{lines}
use Rattle.live_run.specs.declared.showing.Showing.{Showing}
use Rattle.live_run.specs.declared.course.Course.{Course}
use Rattle.live_run.specs.declared.ending.LiveEnd.{LiveEnd}
use Rattle.live_run.specs.declared.ending.LiveEnd.TheVariants.{Memory}
use Rattle.live_run.specs.Cif.{whole}
use Rattle.live_run.specs.Said.{IsSaid}
use Rattle.live_run.specs.Ending.{Does, IsAnswered, IsStop, Past, all_lines, whole_lines}
use Rattle.live_run.specs.Journal.{KeptText, kept_in}
use Rattle.live_run.specs.Course.{ClosesTo, FeedsTo, Phase, phase_of}
use Rattle.live_run.specs.declared.line_feed.LineFeed.{LineFeed}
use Rattle.live_run.specs.Feed.{Feeds, FeedsLast, IsAt, PieceTo}
use Rattle.live_run.proofs.CutLemmas.{cut_byte, cut_end, cut_last, cut_line, cut_lines, cut_whole, cut_whole_more}
use Rattle.live_run.proofs.StopLemmas.{closes, fed_line, said_at, stops_line, stops_memory}

-- ---- the past in front of what was given

behind_past : (past : Past) (given : List ℕ) (seen more : List (List ℕ)) → lines given ≡ seen ++ more
    → all_lines past given ≡ (past.lines ++ seen) ++ more
behind_past past given seen more is =
    ap (λ (ls : List (List ℕ)). past.lines ++ ls) is ∙ sym (append_assoc past.lines seen more)

whole_past : (past : Past) (given : List ℕ) (seen more : List (List ℕ)) → whole given ≡ seen ++ more
    → (past.lines ++ seen) ++ more ≡ whole_lines past given
whole_past past given seen more is =
    append_assoc past.lines seen more ∙ ap (λ (ls : List (List ℕ)). past.lines ++ ls) (sym is)

module _ {O J : Type 0} (showing : Showing) (written : O → Option (List ℕ)) (failures : O → ℕ) (kept : J → Option (List KeptText))
    (losses : J → ℕ) (past : Past)
  where
    -- ---- a byte

    pub byte_memory : (base out : O × J) (given : List ℕ) (phase : Phase) (line : List ℕ) (b : ℕ) (more : List ℕ)
        → Feeds showing written failures kept losses past base out given phase line
        → IsStop showing written failures kept losses past base out ((given ++ b ∷ []) ++ more) ⊥ Memory
    byte_memory base out given phase line b more (seen, cut, at) =
        stops_memory showing written failures kept losses past ⊥ base out out (past.lines ++ seen) phase ((given ++ b ∷ []) ++ more)
        (lines (line ++ b ∷ more))
        (behind_past past ((given ++ b ∷ []) ++ more) seen (lines (line ++ b ∷ more))
        (ap lines (append_assoc given (b ∷ []) more) ∙ cut.cut (b ∷ more))) at refl refl

    pub byte_inside : (base out : O × J) (given : List ℕ) (phase : Phase) (line : List ℕ) (b : ℕ) (l : List ℕ) → eqb b 10 ≡ false
        → l ≡ line ++ b ∷ [] → Feeds showing written failures kept losses past base out given phase line
        → Feeds showing written failures kept losses past base out (given ++ b ∷ []) phase l
    byte_inside base out given phase line b l other is (seen, cut, at) =
        subst (λ (l : List ℕ). Feeds showing written failures kept losses past base out (given ++ b ∷ []) phase l) (sym is)
        (seen, cut_byte given seen line b other cut, at)

    newline : (base out out' : O × J) (given : List ℕ) (phase : Phase) (line : List ℕ) (course : Course)
        → FeedsTo showing written failures kept losses out out' phase (line ++ 10 ∷ []) (Ok course)
        → Feeds showing written failures kept losses past base out given phase line
        → Feeds showing written failures kept losses past base out' (given ++ 10 ∷ []) (phase_of course) []
    newline base out out' given phase line course to (seen, cut, at) = (
      seen ++ (line ++ 10 ∷ []) ∷ [],
      cut_line given seen line cut,
      subst (λ (ls : List (List ℕ)). IsAt showing written failures kept losses past base out' ls (phase_of course))
          (append_assoc past.lines seen ((line ++ 10 ∷ []) ∷ []))
          (fed_line showing written failures kept losses past base out out' (past.lines ++ seen) (line ++ 10 ∷ []) phase course at to),
    )

    pub line_fed : (base out out' : O × J) (given : List ℕ) (phase : Phase) (line : List ℕ) (b : ℕ) (l rest : List ℕ) (course : Course)
        → b ≡ 10 → l ≡ line ++ b ∷ [] → rest ≡ [] → FeedsTo showing written failures kept losses out out' phase l (Ok course)
        → Feeds showing written failures kept losses past base out given phase line
        → Feeds showing written failures kept losses past base out' (given ++ b ∷ []) (phase_of course) rest
    line_fed base out out' given phase line b l rest course ten is none to at =
        let to' = subst (λ (l : List ℕ). FeedsTo showing written failures kept losses out out' phase l (Ok course))
        (is ∙ ap (λ (n : ℕ). line ++ n ∷ []) ten) to in
        subst (λ (r : List ℕ). Feeds showing written failures kept losses past base out' (given ++ b ∷ []) (phase_of course) r) (sym none)
        (subst (λ (n : ℕ). Feeds showing written failures kept losses past base out' (given ++ n ∷ []) (phase_of course) []) (sym ten)
        (newline base out out' given phase line course to' at))

    stopped : (base out out' : O × J) (given : List ℕ) (phase : Phase) (line : List ℕ) (end : LiveEnd) (more : List ℕ)
        → FeedsTo showing written failures kept losses out out' phase (line ++ 10 ∷ []) (Err end)
        → Feeds showing written failures kept losses past base out given phase line
        → IsStop showing written failures kept losses past base out' ((given ++ 10 ∷ []) ++ more) ⊥ end
    stopped base out out' given phase line end more to (seen, cut, at) =
        let all = (given ++ 10 ∷ []) ++ more in
        stops_line showing written failures kept losses past ⊥ base out out' (past.lines ++ seen) (line ++ 10 ∷ []) phase all
        (lines more) end
        (behind_past past all seen ((line ++ 10 ∷ []) ∷ lines more) (cut_lines given seen line more cut))
        (whole more, inl (whole_past past all seen ((line ++ 10 ∷ []) ∷ whole more) (cut_whole_more given seen line more cut))) at to

    pub line_stopped : (base out out' : O × J) (given : List ℕ) (phase : Phase) (line : List ℕ) (b : ℕ) (l : List ℕ) (end : LiveEnd)
        (more : List ℕ)
        → b ≡ 10 → l ≡ line ++ b ∷ [] → FeedsTo showing written failures kept losses out out' phase l (Err end)
        → Feeds showing written failures kept losses past base out given phase line
        → IsStop showing written failures kept losses past base out' ((given ++ b ∷ []) ++ more) ⊥ end
    line_stopped base out out' given phase line b l end more ten is to at =
        let to' = subst (λ (l : List ℕ). FeedsTo showing written failures kept losses out out' phase l (Err end))
        (is ∙ ap (λ (n : ℕ). line ++ n ∷ []) ten) to in
        subst (λ (n : ℕ). IsStop showing written failures kept losses past base out' ((given ++ n ∷ []) ++ more) ⊥ end) (sym ten)
        (stopped base out out' given phase line end more to' at)

    -- ---- the last line

    pub last_none : (base out : O × J) (given : List ℕ) (phase : Phase) (line : List ℕ) → line ≡ []
        → Feeds showing written failures kept losses past base out given phase line
        → IsAt showing written failures kept losses past base out (all_lines past given) phase
    last_none base out given phase line none (seen, cut, at) =
        subst (λ (ls : List (List ℕ)). IsAt showing written failures kept losses past base out (past.lines ++ ls) phase)
        (sym (cut_end given seen line none cut)) at

    pub last_fed : (base out out' : O × J) (given : List ℕ) (phase : Phase) (line l : List ℕ) (result : Result Course LiveEnd) → line ≢ []
        → l ≡ line → FeedsTo showing written failures kept losses out out' phase l result
        → Feeds showing written failures kept losses past base out given phase line
        → FeedsLast showing written failures kept losses past base out' given result
    last_fed base out out' given phase line l (Ok course) some is to (seen, cut, at) =
        let to' = subst (λ (l : List ℕ). FeedsTo showing written failures kept losses out out' phase l (Ok course)) is to in
        subst (λ (ls : List (List ℕ)). IsAt showing written failures kept losses past base out' ls (phase_of course))
        (sym (behind_past past given seen (line ∷ []) (cut_last given seen line some cut)))
        (fed_line showing written failures kept losses past base out out' (past.lines ++ seen) line phase course at to')
    last_fed base out out' given phase line l (Err end) some is to (seen, cut, at) =
        let to' = subst (λ (l : List ℕ). FeedsTo showing written failures kept losses out out' phase l (Err end)) is to in
        let all = behind_past past given seen (line ∷ []) (cut_last given seen line some cut) in
        stops_line showing written failures kept losses past ⊤ base out out' (past.lines ++ seen) line phase given [] end all
        ([], inr (tt, sym all)) at to'

    pub last_closes : (base out out' : O × J) (given : List ℕ) (phase : Phase) (end : LiveEnd)
        → IsAt showing written failures kept losses past base out (all_lines past given) phase
        → ClosesTo written failures out.0 out'.0 phase end → out'.1 ≡ out.1
        → IsStop showing written failures kept losses past base out' given ⊤ end
    last_closes base out out' given phase end at to same =
        closes showing written failures kept losses past base out out' (all_lines past given) phase given end refl at to same

    -- ---- a broken input

    pub all_answered : (base out : O × J) (given : List ℕ) (phase : Phase) (line : List ℕ)
        → Feeds showing written failures kept losses past base out given phase line → IsAnswered showing written failures kept losses
        past base out given
    all_answered base out given phase line (seen, cut, at) =
        let (said, is, did) = said_at showing written failures kept losses past base out (past.lines ++ seen) phase at in
        let all : past.lines ++ seen ≡ whole_lines past given =
        ap (λ (ls : List (List ℕ)). past.lines ++ ls) (sym (cut_whole given seen line cut)) in (
          said,
          subst (λ (ls : List (List ℕ)). IsSaid showing ls said) all is,
          subst (λ (ls : List (List ℕ)). Does written failures kept losses past base out said (kept_in ls)) all did,
        )

module _ {O J : Type 0} (showing : Showing) (written : O → Option (List ℕ)) (failures : O → ℕ) (kept : J → Option (List KeptText))
    (losses : J → ℕ) where
  -- ---- pieces of the input

  pub no_piece : (out : O × J) (line_feed : LineFeed) → PieceTo showing written failures kept losses out out line_feed [] (Ok line_feed)
  no_piece out line_feed past base given at =
      subst (λ (l : List ℕ). Feeds showing written failures kept losses past base out l (phase_of line_feed.course) line_feed.line.items)
      (sym (append-nil given)) at

  pub pieces : (a b c : O × J) (first line_feed : LineFeed) (done piece : List ℕ) (result : Result LineFeed LiveEnd)
      → PieceTo showing written failures kept losses a b first done (Ok line_feed)
      → PieceTo showing written failures kept losses b c line_feed piece result
      → PieceTo showing written failures kept losses a c first (done ++ piece) result
  pieces a b c first line_feed done piece (Ok next) p q past base given at =
      subst (λ (l : List ℕ). Feeds showing written failures kept losses past base c l (phase_of next.course) next.line.items)
      (append_assoc given done piece) (q past base (given ++ done) (p past base given at))
  pieces a b c first line_feed done piece (Err end) p q past base given at =
      λ more.
      subst (λ (l : List ℕ). IsStop showing written failures kept losses past base c (l ++ more) ⊥ end) (append_assoc given done piece)
      (q past base (given ++ done) (p past base given at) more)
