use Rattle.std.proofs.Common.{rules, ◌<◌, ◌≤◌, ◌+◌, ℕ, List, [], ◌∷◌, ◌++◌, length, get_or, take, drop, append_assoc, ap, subst, sym, ◌∙◌}
use Rattle.std.proofs.lemmas.List.{take_all, take_more}
use Rattle.live_run.specs.Course.{phase_of}
use Rattle.live_run.specs.Feed.{Feeds}
use Rattle.live_run.specs.Ending.{IsStop}
use Rattle.live_run.proofs.CutLemmas.{whole_piece}
use Rattle.live_run.proofs.line_feed.LineFeed.feed_piece.Goals as goal

pub returns-in-Err : goal.returns-in-Err
returns-in-Err g c =
    let i = c.loop-byte.byte-index in
    let piece = c.args.piece.now in
    let inside : i < length piece = search rules in
    λ past base given at more.
    subst (λ (l : List ℕ). IsStop c.args.showing g.O.Out.written g.O.Out.failures g.J.Journal.kept g.J.Journal.losses past base
    (c.feed_byte.new.out, c.feed_byte.new.journal) l ⊥ c.in-Err.end)
    (whole_piece given piece more i inside)
    (c.in-Err.ensures past base (given ++ take i piece) (c.loop-byte.invariant past base given at) (drop (i + 1) piece ++ more))

pub loop-byte-preserved : goal.loop-byte-preserved
loop-byte-preserved g c =
    let i = c.loop-byte.byte-index in
    let piece = c.args.piece.now in
    let inside : i < length piece = search rules in
    λ past base given at.
    subst (λ (l : List ℕ). Feeds c.args.showing g.O.Out.written g.O.Out.failures g.J.Journal.kept g.J.Journal.losses past base
    (c.feed_byte.new.out, c.feed_byte.new.journal) l (phase_of c.in-Ok.next.course)
    c.in-Ok.next.line.items)
    (append_assoc given (take i piece) (get_or piece i 0 ∷ []) ∙ ap (λ (l : List ℕ). given ++ l) (sym (take_more piece i 0 inside)))
    (c.in-Ok.ensures past base (given ++ take i piece) (c.loop-byte.invariant past base given at))

pub returns : goal.returns
returns g c =
    let end : length c.args.piece.now ≤ c.loop-byte.byte-index = search rules in
    let all = take_all c.loop-byte.byte-index c.args.piece.now end in
    λ past base given at.
    subst (λ (l : List ℕ). Feeds c.args.showing g.O.Out.written g.O.Out.failures g.J.Journal.kept g.J.Journal.losses past base
    (c.loop-byte.out, c.loop-byte.journal) (given ++ l) (phase_of c.loop-byte.line_feed.course)
    c.loop-byte.line_feed.line.items) all (c.loop-byte.invariant past base given at)
