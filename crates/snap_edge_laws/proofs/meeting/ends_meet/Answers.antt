use Rattle.std.proofs.Common.{◌≡◌, true, false, rules, refl, sym, ◌∙◌}
use Rattle.std.proofs.lemmas.Bool.{false≢true}
use Rattle.snap_pixels.specs.Segments.{AreParallel}
use Rattle.lay_point.specs.Edges.{is_before}
use Rattle.lay_point.proofs.EdgeOrder.{before_by_test}
use Rattle.snap_edge_laws.proofs.Tests.{not_before_by_test}
use Rattle.snap_edge_laws.proofs.Slanted.{shared_end_only, slanted_Decides}
use Rattle.snap_edge_laws.proofs.Level.{one_after_other, other_way_round, level_Decides, not_itself}
use Rattle.snap_edge_laws.proofs.meeting.ends_meet.Goals as goal

pub returns-then-not-comes_before : goal.returns-then-not-comes_before
returns-then-not-comes_before c =
    let a = c.args.a in let b = c.args.b in let l = c.args.c in let d = c.args.d in
    let first = before_by_test a b c.requires.first in
    let second = before_by_test l d c.requires.second in
    let no : is_before l b ≡ false = search rules in
    ((λ _. one_after_other a b l d first second (not_before_by_test l b no)), (λ _. refl))

pub returns-then-not-comes_before-2 : goal.returns-then-not-comes_before-2
returns-then-not-comes_before-2 c =
    let a = c.args.a in let b = c.args.b in let l = c.args.c in let d = c.args.d in
    let first = before_by_test a b c.requires.first in
    let second = before_by_test l d c.requires.second in
    let no : is_before a d ≡ false = search rules in
    ((λ _. other_way_round a b l d (one_after_other l d a b second first (not_before_by_test a d no))), (λ _. refl))

pub returns-then-are_parallel : goal.returns-then-are_parallel
returns-then-are_parallel c =
    let a = c.args.a in let b = c.args.b in let l = c.args.c in let d = c.args.d in
    let first = before_by_test a b c.requires.first in
    let second = before_by_test l d c.requires.second in
    let left : is_before l b ≡ true = search rules in
    let right : is_before a d ≡ true = search rules in
    level_Decides a b l d first second (c.are_parallel.ensures.0 c.if-are_parallel.true) c.are_parallel-then-are_parallel.result
    c.are_parallel-then-are_parallel.ensures c.requires.two (before_by_test l b left) (before_by_test a d right)

pub returns-then-share_end : goal.returns-then-share_end
returns-then-share_end c =
    let slanted : ¬ (AreParallel c.args.a c.args.b c.args.c c.args.d) = λ w.
    false≢true (sym c.if-are_parallel.false ∙ c.are_parallel.ensures.1 w) in
    ((λ _. shared_end_only c.args.a c.args.b c.args.c c.args.d slanted (c.share_end.ensures.0 c.if-share_end.true)), (λ _. refl))

pub returns : goal.returns
returns c =
    slanted_Decides c.args.a c.args.b c.args.c c.args.d c.cross_somewhere.result
    (λ w. false≢true (sym c.if-share_end.false ∙ c.share_end.ensures.1 w)) c.cross_somewhere.ensures

pub cross_somewhere-requires-clause-first : goal.cross_somewhere-requires-clause-first
cross_somewhere-requires-clause-first c = not_itself _ _ (before_by_test _ _ c.requires.first)

pub cross_somewhere-requires-clause-second : goal.cross_somewhere-requires-clause-second
cross_somewhere-requires-clause-second c = not_itself _ _ (before_by_test _ _ c.requires.second)
