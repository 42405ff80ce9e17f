use Rattle.std.proofs.Common.{◌≤◌, List, length, take, subst, rules, arith}
use Rattle.snap_pixels.specs.declared.segment.Segment.{Segment}
use Rattle.snap_pixels.specs.Kinds.{AreParallelAll}
use Rattle.snap_pixels.proofs.PartLemmas.{none_crossed}
use Rattle.snap_pixels.proofs.parts.add_part.Goals as goal

pub returns-then-run_length-len : goal.returns-then-run_length-len
returns-then-run_length-len g c = λ p.
    let all = c.args.part.segments.items in
    let over : length all ≤ c.run_length.result = search (rules, arith) in
    none_crossed all c.run_length.result over
    (subst (λ (l : List Segment). AreParallelAll (take c.run_length.result l)) c.as_slice.ensures.value c.run_length.ensures.parallel) p
