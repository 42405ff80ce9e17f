use Rattle.std.proofs.Common.{get_or}
use Rattle.std.proofs.lemmas.List.{get_or_default}
use Rattle.face_rings.specs.Incidence.{no_end}
use Rattle.face_rings.proofs.FirstLemmas.{all_put, putting_next}
use Rattle.face_rings.proofs.incidence.firsts_of.Goals as goal

pub loop-index-preserved : goal.loop-index-preserved
loop-index-preserved c =
    let ends = c.args.ends.now in
    let i = c.loop-index.index in
    let lt = c.loop-index-test.true in
    let end = get_or ends i no_end in
    putting_next c.args.edges.now ends c.loop-index.firsts.items c.loop-index.first i c.requires.ends lt c.loop-index.invariant end
    (get_or_default ends i no_end end lt) c.first_or_next-first.result c.first_or_next-first.ensures c.index-edges-end.result
    c.index-edges-end.is c.index.result.now c.with_first.result c.index.ensures c.with_first.ensures.low c.with_first.ensures.high

pub returns : goal.returns
returns c =
    all_put c.args.edges.now c.args.ends.now c.loop-index.firsts.items c.loop-index.first c.loop-index.index c.requires.ends
    c.loop-index-test.false c.loop-index.invariant
