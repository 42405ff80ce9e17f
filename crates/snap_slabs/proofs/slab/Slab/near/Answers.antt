use Rattle.std.proofs.Common.{rules}
use Rattle.snap_slabs.proofs.ClipLemmas.{both_met}
use Rattle.snap_slabs.proofs.ColumnLemmas.{columns_have_all}
use Rattle.snap_slabs.proofs.slab.Slab.near.Goals as goal

pub returns-then-to-from-le-FEW-clause-all : goal.returns-then-to-from-le-FEW-clause-all
returns-then-to-from-le-FEW-clause-all c = λ p m met.
    let s = c.args.segment.now in
    let cs = c.as_slice-centres.result.now in
    columns_have_all cs s.a s.b c.places-from.result c.places-from.ensures.all p (search rules) met

pub returns-clause-all : goal.returns-clause-all
returns-clause-all c = λ p m met.
    let s = c.args.segment.now in
    let cs = c.as_slice-centres.result.now in
    let start = c.min-start.result in
    let end = c.min-end.result in
    let held = both_met cs s.a s.b c.places-from.result c.reached-first.result start end c.places-from.ensures.all
    c.reached-first.ensures.all
    (search rules) (search rules) in
    columns_have_all cs s.a s.b (start, end) held p (search rules) met
