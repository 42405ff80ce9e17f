-- Of an edge with one owner no other list changes.
use Rattle.face_sweep.specs.declared.turns.Turn.TheVariants.{Told, Traced}
use Rattle.face_sweep.specs.Counts.{nth_shape}
use Rattle.face_sweep.specs.Reaches.{keys_of}
use Rattle.face_sweep.proofs.OwnLemmas.{taken_alone, taken_untraced}
use Rattle.face_sweep.proofs.ReachLemmas.{turn_at}
use Rattle.face_sweep.proofs.own_rows.OwnRows.take_out.Goals as goal

pub returns-in-Told-clause-taken : goal.returns-in-Told-clause-taken
returns-in-Told-clause-taken c =
    let r = c.args.edges.now in
    let n = c.args.number in
    let told = turn_at r c.args.reach.now n c.index.result.now (Told c.in-Told.input c.in-Told.holds) c.requires.reach c.requires.given
    c.index.ensures c.in-Told.is in
    taken_untraced r n (nth_shape c.in-Told.input told.shape) told.alone (keys_of c.args.reach.now) c.args.point c.args.self.now
    told.untraced

pub take_at-requires-clause-index : goal.take_at-requires-clause-index
take_at-requires-clause-index c =
    let traced = turn_at c.args.edges.now c.args.reach.now c.args.number c.index.result.now (Traced c.in-Traced.input c.in-Traced.index)
    c.requires.reach c.requires.given c.index.ensures c.in-Traced.is in
    traced.inside

pub returns-in-Traced-clause-taken : goal.returns-in-Traced-clause-taken
returns-in-Traced-clause-taken c =
    let r = c.args.edges.now in
    let n = c.args.number in
    let traced = turn_at r c.args.reach.now n c.index.result.now (Traced c.in-Traced.input c.in-Traced.index) c.requires.reach
    c.requires.given c.index.ensures c.in-Traced.is in
    let p = nth_shape c.in-Traced.input traced.shape in
    taken_alone r n p traced.alone (keys_of c.args.reach.now) c.args.point c.args.self.now c.take_at.new.self
    (c.take_at.ensures.taken p traced.key)
