use Rattle.std.proofs.Common.{◌≡◌, Some, subst}
use Rattle.std.specs.Prelude.{slice_get}
use Rattle.face_sweep.specs.Reaches.{box_list}
use Rattle.face_sweep.proofs.ReachLemmas.{grown_none}
use Rattle.face_sweep.proofs.boxes.Boxes.extend_one.Goals as goal

pub returns-in-First-clause-second : goal.returns-in-First-clause-second
returns-in-First-clause-second c = grown_none c.args.self.now.second.items

pub returns-in-First-clause-reached : goal.returns-in-First-clause-reached
returns-in-First-clause-reached c = λ extent e.
    c.widen.ensures.reached extent (subst (λ i. slice_get (box_list
    (record { first = c.widen.new.extents; second = c.args.self.now.second }) i) c.args.owner.shape ≡ Some extent) c.in-First.is e)

pub returns-in-Second-clause-first : goal.returns-in-Second-clause-first
returns-in-Second-clause-first c = grown_none c.args.self.now.first.items

pub returns-in-Second-clause-reached : goal.returns-in-Second-clause-reached
returns-in-Second-clause-reached c = λ extent e.
    c.widen-in-Second.ensures.reached extent (subst (λ i. slice_get
    (box_list (record { first = c.args.self.now.first; second = c.widen-in-Second.new.extents }) i) c.args.owner.shape ≡ Some extent)
    c.in-Second.is e)
