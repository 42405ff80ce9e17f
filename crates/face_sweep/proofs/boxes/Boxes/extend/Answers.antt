use Rattle.std.proofs.Common.{ap, ◌∙◌}
use Rattle.std.proofs.lemmas.List.{take_all}
use Rattle.snap_chains.specs.declared.owner.Input.TheVariants.{First}
use Rattle.snap_chains.specs.declared.owner.Owner.{Owner}
use Rattle.snap_chains.specs.Rounded.{is_owner_listed}
use Rattle.face_sweep.proofs.ReachLemmas.{grown_more, grown_none, boxes_more}
use Rattle.face_sweep.proofs.boxes.Boxes.extend.Goals as goal

origin : Owner
origin = record { input = First; shape = 0 }

pub loop-owner-init : goal.loop-owner-init
loop-owner-init c =
    record {
      first = grown_none c.args.self.now.first.items;
      second = grown_none c.args.self.now.second.items;
      reached = λ o extent e. absurd cc;
    }

pub loop-owner-preserved : goal.loop-owner-preserved
unfolding origin
loop-owner-preserved c =
    let old = c.loop-owner.self in
    let new = c.extend_one.new.self in
    let own = c.extend_one.ensures in
    record {
      first = grown_more c.args.self.now.first.items old.first.items new.first.items c.loop-owner.invariant.first own.first;
      second = grown_more c.args.self.now.second.items old.second.items new.second.items c.loop-owner.invariant.second own.second;
      reached = boxes_more old new c.args.owners.now c.loop-owner.owner-index origin c.args.edge c.loop-owner-test.true
          (record { first = own.first; second = own.second }) own.reached c.loop-owner.invariant.reached;
    }

pub returns-clause-reached : goal.returns-clause-reached
returns-clause-reached c = λ o extent listed e.
    c.loop-owner.invariant.reached o extent
    (ap (is_owner_listed o) (take_all c.loop-owner.owner-index c.args.owners.now c.loop-owner-test.false) ∙ listed) e
