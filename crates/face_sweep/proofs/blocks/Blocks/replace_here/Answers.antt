use Rattle.face_sweep.specs.Blocks.{all_before, all_after}
use Rattle.face_sweep.proofs.BlockLemmas.{replaced_within}
use Rattle.face_sweep.proofs.blocks.Blocks.replace_here.Goals as goal

pub returns-clause-list : goal.returns-clause-list
returns-clause-list g c =
    let s = c.args.self.now in
    replaced_within (all_before s.before.items) s.here.items (all_after s.after.items) c.args.others.now c.replace.new.list.items
    s.start c.args.from c.args.to c.requires.blocks.start c.requires.start c.requires.order c.requires.end c.in_ok-replace.ensures
