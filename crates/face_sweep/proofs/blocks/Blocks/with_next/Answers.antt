use Rattle.std.proofs.Common.{ap, ◌∙◌, refl}
use Rattle.face_sweep.specs.Blocks.{all_after}
use Rattle.face_sweep.proofs.BlockLemmas.{regrouped, stayed, after_push}
use Rattle.face_sweep.proofs.blocks.Blocks.with_next.Goals as goal

pub returns-clause-same : goal.returns-clause-same
returns-clause-same g c =
    stayed c.args.self _ c.requires.blocks refl
    (regrouped c.args.self.here.items c.in-Some.block.items (all_after c.pop.new.self.items) c.append.new.self.items
    (all_after c.args.self.after.items) c.in_ok-append.ensures.items
    (ap all_after c.in-Some.ensures.items ∙ after_push c.pop.new.self.items c.in-Some.block))
    refl refl
