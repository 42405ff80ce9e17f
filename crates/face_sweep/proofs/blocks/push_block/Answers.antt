use Rattle.std.proofs.Common.{ap, ◌∙◌}
use Rattle.face_sweep.specs.Blocks.{all_before, all_after}
use Rattle.face_sweep.proofs.BlockLemmas.{before_push, after_push}
use Rattle.face_sweep.proofs.blocks.push_block.Goals as goal

pub returns-clause-all_before : goal.returns-clause-all_before
returns-clause-all_before g c = ap all_before c.in_ok-push.ensures.items ∙ before_push c.args.blocks.now.items c.args.block

pub returns-clause-all_after : goal.returns-clause-all_after
returns-clause-all_after g c = ap all_after c.in_ok-push.ensures.items ∙ after_push c.args.blocks.now.items c.args.block
