use Rattle.std.proofs.Common.{◌≡◌, ◌+◌, ap, ◌∙◌, length, refl, rules}
use Rattle.face_sweep.specs.Blocks.{all_after}
use Rattle.face_sweep.proofs.BlockLemmas.{after_push, went_on}
use Rattle.face_sweep.proofs.blocks.Blocks.on.Goals as goal

pub returns-clause-same : goal.returns-clause-same
returns-clause-same g c =
    let count : c.len.result ≡ length c.args.self.here.items = search rules in
    went_on c.args.self _ c.requires.blocks c.in_ok-push_block.ensures.all_before
    (ap all_after c.in-Some.ensures.items ∙ after_push c.pop.new.self.items c.in-Some.block)
    (ap (λ n. c.args.self.start + n) count) refl
