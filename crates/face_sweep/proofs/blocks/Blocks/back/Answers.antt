use Rattle.std.proofs.Common.{◌≡◌, ◌-◌, ap, ◌∙◌, arith, length, refl, rules}
use Rattle.std.proofs.lemmas.List.{length-append}
use Rattle.face_sweep.specs.Blocks.{all_before}
use Rattle.face_sweep.proofs.BlockLemmas.{before_push, went_back}
use Rattle.face_sweep.proofs.blocks.Blocks.back.Goals as goal

pub overflow_sub-start : goal.overflow_sub-start
overflow_sub-start g c =
    let front = ap all_before c.in-Some.ensures.items ∙ before_push c.pop.new.self.items c.in-Some.block in
    let count : c.len.result ≡ length c.in-Some.block.items = search rules in
    omega (arith, count, c.requires.blocks.start, ap length front, length-append (all_before c.pop.new.self.items) c.in-Some.block.items)

pub returns-clause-same : goal.returns-clause-same
returns-clause-same g c =
    let count : c.len.result ≡ length c.in-Some.block.items = search rules in
    went_back c.args.self _ c.requires.blocks
    (ap all_before c.in-Some.ensures.items ∙ before_push c.pop.new.self.items c.in-Some.block)
    c.in_ok-push_block.ensures.all_after (ap (λ n. c.args.self.start - n) count) refl
