use Rattle.std.proofs.Common.{ℕ, ◌/◌, ◌++◌, ap, sym, ◌∙◌, drop, refl, take}
use Rattle.std.proofs.lemmas.List.{take-append-drop}
use Rattle.face_sweep.specs.Blocks.{all_after}
use Rattle.face_sweep.proofs.BlockLemmas.{regrouped, stayed}
use Rattle.face_sweep.proofs.blocks.Blocks.part.Goals as goal

pub returns : goal.returns
returns g c =
    let here = c.args.self.now.here.items in
    let rest = all_after c.args.self.now.after.items in
    let half : ℕ = c.len-2.result / 2 in
    stayed c.args.self.now _ c.requires refl
    (ap (λ l. l ++ all_after c.push_block.new.blocks.items) c.in_ok-behind.ensures.items
    ∙ sym (regrouped (take half here) (drop half here) rest here (all_after c.push_block.new.blocks.items)
    (sym (take-append-drop half here))
    (c.in_ok-push_block.ensures.all_after ∙ ap (λ l. l ++ rest) c.in_ok-behind.ensures.tail)))
    refl refl
