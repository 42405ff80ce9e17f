-- Those that are overwritten and those that are put in are all the others.
use Rattle.std.proofs.Common.{◌≤◌, ◌+◌, ◌++◌, drop, length, take, ◌∙◌, arith}
use Rattle.std.proofs.lemmas.List.{length-take-le, take_rest}
use Rattle.face_sweep.proofs.ReplaceLemmas.{replaced}
use Rattle.face_sweep.proofs.replacing.replace_few.Goals as goal

pub returns : goal.returns
returns g c =
    let old = c.args.list.now.items in
    let others = c.args.others.now in
    let from = c.args.from in
    let to = c.args.to in
    let common = c.min-common.result in
    let is = c.min-common.ensures in
    let most : common ≤ length others = omega (arith, is) in
    let order : from + common ≤ to = omega (arith, is, c.requires.order) in
    replaced old c.overwrite.new.list.items c.take_out.new.list.items c.put_in.new.list.items others from to common most order
    c.requires.bound
    (c.overwrite.ensures ∙ (λ i. (take from old ++ take common others) ++ drop (from + length-take-le common others most i) old))
    c.take_out.ensures
    (c.in_ok-put_in.ensures ∙ (λ i. (take (from + common) c.take_out.new.list.items ++ take_rest others common i)
    ++ drop (from + common) c.take_out.new.list.items))
