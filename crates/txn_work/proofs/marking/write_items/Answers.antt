use Rattle.std.proofs.Common.{◌≡◌, ◌∷◌, [], ap, rules, sym, ◌∙◌}
use Rattle.std.specs.Vec.Iter.{into_iter_items}
use Rattle.lay_layouts.specs.Layout.{Write}
use Rattle.std.specs.Prelude.{List}
use Rattle.txn_commands.specs.Writing.{rewritten}
use Rattle.txn_work.proofs.marking.write_items.Goals as goal

pub loop-id-init : goal.loop-id-init
loop-id-init c = λ m h.
    let all : into_iter_items c.into_iter-id-iterator.result ≡ c.args.items.items = search rules in
    (m, h, ap (λ (ws : List Write). rewritten m ws []) all)

pub loop-id-preserved : goal.loop-id-preserved
loop-id-preserved c = λ m h.
    let so_far = c.loop-id.invariant m h in
    let next : into_iter_items c.loop-id.id-iterator ≡ (c.in-Some.id, c.in-Some.after) ∷ into_iter_items c.next.new.self = search rules in (
      rewritten so_far.0 ((c.in-Some.id, c.in-Some.after) ∷ []) [],
      c.in_ok-write_item.ensures.ok so_far.0 so_far.1,
      ap (λ (ws : List Write). rewritten so_far.0 ws []) (sym next) ∙ so_far.2,
    )
