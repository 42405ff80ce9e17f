use Rattle.std.proofs.Common.{◌≡◌, ℕ, ◌<◌, ◌++◌, ◌∷◌, [], Bool, true, false}
use Rattle.std.proofs.Common.{length, slice_index_or, slice_set, arith, rules, ◌+◌, take, ap, sym, ◌∙◌}
use Rattle.std.specs.Global.{Vec}
use Rattle.std.proofs.lemmas.List.{take_more, get_or_default}
use Rattle.std.proofs.lemmas.List.Elements.{Contains-get_or}
use Rattle.lay_cells.proofs.MarkLemmas.{marks_known, marks_new}
use Rattle.lay_cells.proofs.search.mark_all.Goals as goal
use Rattle.lay_cells.proofs.search.mark_all.Goals.{then-not-index+in_ok-push, else-not-index}

pub index-requires : goal.index-requires
index-requires c =
    let there = c.requires _ (Contains-get_or c.args.targets.now c.loop-target.target-index 0 (omega arith)) in
    let inside : slice_index_or c.args.targets.now c.loop-target.target-index 0 < length c.loop-target.marks.items =
    omega (arith, there, c.loop-target.invariant.whole) in
    search (rules, inside)

pub index_mut-requires : goal.index_mut-requires
index_mut-requires c =
    let there = c.requires _ (Contains-get_or c.args.targets.now c.loop-target.target-index 0 (omega arith)) in
    let inside : slice_index_or c.args.targets.now c.loop-target.target-index 0 < length c.loop-target.marks.items =
    omega (arith, there, c.loop-target.invariant.whole) in
    search (rules, inside)

-- the targets so far and one more
pub loop-target-preserved : goal.loop-target-preserved
loop-target-preserved c =
    let t : ℕ = slice_index_or c.args.targets.now c.loop-target.target-index 0 in
    let there = c.requires t (Contains-get_or c.args.targets.now c.loop-target.target-index 0 (omega arith)) in
    let within : t < length c.loop-target.marks.items = omega (arith, there, c.loop-target.invariant.whole) in
    let step : take (c.loop-target.target-index + 1) c.args.targets.now ≡ take c.loop-target.target-index c.args.targets.now ++ t ∷ [] =
    take_more c.args.targets.now c.loop-target.target-index 0 (omega arith) in
    let read : slice_index_or c.loop-target.marks.items t false ≡ c.index.result.now =
    get_or_default c.loop-target.marks.items t false c.index.result.now within ∙ sym c.index.ensures in
    elim c.if-not-index.branch [
      | then-not-index+in_ok-push w ↦
          let marks : c.if-not-index.marks.items ≡ slice_set c.loop-target.marks.items t true = ap (λ (v : Vec Bool). v.items) w.marks-is in
          let pushed : w.push.new.self.items ≡ c.loop-target.pending.items ++ t ∷ [] = w.in_ok-push.ensures.items in
          let pending : c.if-not-index.pending.items ≡ c.loop-target.pending.items ++ t ∷ [] =
          ap (λ (v : Vec ℕ). v.items) w.pending-is ∙ pushed in
          rw (step, marks, pending) (marks_new (take c.loop-target.target-index c.args.targets.now) c.args.marks.now.items
          c.args.pending.now.items c.loop-target.marks.items c.loop-target.pending.items c.loop-target.invariant t within
          (read ∙ w.if-not-index.true))
      | else-not-index w ↦
          let marks : c.if-not-index.marks.items ≡ c.loop-target.marks.items = ap (λ (v : Vec Bool). v.items) w.marks-is in
          let pending : c.if-not-index.pending.items ≡ c.loop-target.pending.items = ap (λ (v : Vec ℕ). v.items) w.pending-is in
          rw (step, marks, pending) (marks_known (take c.loop-target.target-index c.args.targets.now) c.args.marks.now.items
          c.args.pending.now.items c.loop-target.marks.items c.loop-target.pending.items c.loop-target.invariant t
          (read ∙ w.if-not-index.false))
    ]
