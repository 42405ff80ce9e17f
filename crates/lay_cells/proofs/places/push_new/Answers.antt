use Rattle.std.proofs.Common.{◌≡◌, ℕ, ◌<◌, ◌++◌, ◌∷◌, [], length, slice_index_or, arith, rules, ap, ◌∙◌}
use Rattle.std.specs.Global.{Vec}
use Rattle.std.proofs.lemmas.List.Elements.{Contains-get_or}
use Rattle.lay_cells.proofs.PlaceLemmas.{AreBelow-push}
use Rattle.lay_cells.proofs.places.push_new.Goals as goal
use Rattle.lay_cells.proofs.places.push_new.Goals.{then-is_new+in_ok-push, else-is_new}

pub index-requires : goal.index-requires
index-requires c =
    let inside : slice_index_or c.args.row.now c.loop-target.target-index 0 < length c.args.marks.now.items =
    c.requires.row _ (Contains-get_or c.args.row.now c.loop-target.target-index 0 (omega arith)) in
    search (rules, inside)

-- one more cell, or none
pub loop-target-preserved : goal.loop-target-preserved
loop-target-preserved c =
    let t : ℕ = slice_index_or c.args.row.now c.loop-target.target-index 0 in
    let there = c.requires.row t (Contains-get_or c.args.row.now c.loop-target.target-index 0 (omega arith)) in
    elim c.if-is_new.branch [
      | then-is_new+in_ok-push w ↦
          let pushed : w.push.new.self.items ≡ c.loop-target.pending.items ++ t ∷ [] = w.in_ok-push.ensures.items in
          let pending : c.if-is_new.pending.items ≡ c.loop-target.pending.items ++ t ∷ [] =
          ap (λ (v : Vec ℕ). v.items) w.pending-is ∙ pushed in
          rw pending (AreBelow-push c.loop-target.pending.items t _ c.loop-target.invariant there)
      | else-is_new w ↦
          let pending : c.if-is_new.pending.items ≡ c.loop-target.pending.items = ap (λ (v : Vec ℕ). v.items) w.pending-is in
          rw pending c.loop-target.invariant
    ]
