-- What is found stays complete.
use Rattle.std.proofs.Common.{◌≡◌, ◌∙◌, ◌++◌, ◌+◌, suc, List, [], ◌∷◌, Some, length, ap, refl, subst, rules, arith, take}
use Rattle.std.proofs.Common.{length-append}
use Rattle.std.specs.FinMap.{entries}
use Rattle.lay_cells.specs.declared.cell_id.CellId.{CellId}
use Rattle.lay_layouts.specs.declared.id.ItemId.{ItemId}
use Rattle.lay_layouts.specs.declared.item.Item.{Item}
use Rattle.lay_oriented.specs.Directed.{IsTurned}
use Rattle.lay_oriented.specs.Steps.{IsShapeOf}
use Rattle.lay_oriented.proofs.CompleteLemmas.{Completes, complete_all, complete_none, complete_otherwise, complete_turned, take_further}
use Rattle.lay_oriented.proofs.directing.found_in.Goals as goal

pub loop-id-init : goal.loop-id-init
loop-id-init c =
    let all : List (ItemId × Item) = entries c.args.layout.now.items in
    let given : c.into_iter-id-iterator.result ≡ all = search rules in
    record {
      found = (
        [],
        refl,
        c.new-first.ensures.items,
        complete_none all c.into_iter-id-iterator.result c.new-writes.result.items given c.new-writes.ensures.items,
      );
      few = let same = ap length given in omega (arith, same);
    }

pub loop-id-preserved-in-Continue-branch-3 : goal.loop-id-preserved-in-Continue-branch-3
loop-id-preserved-in-Continue-branch-3 c =
    let all : List (ItemId × Item) = entries c.args.layout.now.items in
    let left : c.loop-id.id-iterator ≡ (c.in-Some.id, c.in-Some.item.now) ∷ c.next.new.self = search rules in
    let step : IsTurned c.in-Some.item.now c.in-Turned.new = search rules in
    let pushed : c.push.new.self.items ≡ c.loop-id.writes.items ++ (c.in-Some.id, Some c.in-Turned.new) ∷ [] = search rules in
    let count : length c.loop-id.id-iterator ≡ suc (length c.next.new.self) = ap length left in
    let found = c.loop-id.invariant.found in
    record {
      found = (
        found.0,
        found.1,
        found.2,
        complete_turned all c.next.new.self (c.in-Some.id, c.in-Some.item.now) c.in-Turned.new c.loop-id.writes.items
            c.push.new.self.items found.0 step pushed
            (subst (λ (l : List (ItemId × Item)). Completes all l c.loop-id.writes.items found.0) left found.3),
      );
      few = omega (arith, count, c.loop-id.invariant.few);
    }

pub loop-id-preserved : goal.loop-id-preserved
loop-id-preserved c =
    let all : List (ItemId × Item) = entries c.args.layout.now.items in
    let left : c.loop-id.id-iterator ≡ (c.in-Some.id, c.in-Some.item.now) ∷ c.next.new.self = search rules in
    let step : IsShapeOf c.in-Otherwise.cell c.in-Some.item.now = search rules in
    let count : length c.loop-id.id-iterator ≡ suc (length c.next.new.self) = ap length left in
    let found = c.loop-id.invariant.found in
    let stay : CellId × ItemId = (c.in-Otherwise.cell, c.in-Some.id) in
    let one_more : length (found.0 ++ stay ∷ []) ≡ length found.0 + 1 = length-append found.0 (stay ∷ []) in
    let added : c.add_first.new.first.items ≡ take 3 (c.loop-id.first.items ++ stay ∷ []) = search rules in
    record {
      found = (
        found.0 ++ stay ∷ [],
        omega (arith, found.1, one_more),
        added ∙ ap (λ (l : List (CellId × ItemId)). take 3 (l ++ stay ∷ [])) found.2 ∙ take_further 3 found.0 (stay ∷ []),
        complete_otherwise all c.next.new.self (c.in-Some.id, c.in-Some.item.now) c.loop-id.writes.items found.0
            c.in-Otherwise.cell step
            (subst (λ (l : List (ItemId × Item)). Completes all l c.loop-id.writes.items found.0) left found.3),
      );
      few = omega (arith, count, c.loop-id.invariant.few);
    }

pub returns : goal.returns
returns c =
    let none : c.loop-id.id-iterator ≡ [] = search rules in
    let found = c.loop-id.invariant.found in (
      found.0,
      found.1,
      found.2,
      complete_all (entries c.args.layout.now.items) c.loop-id.id-iterator c.loop-id.writes.items found.0 none found.3,
    )
