use Rattle.std.proofs.Common.{◌≡◌, ◌+◌, ◌++◌, ◌∷◌, [], List, ℕ, length, reverse, map, false, rules, ap, ◌∙◌, arith, length-append}
use Rattle.lay_cells.specs.Symbols.{has_symbol}
use Rattle.txn_plans.specs.Searching.{called_by, symbols_from}
use Rattle.txn_plans.proofs.Searches.{begins, fewer, goes_in, left}
use Rattle.txn_plans.proofs.calls.symbols_from.Goals as goal

pub loop-number-init : goal.loop-number-init
loop-number-init c = record {
  seen = search rules;
  searches = rw (c.new-found.ensures.items) (begins c.args.layout.now c.args.from c.push_first.new.pending.items (search rules));
}

-- a symbol that wasn't found is found, and those that it calls are pending
pub loop-number-smaller-in-Continue-branch-4 : goal.loop-number-smaller-in-Continue-branch-4
loop-number-smaller-in-Continue-branch-4 c =
    let l = c.args.layout.now in
    let found = c.loop-number.found.items in
    let n = c.in-Some.number in
    let rest : List ℕ = c.pop.new.self.items in
    let top : c.loop-number.pending.items ≡ rest ++ n ∷ [] = search rules in
    let new : has_symbol found n ≡ false = search rules in
    let more : c.push.new.self.items ≡ found ++ n ∷ [] = search rules in
    let next : c.push_called.new.pending.items ≡ rest ++ reverse (called_by l n) = search rules in
    let less = fewer l rest c.push_called.new.pending.items found n new next in
    let len : length c.loop-number.pending.items ≡ length rest + 1 = ap length top ∙ length-append rest (n ∷ []) in
    let same : left l c.push.new.self.items ≡ left l (found ++ n ∷ []) = ap (left l) more in
    omega (arith, less, len, same)

pub loop-number-preserved-in-Continue-branch-4 : goal.loop-number-preserved-in-Continue-branch-4
loop-number-preserved-in-Continue-branch-4 c =
    let l = c.args.layout.now in
    let found = c.loop-number.found.items in
    let n = c.in-Some.number in
    let rest : List ℕ = c.pop.new.self.items in
    let top : c.loop-number.pending.items ≡ rest ++ n ∷ [] = search rules in
    let new : has_symbol found n ≡ false = search rules in
    let more : c.push.new.self.items ≡ found ++ n ∷ [] = search rules in
    let next : c.push_called.new.pending.items ≡ rest ++ reverse (called_by l n) = search rules in
    record {
      seen = search rules;
      searches = rw more (goes_in l c.loop-number.pending.items rest c.push_called.new.pending.items found
          (symbols_from l c.args.from) n top new next
          c.loop-number.invariant.searches);
    }
