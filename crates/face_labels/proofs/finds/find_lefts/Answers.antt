use Rattle.std.proofs.Common.{◌≡◌, ◌+◌, ◌-◌, ◌<◌, ◌∷◌, [], drop, get_or, length, reverse, sym, ap, subst, ◌∙◌, arith}
use Rattle.std.proofs.Math.Seq.{drop-length}
use Rattle.std.proofs.lemmas.List.{reverse-append}
use Rattle.face_sweep.specs.Counts.{AreCounts}
use Rattle.face_sweep.specs.OwnRows.{AreOwn, own_of}
use Rattle.face_sweep.specs.Sides.{AreLeftOf, AreLefts, is_odd_in}
use Rattle.face_sweep.proofs.StateLemmas.{lefts_before, odd_before}
use Rattle.face_labels.proofs.LineLemmas.{beside_at}
use Rattle.face_labels.proofs.finds.find_lefts.Goals as goal

pub loop-index-init : goal.loop-index-init
loop-index-init c =
    let r = c.args.edges.now in
    let numbers = c.args.numbers.now in
    let all : drop c.len-index.result numbers ≡ [] = ap (λ k. drop k numbers) c.len-index.ensures ∙ drop-length numbers in
    let none = sym all in
    record {
      bound = omega (arith, c.len-index.ensures);
      right = subst (λ l. AreCounts c.none-right.result (is_odd_in r l)) none c.none-right.ensures;
      lefts = coe 1 0 (i. AreLefts r (all i) (reverse (c.in_ok-lefts.ensures.items i))) tt;
      room = c.requires.room;
      own = subst (λ l. AreOwn c.args.reach.now.traced.items (λ o. own_of r o l) c.args.own.now) none c.requires.own;
    }

pub find_one-requires-clause-beside : goal.find_one-requires-clause-beside
find_one-requires-clause-beside c =
    beside_at c.args.edges.now c.args.numbers.now 0 c.requires.behind (c.loop-index.index - 1) (omega arith)
    (omega (arith, c.loop-index-test.true, c.loop-index.invariant.bound))

pub find_one-requires-clause-right : goal.find_one-requires-clause-right
find_one-requires-clause-right c =
    let i = c.loop-index.index in
    let back : (i - 1) + 1 ≡ i = omega (arith, c.loop-index-test.true) in
    subst (λ k. AreCounts c.loop-index.right (is_odd_in c.args.edges.now (drop k c.args.numbers.now))) (sym back)
    c.loop-index.invariant.right

pub find_one-requires-clause-own : goal.find_one-requires-clause-own
find_one-requires-clause-own c =
    let i = c.loop-index.index in
    let back : (i - 1) + 1 ≡ i = omega (arith, c.loop-index-test.true) in
    subst (λ k. AreOwn c.args.reach.now.traced.items (λ o. own_of c.args.edges.now o (drop k c.args.numbers.now)) c.loop-index.own)
    (sym back) c.loop-index.invariant.own

pub loop-index-preserved : goal.loop-index-preserved
loop-index-preserved c =
    let r = c.args.edges.now in
    let numbers = c.args.numbers.now in
    let i = c.loop-index.index in
    let old = c.loop-index.lefts.items in
    let bound = c.loop-index.invariant.bound in
    let some = c.loop-index-test.true in
    let less : i - 1 < length numbers = omega (arith, some, bound) in
    let n = get_or numbers (i - 1) 0 in
    let step = c.in_ok-right.ensures in
    let left = c.in_ok-left.left in
    let beside = beside_at r numbers 0 c.requires.behind (i - 1) (omega arith) less in
    let is_pushed = c.in_ok-push.ensures.items in
    record {
      bound = omega (arith, bound);
      right = odd_before r numbers (i - 1) c.in_ok-right.right less beside step.left;
      lefts = subst (λ l. AreLefts r (drop (i - 1) numbers) l) (sym (ap reverse is_pushed ∙ reverse-append old (left ∷ [])))
          (lefts_before r numbers (reverse old) i left some bound (subst (AreLeftOf r n) (sym c.in_ok-left.ensures) step.left)
          c.loop-index.invariant.lefts);
      room = step.room;
      own = step.own;
    }

pub returns-clause-lefts : goal.returns-clause-lefts
returns-clause-lefts c =
    let r = c.args.edges.now in
    let numbers = c.args.numbers.now in
    let none : c.loop-index.index ≡ 0 = omega (arith, c.loop-index-test.false) in
    subst (AreLefts r numbers) (sym c.reverse.ensures.items)
    (subst (λ k. AreLefts r (drop k numbers) (reverse c.loop-index.lefts.items)) none c.loop-index.invariant.lefts)

pub returns-clause-own : goal.returns-clause-own
returns-clause-own c =
    let none : c.loop-index.index ≡ 0 = omega (arith, c.loop-index-test.false) in
    subst (λ k. AreOwn c.args.reach.now.traced.items (λ o. own_of c.args.edges.now o (drop k c.args.numbers.now)) c.loop-index.own)
    none c.loop-index.invariant.own
