use Rattle.std.proofs.Common.{◌≡◌, ◌<◌, ◌≤◌, ◌+◌, ◌++◌, ◌-◌, ◌∷◌, [], ⊎_elim, drop, get_or, length, reverse, take}
use Rattle.std.proofs.Common.{sym, ap, subst, ◌∙◌, arith}
use Rattle.std.specs.Prelude.{slice_range}
use Rattle.std.proofs.lemmas.Bool.{cases_lt}
use Rattle.std.proofs.lemmas.List.{reverse-append}
use Rattle.snap_chains.specs.declared.owner.Owner.{Owner}
use Rattle.face_sweep.specs.Counts.{AreCounts}
use Rattle.face_sweep.specs.OwnRows.{AreOwn, own_edge, own_of}
use Rattle.face_sweep.specs.Sides.{AreLeftOf, AreLefts, is_odd_in}
use Rattle.face_sweep.proofs.OwnLemmas.{own_agree, own_cut}
use Rattle.face_sweep.proofs.StateLemmas.{lefts_between, odd_before}
use Rattle.face_labels.specs.RowSides.{HasLabel}
use Rattle.face_labels.proofs.LineLemmas.{beside_at, cut_later, own_joined, own_split}
use Rattle.face_labels.proofs.begun.find_begun.Goals as goal

pub find_labelled-requires-clause-beside : goal.find_labelled-requires-clause-beside
find_labelled-requires-clause-beside c =
    beside_at c.args.edges.now c.args.numbers.now c.args.group.from c.requires.behind (c.loop-index.index - 1)
    (omega (arith, c.loop-index-test.true))
    (omega (arith, c.loop-index-test.true, c.loop-index.invariant.bound, c.requires.bound))

pub find_labelled-requires-clause-right : goal.find_labelled-requires-clause-right
find_labelled-requires-clause-right c =
    let i = c.loop-index.index in
    let back : (i - 1) + 1 ≡ i = omega (arith, c.loop-index-test.true) in
    subst (λ k. AreCounts c.loop-index.right (is_odd_in c.args.edges.now (drop k c.args.numbers.now))) (sym back)
    c.loop-index.invariant.right

pub find_labelled-requires-clause-own : goal.find_labelled-requires-clause-own
find_labelled-requires-clause-own c =
    let r = c.args.edges.now in
    let p = c.args.group.point in
    let numbers = c.args.numbers.now in
    let from = c.args.group.from in
    let i = c.loop-index.index in
    let back : (i - 1) + 1 ≡ i = omega (arith, c.loop-index-test.true) in
    let later : from ≤ (i - 1) + 1 = omega (arith, c.loop-index-test.true) in
    record {
      left = λ o. own_of r o (take from numbers);
      cut = λ o. own_cut r o p (drop ((i - 1) + 1) numbers) (take from numbers)
          (cut_later r p numbers (take from numbers) from ((i - 1) + 1) later c.requires.cut);
      own = subst (λ k. AreOwn c.args.reach.now.traced.items
          (λ o. own_of r o (drop k numbers) ++ own_of r o (take from numbers)) c.loop-index.own) (sym back) c.loop-index.invariant.own;
    }

pub loop-index-preserved : goal.loop-index-preserved
loop-index-preserved c =
    let r = c.args.edges.now in
    let p = c.args.group.point in
    let keys = c.args.reach.now.traced.items in
    let numbers = c.args.numbers.now in
    let from = c.args.group.from in
    let i = c.loop-index.index in
    let invariant = c.loop-index.invariant in
    let step = c.in_ok-right.ensures in
    let found = c.in_ok-left.left in
    let old = c.loop-index.lefts.items in
    let some : 0 < i = omega (arith, c.loop-index-test.true) in
    let back : (i - 1) + 1 ≡ i = omega (arith, some) in
    let within : i ≤ length numbers = omega (arith, invariant.bound, c.requires.bound) in
    let less : i - 1 < length numbers = omega (arith, some, within) in
    let later : from ≤ i = omega (arith, c.loop-index-test.true) in
    let n = get_or numbers (i - 1) 0 in
    let right = λ (o : Owner). own_of r o (drop i numbers) in
    let left = λ (o : Owner). own_of r o (take from numbers) in
    record {
      from = omega (arith, c.loop-index-test.true);
      bound = omega (arith, invariant.bound);
      right = odd_before r numbers (i - 1) c.in_ok-right.right less
          (beside_at r numbers from c.requires.behind (i - 1) (omega (arith, c.loop-index-test.true)) less) step.left;
      lefts = subst (λ l. AreLefts r (slice_range numbers (i - 1) c.args.group.to) l)
          (sym (ap reverse c.in_ok-push.ensures.items ∙ reverse-append old (found ∷ [])))
          (lefts_between r numbers (reverse old) i c.args.group.to found some invariant.bound c.requires.bound
          (subst (AreLeftOf r n) (sym c.in_ok-left.ensures) step.left) invariant.lefts);
      room = step.room;
      own = own_agree keys c.find_labelled.new.own (λ o. (right o ++ own_edge r o n) ++ left o)
          (λ o. own_of r o (drop (i - 1) numbers) ++ left o)
          (λ o. ap (λ l. l ++ left o) (ap (λ k. own_of r o (drop k numbers) ++ own_edge r o n) (sym back)
          ∙ own_split r o numbers (i - 1) less))
          (step.put right left (λ o. own_cut r o p (drop i numbers) (take from numbers)
          (cut_later r p numbers (take from numbers) from i later c.requires.cut)) invariant.own);
      count = c.find_labelled.ensures.count;
      written = λ m h. step.written m (invariant.written m h);
      labels = λ k start end. ⊎_elim
          (λ (early : k < i).
          let same : i - 1 ≡ k = omega (arith, early, start, some) in
          subst (λ j. HasLabel c.args.op r c.find_labelled.new.labels.items (get_or numbers j 0)) same step.label)
          (λ (ge : i ≤ k). step.written (get_or numbers k 0) (invariant.labels k ge end))
          (cases_lt k i);
    }

pub returns-clause-lefts : goal.returns-clause-lefts
returns-clause-lefts c =
    let r = c.args.edges.now in
    let numbers = c.args.numbers.now in
    let to = c.args.group.to in
    let last : c.loop-index.index ≡ c.args.group.from = omega (arith, c.loop-index-test.false, c.loop-index.invariant.from) in
    subst (AreLefts r (slice_range numbers c.args.group.from to)) (sym c.reverse.ensures.items)
    (subst (λ k. AreLefts r (slice_range numbers k to) (reverse c.loop-index.lefts.items)) last c.loop-index.invariant.lefts)

pub returns-clause-own : goal.returns-clause-own
returns-clause-own c =
    let r = c.args.edges.now in
    let numbers = c.args.numbers.now in
    let from = c.args.group.from in
    let last : c.loop-index.index ≡ from = omega (arith, c.loop-index-test.false, c.loop-index.invariant.from) in
    own_agree c.args.reach.now.traced.items c.loop-index.own
    (λ o. own_of r o (drop c.loop-index.index numbers) ++ own_of r o (take from numbers)) (λ o. own_of r o numbers)
    (λ o. ap (λ k. own_of r o (drop k numbers) ++ own_of r o (take from numbers)) last ∙ own_joined r o numbers from)
    c.loop-index.invariant.own
