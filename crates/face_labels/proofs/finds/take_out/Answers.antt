-- Of the edges that are left in the lists, and aren't left of the point, that at the index is the first.
use Rattle.std.proofs.Common.{◌≡◌, ◌+◌, ◌++◌, ◌<◌, drop, length, take, sym, ap, subst, ◌∙◌, arith}
use Rattle.snap_chains.specs.declared.owner.Owner.{Owner}
use Rattle.face_sweep.specs.OwnRows.{AreOwn, IsCutAt, own_edge, own_of}
use Rattle.face_sweep.proofs.OwnLemmas.{own_agree, own_cut}
use Rattle.face_labels.proofs.LineLemmas.{cut_later, own_joined, own_split}
use Rattle.face_labels.proofs.finds.take_out.Goals as goal

pub loop-index-init : goal.loop-index-init
loop-index-init c =
    let r = c.args.edges.now in
    let numbers = c.args.numbers.now in
    let from = c.args.group.from in
    record {
      room = c.requires.room;
      own = own_agree c.args.reach.now.traced.items c.args.own.now (λ o. own_of r o numbers)
          (λ o. own_of r o (drop from numbers) ++ own_of r o (take from numbers)) (λ o. sym (own_joined r o numbers from)) c.requires.own;
    }

pub loop-index-preserved : goal.loop-index-preserved
loop-index-preserved c =
    let r = c.args.edges.now in
    let p = c.args.group.point in
    let numbers = c.args.numbers.now in
    let from = c.args.group.from in
    let i = c.loop-index.index in
    let n = c.get.result in
    let less : i < length numbers = omega (arith, c.loop-index-test.true, c.requires.bound) in
    let right = λ (o : Owner). own_of r o (drop (i + 1) numbers) in
    let left = λ (o : Owner). own_of r o (take from numbers) in
    let split : (o : Owner) → right o ++ own_edge r o n ≡ own_of r o (drop i numbers) =
    λ o. ap (λ m. right o ++ own_edge r o m) (c.get.ensures 0) ∙ own_split r o numbers i less in
    record {
      room = c.take_out.ensures.room;
      own = c.take_out.ensures.taken right left
          (λ o. subst (λ l. IsCutAt r p l (left o)) (sym (split o))
          (own_cut r o p (drop i numbers) (take from numbers)
          (cut_later r p numbers (take from numbers) from i c.loop-index.auto.index c.requires.cut)))
          (own_agree c.args.reach.now.traced.items c.loop-index.own (λ o. own_of r o (drop i numbers) ++ left o)
          (λ o. (right o ++ own_edge r o n) ++ left o) (λ o. ap (λ l. l ++ left o) (sym (split o)))
          c.loop-index.invariant.own);
    }

pub returns-clause-own : goal.returns-clause-own
returns-clause-own c =
    let r = c.args.edges.now in
    let numbers = c.args.numbers.now in
    let last : c.loop-index.index ≡ c.args.group.to =
    omega (arith, c.loop-index-test.false, c.loop-index.auto.index-end c.requires.order) in
    subst (λ k. AreOwn c.args.reach.now.traced.items
    (λ o. own_of r o (drop k numbers) ++ own_of r o (take c.args.group.from numbers)) c.loop-index.own)
    last c.loop-index.invariant.own
