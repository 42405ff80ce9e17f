use Rattle.std.proofs.Common.{◌≡◌, ◌≢◌, ◌<◌, ◌≤◌, ◌+◌, length, get_or, subst, ◌∙◌, arith, rules}
use Rattle.std.proofs.lemmas.List.{get_or_default}
use Rattle.face_ring_laws.specs.Heads.{IsNumbered}
use Rattle.face_ring_laws.proofs.PartLemmas.{numbered_fresh, numbered_old}
use Rattle.face_rings.proofs.dividing.labels_of.Goals as goal
use Rattle.face_rings.proofs.dividing.labels_of.Goals.{then-head-number+in_ok-push, else-head-number+in_ok-push-2}

pub loop-number-preserved : goal.loop-number-preserved
loop-number-preserved c =
    let heads = c.args.heads.now in
    let n = c.loop-number.number in
    let labels = c.loop-number.labels.items in
    let count = c.loop-number.count in
    let h = c.loop-number.invariant in
    elim c.if-head-number.branch [
      | then-head-number+in_ok-push w ↦
          let own : get_or heads n 0 ≡ n = search rules in
          let next =
          numbered_fresh heads c.requires n c.loop-number-test.true labels w.push.new.self.items count h.0 own
          w.in_ok-push.ensures.items in
          coe 1 0 (k. IsNumbered heads (n + 1) (w.labels-is k).items (w.count-is k) × (w.count-is k ≤ n + 1)) (next, omega (arith, h.1))
      | else-head-number+in_ok-push-2 w ↦
          let other : get_or heads n 0 ≢ n = search rules in
          let low = (c.requires n c.loop-number-test.true).0 in
          let before : get_or heads n 0 < length labels = omega (arith, h.0.each, low, other) in
          let next = numbered_old heads c.requires n c.loop-number-test.true labels w.push-else-head-number.new.self.items count h.0 other
          w.index.result.now (w.index.ensures ∙ get_or_default labels (get_or heads n 0) w.index.result.now 0 before)
          w.in_ok-push-2.ensures.items in
          coe 1 0 (k. IsNumbered heads (n + 1) (w.labels-is k).items (w.count-is k) × (w.count-is k ≤ n + 1)) (next, omega (arith, h.1))
    ]

pub returns : goal.returns
returns c =
    subst (λ n. IsNumbered c.args.heads.now n c.loop-number.labels.items c.loop-number.count)
    (omega (arith, c.loop-number-test.false, c.loop-number.auto.number-end)) c.loop-number.invariant.0
