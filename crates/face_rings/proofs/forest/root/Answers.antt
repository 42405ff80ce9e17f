use Rattle.std.proofs.Common.{◌≡◌, ◌<◌, refl, sym, ◌∙◌, arith, length, set, get_or}
use Rattle.std.proofs.Math.ListN.{length-set}
use Rattle.face_rings.proofs.ForestLemmas.{halved_forest, halved_roots, next_le, parent_inside, root_of_own, root_of_parent}
use Rattle.face_rings.proofs.forest.root.Goals as goal

pub loop-parents-preserved : goal.loop-parents-preserved
loop-parents-preserved c =
    let ps = c.loop-parents.parents in
    let at = c.loop-parents.at in
    let next = get_or ps (get_or ps at 0) 0 in
    let h = c.loop-parents.invariant in
    let same = length-set ps at next in
    let inside = parent_inside ps (set ps at next) at next h.0 h.1 refl same refl in
    let le = next_le ps (set ps at next) at next h.0 h.1 refl same refl in
    let roots = halved_roots ps (set ps at next) at next h.0 h.1 refl same refl in
    let further : next < length ps = omega (arith, inside, le) in (
      halved_forest ps (set ps at next) at next h.0 h.1 refl same refl,
      omega (arith, inside, le, same),
      roots next further ∙ root_of_parent ps h.0 (get_or ps at 0) inside ∙ root_of_parent ps h.0 at h.1 ∙ h.2,
      (λ k lt. roots k (omega (arith, same)) ∙ h.3 k (omega (arith, same))),
    )

pub returns-clause-value : goal.returns-clause-value
returns-clause-value c =
    let own : get_or c.loop-parents.parents c.loop-parents.at 0 ≡ c.loop-parents.at = omega (arith, c.loop-parents-test.false) in
    sym (root_of_own c.loop-parents.parents c.loop-parents.at own) ∙ c.loop-parents.invariant.2
