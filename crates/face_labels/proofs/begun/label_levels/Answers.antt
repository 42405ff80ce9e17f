-- Each label is written at its edge's number.
use Rattle.std.proofs.Common.{◌<◌, ◌≤◌, ◌≡◌, ◌∙◌, ⊎_elim, get_or, length, set, subst, arith}
use Rattle.std.proofs.Math.ListN.{length-set}
use Rattle.std.proofs.lemmas.Bool.{cases_lt}
use Rattle.std.proofs.lemmas.List.Elements.{Contains-get_or}
use Rattle.face_labels.specs.RowSides.{HasLabel}
use Rattle.face_labels.proofs.WrittenLemmas.{all_found, label_here, label_kept}
use Rattle.face_labels.proofs.begun.label_levels.Goals as goal

pub level_label-label-requires-clause-beside : goal.level_label-label-requires-clause-beside
level_label-label-requires-clause-beside c = λ o.
    let levels = c.args.levels.now in
    let i = c.loop-index.index in
    c.requires.beside (get_or levels i 0) o (Contains-get_or levels i 0 c.loop-index-test.true)

pub loop-index-preserved : goal.loop-index-preserved
loop-index-preserved c =
    let r = c.args.edges.now in
    let op = c.args.op in
    let levels = c.args.levels.now in
    let old = c.loop-index.labels.items in
    let i = c.loop-index.index in
    let n = get_or levels i 0 in
    let label = c.level_label-label.result in
    let own = c.loop-index.invariant in
    let inside : n < length old = omega (arith, own.count, c.requires.levels i 0 c.loop-index-test.true) in
    record {
      count = length-set old n label ∙ own.count;
      kept = λ m h. label_kept op r old n label m inside c.level_label-label.ensures (own.kept m h);
      labels = λ k less. ⊎_elim
          (λ (before : k < i). label_kept op r old n label (get_or levels k 0) inside c.level_label-label.ensures (own.labels k before))
          (λ (ge : i ≤ k).
          let same : i ≡ k = omega arith in
          subst (λ j. HasLabel op r (set old n label) (get_or levels j 0)) same
          (label_here op r old n label inside c.level_label-label.ensures))
          (cases_lt k i);
    }

pub returns-clause-labels : goal.returns-clause-labels
returns-clause-labels c =
    all_found (HasLabel c.args.op c.args.edges.now c.loop-index.labels.items) c.args.levels.now
    (λ k less. c.loop-index.invariant.labels k (omega (arith, c.loop-index-test.false)))
