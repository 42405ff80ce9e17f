use Rattle.std.proofs.Common.{◌≡◌, ◌<◌, ◌+◌, ◌∙◌, Some, drop, get_or, length, set, sym, ap, subst, arith}
use Rattle.std.proofs.Math.ListN.{length-set}
use Rattle.face_rows.specs.Labels.{differs, owned_items}
use Rattle.face_rows.specs.Lines.{owned_item_at, owners_at}
use Rattle.face_rows.specs.Operations.{answer}
use Rattle.face_sweep.specs.OwnRows.{HasPutEdge}
use Rattle.face_sweep.specs.Reaches.{keys_of}
use Rattle.face_sweep.specs.Sides.{AreLeftOf, AreSidesOf, holds_beside, is_odd_in}
use Rattle.face_sweep.proofs.LabelLemmas.{label_beside}
use Rattle.face_sweep.proofs.StateLemmas.{sides_agree}
use Rattle.face_labels.specs.RowSides.{HasLabel}
use Rattle.face_labels.proofs.WrittenLemmas.{label_here, label_kept}
use Rattle.face_labels.proofs.begun.find_labelled.Goals as goal

pub returns : goal.returns
returns c =
    let r = c.args.edges.now in
    let op = c.args.op in
    let numbers = c.args.numbers.now in
    let i = c.args.index in
    let n = c.get-number.result in
    let same : n ≡ get_or numbers i 0 = c.get-number.ensures 0 in
    let given : n < length r.0 = subst (λ m. m < length r.0) (sym same) (c.requires.given i 0 c.requires.index) in
    let sides = c.of-sides.result in
    let labels = c.args.labels.now.items in
    let inside : n < length labels = omega (arith, given, c.requires.count) in
    let own : AreSidesOf (owners_at r n) (holds_beside r n) sides =
    sides_agree (owners_at r n) (is_odd_in r (drop (i + 1) numbers)) (holds_beside r n) sides
    (λ o. c.requires.beside o ∙ ap (λ m. holds_beside r m o) (sym same)) c.of-sides.ensures in
    let label = c.differs.result in
    let is : label ≡ differs (answer op) (owned_items r) (owned_item_at r n) =
    label_beside op r n c.requires.sound given sides own label c.differs.ensures in
    record {
      left = subst (λ m. AreLeftOf r m c.left.result) same (subst (AreLeftOf r n) (sym c.left.ensures) own.left);
      room = c.in_ok-put.ensures.room;
      put = subst (λ m. HasPutEdge r (keys_of c.args.reach.now) (Some c.args.point) m c.args.own.now c.put.new.self) same
          c.in_ok-put.ensures.put;
      count = length-set labels n label ∙ c.requires.count;
      written = λ m h. label_kept op r labels n label m inside is h;
      label = subst (HasLabel op r (set labels n label)) same (label_here op r labels n label inside is);
    }
