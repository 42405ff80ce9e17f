use Rattle.std.proofs.Common.{◌≡◌, ◌+◌, ◌++◌, [], drop, get_or, refl, sym, ap, subst, ◌∙◌}
use Rattle.std.proofs.lemmas.List.{append-nil}
use Rattle.snap_chains.specs.declared.owner.Owner.{Owner}
use Rattle.face_rows.specs.Lines.{owners_at}
use Rattle.face_sweep.specs.OwnRows.{own_edge, own_of}
use Rattle.face_sweep.specs.Sides.{AreLeftOf, AreSidesOf, holds_beside, is_odd_in}
use Rattle.face_sweep.proofs.OwnLemmas.{own_agree}
use Rattle.face_sweep.proofs.StateLemmas.{sides_agree}
use Rattle.face_labels.proofs.LineLemmas.{own_split}
use Rattle.face_labels.proofs.finds.find_one.Goals as goal

pub of-sides-requires-clause-own : goal.of-sides-requires-clause-own
of-sides-requires-clause-own c =
    let r = c.args.edges.now in
    let numbers = c.args.numbers.now in
    let next = c.args.index + 1 in
    record {
      left = λ o. [];
      cut = λ o. refl;
      own = own_agree c.args.reach.now.traced.items c.args.own.now (λ o. own_of r o (drop next numbers)) _
          (λ o. sym (append-nil (own_of r o (drop next numbers)))) c.requires.own;
    }

pub of-sides-requires-clause-beside : goal.of-sides-requires-clause-beside
of-sides-requires-clause-beside c = λ o.
    c.requires.beside o ∙ ap (λ n. holds_beside c.args.edges.now n o) (sym (c.get-number.ensures 0))

pub returns : goal.returns
returns c =
    let r = c.args.edges.now in
    let numbers = c.args.numbers.now in
    let keys = c.args.reach.now.traced.items in
    let i = c.args.index in
    let n = get_or numbers i 0 in
    let found = c.get-number.result in
    let same : found ≡ n = c.get-number.ensures 0 in
    let sides = c.of-sides.result in
    let own : AreSidesOf (owners_at r n) (holds_beside r n) sides =
    sides_agree (owners_at r n) (is_odd_in r (drop (i + 1) numbers)) (holds_beside r n) sides c.requires.beside
    (subst (λ m. AreSidesOf (owners_at r m) (is_odd_in r (drop (i + 1) numbers)) sides) same c.of-sides.ensures) in
    let behind = λ (o : Owner). own_of r o (drop (i + 1) numbers) in
    record {
      left = subst (AreLeftOf r n) (sym c.left.ensures) own.left;
      room = c.in_ok-put.ensures.room;
      own = own_agree keys c.put.new.self (λ o. (behind o ++ own_edge r o found) ++ []) (λ o. own_of r o (drop i numbers))
          (λ o. append-nil (behind o ++ own_edge r o found) ∙ ap (λ m. behind o ++ own_edge r o m) same
          ∙ own_split r o numbers i c.requires.index)
          (c.in_ok-put.ensures.put behind (λ o. []) (λ o. refl)
          (own_agree keys c.args.own.now behind (λ o. behind o ++ []) (λ o. sym (append-nil (behind o))) c.requires.own));
    }
