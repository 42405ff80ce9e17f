-- Each owner's list is changed once.
use Rattle.std.proofs.Common.{◌≡◌, ◌+◌, ◌++◌, [], get_or, take, sym, ap, ◌∙◌}
use Rattle.std.proofs.lemmas.List.{append-nil, take_all}
use Rattle.std.proofs.lemmas.Option.{get_or_from_slice_get}
use Rattle.lay_point.specs.Parity.{parity}
use Rattle.snap_chains.specs.declared.owner.Input.TheVariants.{First}
use Rattle.snap_chains.specs.declared.owner.Owner.{Owner}
use Rattle.snap_chains.specs.Owners.{owner_eq}
use Rattle.snap_chains.specs.Rounded.{is_owner_listed}
use Rattle.face_rows.specs.Lines.{owners_at}
use Rattle.face_rows.proofs.OwnerLemmas.{listed_of}
use Rattle.face_sweep.specs.OwnRows.{listed_if}
use Rattle.face_sweep.proofs.OwnLemmas.{own_agree, passed_not, passed_now, passed_still}
use Rattle.face_sweep.proofs.own_rows.OwnRows.put_each.Goals as goal

first : Owner
first = record { input = First; shape = 0 }

pub loop-owner-preserved : goal.loop-owner-preserved
unfolding first
loop-owner-preserved c =
    let owners = c.owners-owner-items.result.now in
    let rising = c.owners-owner-items.ensures.rising in
    let i = c.loop-owner.owner-index in
    let less = c.loop-owner-test.true in
    let n = c.args.number in
    let o = get_or owners i first in
    record {
      room = c.in_ok-put_one.ensures.room;
      put = λ right left cut h. c.in_ok-put_one.ensures.put
          (λ p. (right p ++ listed_if (parity (λ q. owner_eq q p) (take i owners)) n) ++ left p)
          (λ p. (right p ++ listed_if (parity (λ q. owner_eq q p) (take (i + 1) owners)) n) ++ left p) (right o) (left o)
          (ap (λ b. (right o ++ listed_if b n) ++ left o) (passed_not owners i first rising less)
          ∙ ap (λ l. l ++ left o) (append-nil (right o)))
          (cut o) (ap (λ b. (right o ++ listed_if b n) ++ left o) (passed_now owners i first rising less))
          (λ p apart. ap (λ b. (right p ++ listed_if b n) ++ left p) (passed_still owners i first rising less p apart))
          (c.loop-owner.invariant.put right left cut h);
    }

pub returns-clause-put : goal.returns-clause-put
returns-clause-put c = λ right left cut h.
    let r = c.args.edges.now in
    let owners = c.owners-owner-items.result.now in
    let n = c.args.number in
    let all = take_all c.loop-owner.owner-index owners c.loop-owner-test.false in
    let own : owners_at r n ≡ owners = get_or_from_slice_get r.1 n owners [] c.owners-owner-items.ensures.value in
    own_agree c.args.reach.now.traced.items c.loop-owner.self _ _
    (λ o. ap (λ b. (right o ++ listed_if b n) ++ left o) (ap (parity (λ q. owner_eq q o)) all
    ∙ listed_of owners o c.owners-owner-items.ensures.rising ∙ sym (ap (is_owner_listed o) own)))
    (c.loop-owner.invariant.put right left cut h)
