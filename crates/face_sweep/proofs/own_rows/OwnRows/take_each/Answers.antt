-- Each owner's list is changed once.
use Rattle.std.proofs.Common.{◌≡◌, ◌+◌, ◌++◌, [], true, get_or, take, sym, ap, subst, ◌∙◌}
use Rattle.std.proofs.lemmas.List.{append-nil, get_or_default, take_all}
use Rattle.std.proofs.lemmas.Option.{get_or_from_slice_get}
use Rattle.lay_point.specs.Parity.{parity, xor}
use Rattle.lay_point.proofs.Parity.{xor_self}
use Rattle.snap_chains.specs.declared.owner.Input.TheVariants.{First}
use Rattle.snap_chains.specs.declared.owner.Owner.{Owner}
use Rattle.snap_chains.specs.Owners.{owner_eq}
use Rattle.snap_chains.specs.Rounded.{is_owner_listed}
use Rattle.face_rows.specs.Lines.{owners_at}
use Rattle.face_rows.proofs.OwnerLemmas.{listed_at, listed_of}
use Rattle.face_sweep.specs.OwnRows.{IsCutAt, listed_if}
use Rattle.face_sweep.proofs.OwnLemmas.{own_agree, passed_not, passed_now, passed_still}
use Rattle.face_sweep.proofs.own_rows.OwnRows.take_each.Goals as goal

first : Owner
first = record { input = First; shape = 0 }

pub loop-owner-preserved : goal.loop-owner-preserved
unfolding first
loop-owner-preserved c =
    let r = c.args.edges.now in
    let owners = c.owners-owner-items.result.now in
    let rising = c.owners-owner-items.ensures.rising in
    let i = c.loop-owner.owner-index in
    let less = c.loop-owner-test.true in
    let n = c.args.number in
    let o = get_or owners i first in
    let own : owners_at r n ≡ owners = get_or_from_slice_get r.1 n owners [] c.owners-owner-items.ensures.value in
    let listed : is_owner_listed o owners ≡ true = listed_at owners i o less (sym (get_or_default owners i first o less)) in
    record {
      room = c.take_one.ensures.room;
      taken = λ right left cut h. c.take_one.ensures.taken
          (λ p. (right p ++ listed_if (xor (parity (λ q. owner_eq q p) (take i owners)) (is_owner_listed p owners)) n) ++ left p)
          (λ p. (right p ++ listed_if (xor (parity (λ q. owner_eq q p) (take (i + 1) owners)) (is_owner_listed p owners)) n) ++ left p)
          (right o) (left o) n
          (λ k. (right o ++ listed_if (xor (passed_not owners i first rising less k) (listed k)) n) ++ left o)
          (subst (λ b. IsCutAt r c.args.point (right o ++ listed_if b n) (left o)) (ap (is_owner_listed o) own ∙ listed) (cut o))
          ((λ k. (right o ++ listed_if (xor (passed_now owners i first rising less k) (listed k)) n) ++ left o)
          ∙ ap (λ l. l ++ left o) (append-nil (right o)))
          (λ p apart. ap (λ b. (right p ++ listed_if (xor b (is_owner_listed p owners)) n) ++ left p)
          (passed_still owners i first rising less p apart))
          (c.loop-owner.invariant.taken right left cut h);
    }

pub returns-clause-taken : goal.returns-clause-taken
returns-clause-taken c = λ right left cut h.
    let owners = c.owners-owner-items.result.now in
    let n = c.args.number in
    let all = take_all c.loop-owner.owner-index owners c.loop-owner-test.false in
    own_agree c.args.reach.now.traced.items c.loop-owner.self _ _
    (λ o. ap (λ b. (right o ++ listed_if (xor b (is_owner_listed o owners)) n) ++ left o) (ap (parity (λ q. owner_eq q o)) all
    ∙ listed_of owners o c.owners-owner-items.ensures.rising)
    ∙ ap (λ b. (right o ++ listed_if b n) ++ left o) (xor_self (is_owner_listed o owners))
    ∙ ap (λ l. l ++ left o) (append-nil (right o)))
    (c.loop-owner.invariant.taken right left cut h)
