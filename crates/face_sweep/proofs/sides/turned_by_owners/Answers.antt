-- Each owner is turned once.
use Rattle.std.proofs.Common.{◌≡◌, ◌+◌, [], get_or, take, sym, ap, ◌∙◌, drop}
use Rattle.std.proofs.lemmas.List.{get_or_default, take_all}
use Rattle.std.proofs.lemmas.Option.{get_or_from_slice_get}
use Rattle.lay_point.specs.Parity.{parity, xor}
use Rattle.snap_chains.specs.declared.owner.Input.TheVariants.{First}
use Rattle.snap_chains.specs.declared.owner.Owner.{Owner}
use Rattle.snap_chains.specs.Owners.{owner_eq}
use Rattle.snap_chains.specs.Rounded.{is_owner_listed}
use Rattle.face_rows.specs.Lines.{owners_at}
use Rattle.face_sweep.specs.Sides.{is_odd_in}
use Rattle.face_rows.proofs.OwnerLemmas.{listed_at, listed_of, none_before, turn_more}
use Rattle.face_sweep.proofs.StateLemmas.{counts_agree}
use Rattle.face_sweep.proofs.sides.turned_by_owners.Goals as goal

first : Owner
first = record { input = First; shape = 0 }

pub holds_beside-holds-requires-clause-listed : goal.holds_beside-holds-requires-clause-listed
unfolding first
holds_beside-holds-requires-clause-listed c =
    let r = c.args.edges.now in
    let owners = c.owners-owner-items.result.now in
    let i = c.loop-owner.owner-index in
    let o = get_or owners i first in
    let own : owners_at r c.args.number ≡ owners =
    get_or_from_slice_get r.1 c.args.number owners [] c.owners-owner-items.ensures.value in
    ap (is_owner_listed o) own ∙ listed_at owners i o c.loop-owner-test.true (sym (get_or_default owners i first o c.loop-owner-test.true))

pub holds_beside-holds-requires-clause-own : goal.holds_beside-holds-requires-clause-own
holds_beside-holds-requires-clause-own c =
    record { behind = (drop c.args._next c.args._row.now); right = c.requires.own; tell = c.requires.beside }

pub turned-left-requires : goal.turned-left-requires
unfolding first
turned-left-requires c =
    let r = c.args.edges.now in
    let behind = drop c.args._next c.args._row.now in
    let owners = c.owners-owner-items.result.now in
    let i = c.loop-owner.owner-index in
    let o = get_or owners i first in (
      λ p. xor (parity (λ q. owner_eq q p) (take i owners)) (is_odd_in r behind p),
      c.loop-owner.invariant,
      ap (λ b. xor b (is_odd_in r behind o)) (none_before owners i first c.owners-owner-items.ensures.rising c.loop-owner-test.true)
          ∙ c.requires.beside o ∙ sym c.holds_beside-holds.ensures,
    )

pub loop-owner-preserved : goal.loop-owner-preserved
unfolding first
loop-owner-preserved c =
    let r = c.args.edges.now in
    let behind = drop c.args._next c.args._row.now in
    let owners = c.owners-owner-items.result.now in
    let i = c.loop-owner.owner-index in
    let o = get_or owners i first in
    let less = c.loop-owner-test.true in
    let was = λ (p : Owner). xor (parity (λ q. owner_eq q p) (take i owners)) (is_odd_in r behind p) in
    counts_agree c.turned-left.result (λ p. xor (owner_eq o p) (was p))
    (λ p. xor (parity (λ q. owner_eq q p) (take (i + 1) owners)) (is_odd_in r behind p))
    (λ p. turn_more owners i first p (is_odd_in r behind p) less)
    (c.turned-left.ensures was c.loop-owner.invariant
    (ap (λ b. xor b (is_odd_in r behind o)) (none_before owners i first c.owners-owner-items.ensures.rising less)
    ∙ c.requires.beside o ∙ sym c.holds_beside-holds.ensures))

pub returns : goal.returns
returns c =
    let r = c.args.edges.now in
    let behind = drop c.args._next c.args._row.now in
    let owners = c.owners-owner-items.result.now in
    let all = take_all c.loop-owner.owner-index owners c.loop-owner-test.false in
    let own : owners_at r c.args.number ≡ owners =
    get_or_from_slice_get r.1 c.args.number owners [] c.owners-owner-items.ensures.value in
    counts_agree c.loop-owner.left _ (λ o. xor (is_owner_listed o (owners_at r c.args.number)) (is_odd_in r behind o))
    (λ o. ap (λ b. xor b (is_odd_in r behind o)) (ap (parity (λ q. owner_eq q o)) all
    ∙ listed_of owners o c.owners-owner-items.ensures.rising ∙ sym (ap (is_owner_listed o) own)))
    c.loop-owner.invariant
