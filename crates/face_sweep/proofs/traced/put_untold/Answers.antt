use Rattle.std.proofs.Common.{◌≡◌, ⊎_elim, None, true, Contains, get_or, subst, take, ap, ◌∙◌}
use Rattle.std.proofs.lemmas.List.{take_all}
use Rattle.snap_chains.specs.declared.owner.Input.TheVariants.{First}
use Rattle.snap_chains.specs.declared.owner.Owner.{Owner}
use Rattle.snap_chains.specs.Rounded.{is_owner_listed}
use Rattle.face_sweep.specs.Reaches.{extent_of, key_of, told_by}
use Rattle.face_sweep.proofs.OwnLemmas.{listed_more}
use Rattle.face_sweep.proofs.traced.put_untold.Goals as goal

first : Owner
first = record { input = First; shape = 0 }

pub loop-owner-preserved : goal.loop-owner-preserved
unfolding first
loop-owner-preserved c =
    let owners = c.args.owners.now in
    let i = c.loop-owner.owner-index in
    let step = c.in_ok-put_if_untold.ensures in
    let new = c.put_if_untold.new.keys.items in
    record {
      kept = λ k found. step.kept k (c.loop-owner.invariant.kept k found);
      untold = λ o listed none. ⊎_elim
          (λ (before : is_owner_listed o (take i owners) ≡ true).
          step.kept (key_of o) (c.loop-owner.invariant.untold o before none))
          (λ (here : get_or owners i first ≡ o).
          subst (λ p. told_by (extent_of c.args.boxes.now p) c.args.edge ≡ None → Contains new (key_of p)) here step.untold none)
          (listed_more owners i first o c.loop-owner-test.true listed);
    }

pub returns-clause-untold : goal.returns-clause-untold
returns-clause-untold c = λ o listed none.
    c.loop-owner.invariant.untold o
    (ap (is_owner_listed o) (take_all c.loop-owner.owner-index c.args.owners.now c.loop-owner-test.false) ∙ listed) none
