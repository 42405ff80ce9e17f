use Rattle.std.proofs.Common.{◌≡◌, ◌+◌, ◌-◌, ◌++◌, ◌∷◌, [], get_or, Vec, Global, length, take, rules, sym, ap, ◌∙◌, subst}
use Rattle.std.proofs.lemmas.Bool.{false≢true}
use Rattle.std.proofs.lemmas.List.{take_all, get_or_default}
use Rattle.snap_chains.specs.declared.owner.Owner.{Owner}
use Rattle.snap_chains.specs.declared.owner.Input.TheVariants.{First}
use Rattle.snap_chains.specs.declared.pass.Pass.{Pass}
use Rattle.snap_chains.specs.Reading.{HasLastOwner}
use Rattle.snap_chains.proofs.OddOwners.{IsOddSoFar, odd_start, odd_less, odd_more, odd_end}
use Rattle.snap_chains.proofs.reading.add_odd.Goals as goal
use Rattle.snap_chains.proofs.reading.add_odd.Goals.{then-ends_with, else-ends_with+in_ok-push}

pub loop-pass-init : goal.loop-pass-init
loop-pass-init c = odd_start c.args.group.now c.args.owners.now.items

pub loop-pass-preserved : goal.loop-pass-preserved
loop-pass-preserved c =
    let group = c.args.group.now in
    let old = c.args.owners.now.items in
    let k = c.loop-pass.pass-index in
    let least : Pass = record { low = 0; high = 0; owner = record { input = First; shape = 0 } } in
    let x = get_or group k least in
    let at : x ≡ get_or group k x = get_or_default group k least x c.loop-pass-test.true in
    let owners = c.loop-pass.owners.items in
    let len : c.len-base.result ≡ length old = search rules in
    let tests = c.ends_with.ensures in
    elim c.if-ends_with.branch [
      | then-ends_with w ↦
          let ends : HasLastOwner owners (length old) x.owner = coe 0 1 (i. HasLastOwner (c.as_slice.ensures.value i) (len i) x.owner)
          (tests.0 w.if-ends_with.true) in
          let fewer : c.if-ends_with.owners.items ≡ take (length owners - 1) owners =
          ap (λ (v : Vec Owner Global). v.items) w.owners-is ∙ w.pop.ensures.rest
          ∙ ap (λ n. take (n - 1) owners) (sym c.as_slice.ensures.len ∙ ap length c.as_slice.ensures.value) in
          subst (IsOddSoFar group old (k + 1)) (sym fewer)
          (odd_less group c.args._edge old c.requires.sorted c.requires.same k x owners c.loop-pass-test.true at c.loop-pass.invariant ends)
      | else-ends_with+in_ok-push w ↦
          let more : c.if-ends_with.owners.items ≡ owners ++ x.owner ∷ [] =
          ap (λ (v : Vec Owner Global). v.items) w.owners-is ∙ w.in_ok-push.ensures.items in
          subst (IsOddSoFar group old (k + 1)) (sym more)
          (odd_more group c.args._edge old c.requires.sorted c.requires.same k x owners c.loop-pass-test.true at c.loop-pass.invariant
          (λ e. false≢true (sym w.if-ends_with.false ∙ tests.1 (coe 1 0 (i. HasLastOwner (c.as_slice.ensures.value i) (len i) x.owner) e))))
    ]

pub returns : goal.returns
returns c =
    let all = take_all c.loop-pass.pass-index c.args.group.now (search rules) in
    odd_end c.args.group.now c.args._edge c.args.owners.now.items c.requires.sorted c.requires.same c.loop-pass.pass-index
    c.loop-pass.owners.items all c.loop-pass.invariant
