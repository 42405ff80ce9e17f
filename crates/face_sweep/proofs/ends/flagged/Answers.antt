use Rattle.std.proofs.Common.{◌≡◌, ◌++◌, ◌+◌, ◌∙◌, [], ◌∷◌, List, Vec, Global, ap, subst, sym}
use Rattle.face_sweep.specs.declared.ends.Place.{Place}
use Rattle.face_sweep.proofs.EndLemmas.{AreFlaggedTo, are_flagged, none_more_flagged, one_more_flagged}
use Rattle.face_sweep.proofs.ends.flagged.Goals.{then-flags-key+in_ok-push, else-flags-key}
use Rattle.face_sweep.proofs.ends.flagged.Goals as goal

pub loop-key-preserved : goal.loop-key-preserved
loop-key-preserved c =
    let flags = c.args.flags.now in
    let n = c.loop-key.key in
    let places = c.loop-key.tops.items in
    let less = c.loop-key-test.true in
    let h = c.loop-key.invariant in
    let after : List Place → Type 0 = AreFlaggedTo flags (n + 1) in
    elim c.if-flags-key.branch [
      | then-flags-key+in_ok-push w ↦
          let is : c.if-flags-key.tops.items ≡ places ++ record { key = n } ∷ [] =
          ap (λ (p : Vec Place Global). p.items) w.tops-is ∙ w.in_ok-push.ensures.items in
          subst after (sym is) (one_more_flagged flags n places less h w.if-flags-key.true)
      | else-flags-key w ↦
          subst after (sym (ap (λ (p : Vec Place Global). p.items) w.tops-is))
          (none_more_flagged flags n places less h w.if-flags-key.false)
    ]

pub returns : goal.returns
returns c = are_flagged c.args.flags.now c.loop-key.key c.loop-key.tops.items c.loop-key.invariant c.loop-key-test.false
