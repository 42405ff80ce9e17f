use Rattle.std.proofs.Common.{◌≡◌, length, false, ap, subst, sym, ◌∙◌, rules}
use Rattle.std.specs.Prelude.{replicate}
use Rattle.face_rings.specs.Incidence.{AreEndsOf, left_of}
use Rattle.face_rings.proofs.FirstLemmas.{ends_inside}
use Rattle.face_rings.proofs.IncidenceLemmas.{all_unused}
use Rattle.face_rings.proofs.incidence.Incidence.new.Goals as goal

pub returns-clause-all : goal.returns-clause-all
returns-clause-all c =
    let marks : c.in_ok-used.used.items ≡ replicate (length c.args.edges.now) false = search rules in
    ap (left_of c.args.edges.now) marks ∙ all_unused c.args.edges.now

pub firsts_of-requires-clause-inside : goal.firsts_of-requires-clause-inside
firsts_of-requires-clause-inside c =
    ends_inside c.args.edges.now c.deref.result.now
    (subst (AreEndsOf c.args.edges.now) (sym c.deref.ensures.value) c.in_ok-ends.ensures.sound)
