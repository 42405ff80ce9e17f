use Rattle.face_rings.proofs.FirstLemmas.{high_first}
use Rattle.face_rings.proofs.incidence.Incidence.high_stop.Goals as goal

pub returns-clause-first : goal.returns-clause-first
returns-clause-first c =
    high_first c.args.edges.now c.args.self.now.ends.items c.args.self.now.firsts.items c.args.number c.index-edges-number.result
    c.index-firsts.result.now c.high-at.result c.requires.sound.firsts c.requires.inside c.index-edges-number.is c.index-firsts.ensures
    c.high-at.ensures.value
