use Rattle.std.proofs.Common.{◌∙◌}
use Rattle.std.specs.Prelude.{nat_lt}
use Rattle.std.proofs.lemmas.Bool.Decides.{Decides-ltb}
use Rattle.face_sweep.proofs.CountLemmas.{answer_of_counts}
use Rattle.face_sweep.proofs.counts.Counts.answer.Goals as goal

pub returns : goal.returns
returns c = λ holds shapes h among. c.answer.ensures
    ∙ answer_of_counts c.args.op c.args.self holds shapes (nat_lt 0 c.args.self.first) (nat_lt 0 c.args.self.second) h among
    (Decides-ltb 0 c.args.self.first) (Decides-ltb 0 c.args.self.second)
