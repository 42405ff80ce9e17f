use Rattle.std.proofs.Common.{rules, arith}
use Rattle.std.proofs.lemmas.Grind.{common_steps}
use Rattle.masklay.proofs.ReadingLemmas.{room_kept}
use Rattle.masklay.proofs.program.reading.keep.Goals as goal

pub returns-clause-kept : goal.returns-clause-kept
returns-clause-kept c =
    let joined = room_kept c.args.kept.now.items c.args.piece.now (search rules) in
    grind (arith, common_steps)
