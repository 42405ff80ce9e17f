use Rattle.std.proofs.Common.{◌<◌, length, rules, arith}
use Rattle.std.proofs.lemmas.Grind.{common_steps}
use Rattle.byte_io.proofs.LineLemmas.{first_len-some, first_line}
use Rattle.byte_io.proofs.lines.split_line.Goals as goal

pub returns : goal.returns
returns c =
    let some : 0 < length c.args.bytes.now = search rules in
    let line = first_line c.args.bytes.now some in
    let long = first_len-some c.args.bytes.now some in
    record {
      first = grind (arith, common_steps);
      parts = grind (arith, common_steps);
      shorter = grind (arith, common_steps);
    }
