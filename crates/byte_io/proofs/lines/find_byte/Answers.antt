use Rattle.byte_io.proofs.LineLemmas.{found_place}
use Rattle.byte_io.proofs.lines.find_byte.Goals as goal

pub returns-clause-value : goal.returns-clause-value
returns-clause-value c = found_place c.args.byte c.args.bytes.now c.memchr.result c.memchr.ensures
