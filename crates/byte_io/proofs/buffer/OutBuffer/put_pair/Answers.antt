use Rattle.std.proofs.Common.{◌≡◌, rules, to_z, of_z, w32}
use Rattle.byte_io.proofs.BufferedLemmas.{Buffered-is}
use Rattle.byte_io.proofs.PairLemmas.{behind_both}
use Rattle.byte_io.proofs.buffer.OutBuffer.put_pair.Goals as goal

pub returns : goal.returns
returns g c =
    let first = c.write_spaced-start in
    let second = c.write_spaced-behind in
    let of_first : to_z w32 (of_z w32 c.args.first) ≡ c.args.first = search rules in
    let of_second : to_z w32 (of_z w32 c.args.second) ≡ c.args.second = search rules in
    Buffered-is c.put.ensures
    (behind_both first.new.text second.new.text first.result second.result 24 c.args.first c.args.second _ _ (search rules)
    first.ensures.written of_first second.ensures.written of_second)
