use Rattle.std.proofs.Common.{◌≡◌, true, rules, ◌-ℤ◌, unsigned_abs}
use Rattle.std.specs.Int.{int_min}
use Rattle.cif_write.specs.Boxes.{is_side}
use Rattle.cif_write.proofs.BoxLemmas.{side_is}
use Rattle.cif_write.proofs.boxes.side_between.Goals as goal

pub returns : goal.returns
returns c =
    let least : c.min.result ≡ int_min c.args.a c.args.b = search rules in
    let size : c.abs_diff-length.result ≡ unsigned_abs (c.args.a -ℤ c.args.b) = search rules in
    let side : is_side c.abs_diff-length.result ≡ true = search rules in
    side_is c.args.a c.args.b c.min.result c.abs_diff-length.result c.ranges.a c.ranges.b least size side
