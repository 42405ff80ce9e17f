use Rattle.std.proofs.Common.{◌≡◌, length, drop, replicate, rules}
use Rattle.lay_point.specs.declared.layer_name.TheConstants.{MAX_LAYER_NAME}
use Rattle.lay_point.proofs.NameLemmas.{padded_name}
use Rattle.lay_point.proofs.layer_name.LayerName.new.Goals as goal

pub invariant_of-result : goal.invariant_of-result
invariant_of-result c =
    let same : c.copy_from_slice.new.self ≡ c.args.bytes.now = search rules in
    rw same (padded_name c.args.bytes.now (drop (length c.args.bytes.now) (replicate MAX_LAYER_NAME 0)) (search rules) (search rules))
