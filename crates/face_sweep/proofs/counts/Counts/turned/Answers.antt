use Rattle.std.proofs.Common.{◌<◌, ◌^◌, rules}
use Rattle.face_sweep.proofs.counts.Counts.turned.Goals as goal

pub turned_in-requires : goal.turned_in-requires
turned_in-requires c = (c.args.owner.shape, c.requires.0, c.requires.1, c.requires.2)

pub returns : goal.returns
returns c = λ holds h is.
    let small : c.args.owner.shape < 2 ^ 32 = search rules in
    c.turned_in.ensures c.args.owner.shape holds small h is
