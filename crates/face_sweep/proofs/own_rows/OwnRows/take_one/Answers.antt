use Rattle.std.proofs.Common.{◌≡◌, get_or, subst}
use Rattle.face_sweep.specs.Reaches.{key_of}
use Rattle.face_sweep.proofs.own_rows.OwnRows.take_one.Goals as goal

pub returns-in-Some-clause-taken : goal.returns-in-Some-clause-taken
returns-in-Some-clause-taken c =
    c.take_at.ensures.taken c.args.owner
    (subst (λ l. get_or l c.in-Some.index 0 ≡ key_of c.args.owner) c.as_slice.ensures.value c.in-Some.ensures.1)
