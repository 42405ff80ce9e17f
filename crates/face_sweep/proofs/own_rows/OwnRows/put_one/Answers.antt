use Rattle.std.proofs.Common.{◌≡◌, get_or, subst}
use Rattle.face_sweep.specs.Reaches.{key_of}
use Rattle.face_sweep.proofs.own_rows.OwnRows.put_one.Goals as goal

pub returns-in_ok-put_at-clause-put : goal.returns-in_ok-put_at-clause-put
returns-in_ok-put_at-clause-put c =
    c.in_ok-put_at.ensures.put c.args.owner
    (subst (λ l. get_or l c.in-Some.index 0 ≡ key_of c.args.owner) c.as_slice.ensures.value c.in-Some.ensures.1)
