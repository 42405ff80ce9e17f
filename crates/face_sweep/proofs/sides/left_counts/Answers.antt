-- An edge with one owner turns this shape alone: its box or its list tells whether it holds.
use Rattle.std.proofs.Common.{sym, ap, ◌∙◌, arith, drop}
use Rattle.lay_point.specs.Parity.{xor}
use Rattle.snap_chains.specs.Rounded.{is_owner_listed}
use Rattle.face_rows.specs.Lines.{owners_at}
use Rattle.face_sweep.specs.declared.turns.Turn.TheVariants.{Told, Traced}
use Rattle.face_sweep.specs.Counts.{nth_shape}
use Rattle.face_sweep.specs.OwnRows.{own_of}
use Rattle.face_sweep.specs.Sides.{is_odd_in}
use Rattle.face_sweep.proofs.BoxLemmas.{told_beside}
use Rattle.face_sweep.proofs.OwnLemmas.{listed_alone, listed_itself, odd_own}
use Rattle.face_sweep.proofs.ReachLemmas.{turn_at}
use Rattle.face_sweep.proofs.StateLemmas.{counts_agree}
use Rattle.face_sweep.proofs.sides.left_counts.Goals as goal

pub turned_in-requires : goal.turned_in-requires
turned_in-requires c =
    let r = c.args.edges.now in
    let n = c.args.number in
    let told = turn_at r c.args.reach.now n c.index.result.now (Told c.in-Told.input c.in-Told.holds) c.requires.reach
    c.requires.number c.index.ensures c.in-Told.is in
    let p = nth_shape c.in-Told.input told.shape in (
      told.shape,
      is_odd_in r (drop c.args._next c.args._row.now),
      c.requires.right,
      c.requires.beside p ∙ told_beside r c.args.reach.now.boxes p n c.in-Told.holds c.requires.sound c.requires.reach.boxes
          c.requires.number (listed_itself r n p told.alone) told.told,
    )

pub returns-in-Told : goal.returns-in-Told
returns-in-Told c =
    let r = c.args.edges.now in
    let n = c.args.number in
    let told = turn_at r c.args.reach.now n c.index.result.now (Told c.in-Told.input c.in-Told.holds) c.requires.reach
    c.requires.number c.index.ensures c.in-Told.is in
    let p = nth_shape c.in-Told.input told.shape in
    counts_agree c.turned_in.result _ (λ o. xor (is_owner_listed o (owners_at r n)) (is_odd_in r (drop c.args._next c.args._row.now) o))
    (λ o. ap (λ b. xor b (is_odd_in r (drop c.args._next c.args._row.now) o)) (sym (listed_alone r n p told.alone o)))
    (c.turned_in.ensures told.shape (is_odd_in r (drop c.args._next c.args._row.now)) told.small c.requires.right
    (c.requires.beside p ∙ told_beside r c.args.reach.now.boxes p n c.in-Told.holds c.requires.sound c.requires.reach.boxes
    c.requires.number (listed_itself r n p told.alone) told.told))

pub holds_in-holds-requires : goal.holds_in-holds-requires
holds_in-holds-requires c =
    let traced = turn_at c.args.edges.now c.args.reach.now c.args.number c.index.result.now (Traced c.in-Traced.input c.in-Traced.index)
    c.requires.reach c.requires.number c.index.ensures c.in-Traced.is in
    record {
      index = omega (arith, c.requires.room.count, traced.inside);
      given = c.requires.room.given c.in-Traced.index;
    }

pub turned_in-requires-in-Traced : goal.turned_in-requires-in-Traced
turned_in-requires-in-Traced c =
    let r = c.args.edges.now in
    let behind = drop c.args._next c.args._row.now in
    let traced = turn_at r c.args.reach.now c.args.number c.index.result.now (Traced c.in-Traced.input c.in-Traced.index)
    c.requires.reach c.requires.number c.index.ensures c.in-Traced.is in
    let p = nth_shape c.in-Traced.input traced.shape in
    let own = c.requires.own in (
      traced.shape,
      is_odd_in r behind,
      c.requires.right,
      sym (c.holds_in-holds.ensures (own_of r p behind) (own.left p) (own.own c.in-Traced.index p traced.inside traced.key) (own.cut p)
          ∙ odd_own r p behind),
    )

pub returns-in-Traced : goal.returns-in-Traced
returns-in-Traced c =
    let r = c.args.edges.now in
    let n = c.args.number in
    let behind = drop c.args._next c.args._row.now in
    let traced = turn_at r c.args.reach.now n c.index.result.now (Traced c.in-Traced.input c.in-Traced.index) c.requires.reach
    c.requires.number c.index.ensures c.in-Traced.is in
    let p = nth_shape c.in-Traced.input traced.shape in
    let own = c.requires.own in
    counts_agree c.turned_in-in-Traced.result _ (λ o. xor (is_owner_listed o (owners_at r n)) (is_odd_in r behind o))
    (λ o. ap (λ b. xor b (is_odd_in r behind o)) (sym (listed_alone r n p traced.alone o)))
    (c.turned_in-in-Traced.ensures traced.shape (is_odd_in r behind) traced.small c.requires.right
    (sym (c.holds_in-holds.ensures (own_of r p behind) (own.left p) (own.own c.in-Traced.index p traced.inside traced.key) (own.cut p)
    ∙ odd_own r p behind)))
