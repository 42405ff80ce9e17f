use Rattle.std.proofs.Common.{◌≡◌, ◌≢◌, ◌<◌, ◌^◌, ℕ, Bool, true, false, [], ◌∷◌, None, Option}
use Rattle.std.proofs.Common.{Some, List, length, get_or, refl, sym, subst, ◌∙◌, rules}
use Rattle.std.specs.Prelude.{nat_lt}
use Rattle.lay_point.specs.declared.point.Point.{Point}
use Rattle.snap_chains.specs.declared.owner.Owner.{Owner}
use Rattle.face_sweep.specs.declared.boxes.Boxes.{Boxes}
use Rattle.face_sweep.specs.Reaches.{IsTurnOf, extent_of, key_of, told_by, traced_if, turn_told}
use Rattle.face_sweep.proofs.turns.turn_by.Goals as goal

traced_turn : (o : Owner) (edge : Point × Point) (boxes : Boxes) (keys : List ℕ) (index : ℕ) (b : Bool) → o.shape < 2 ^ 32
    → index < length keys → get_or keys index 0 ≡ key_of o → IsTurnOf (o ∷ []) edge boxes keys (traced_if b o.input index)
traced_turn o edge boxes keys index true small inside at =
    record { shape = o.shape; small = small; alone = refl; inside = inside; key = at }
traced_turn o edge boxes keys index false small inside at = cc

told_turn : (o : Owner) (edge : Point × Point) (boxes : Boxes) (keys : List ℕ) (holds : Option Bool) → o.shape < 2 ^ 32
    → holds ≡ told_by (extent_of boxes o) edge → ((i : ℕ) → i < length keys → get_or keys i 0 ≢ key_of o)
    → IsTurnOf (o ∷ []) edge boxes keys (turn_told o.input holds)
told_turn o edge boxes keys None small is apart = cc
told_turn o edge boxes keys (Some holds) small is apart =
    record { shape = o.shape; small = small; alone = refl; told = sym is; untraced = apart }

pub returns-in-None : goal.returns-in-None
returns-in-None c =
    let o = c.args.owner in
    let small : o.shape < 2 ^ 32 = search rules in
    subst (IsTurnOf (o ∷ []) c.args.edge c.args.boxes.now c.args.keys.now) (sym c.told.ensures)
    (told_turn o c.args.edge c.args.boxes.now c.args.keys.now c.told_by.result small
    (c.told_by.ensures ∙ (λ k. told_by (c.extent.ensures k) c.args.edge)) c.in-None.ensures)

pub returns-in-Some : goal.returns-in-Some
returns-in-Some c =
    let o = c.args.owner in
    let small : o.shape < 2 ^ 32 = search rules in
    subst (IsTurnOf (o ∷ []) c.args.edge c.args.boxes.now c.args.keys.now) (sym c.traced.ensures)
    (traced_turn o c.args.edge c.args.boxes.now c.args.keys.now c.in-Some.index (nat_lt c.in-Some.index 65536) small
    c.in-Some.ensures.0 c.in-Some.ensures.1)
