use Rattle.std.proofs.Common.{◌≡◌, true, false, sym, rules, w32}
use Rattle.std.proofs.lemmas.Int.{to_z-of_z}
use Rattle.snap_pixels.proofs.CrossingLemmas.{AreAreas-passed, Crosses-some, Crosses-none, IsFound-rounded, IsFraction-tested}
use Rattle.snap_pixels.proofs.CrossingLemmas.{first_out, second_out}
use Rattle.snap_pixels.proofs.common_point.left_crossing.Goals as goal

pub returns-then-not-is_fraction : goal.returns-then-not-is_fraction
returns-then-not-is_fraction c =
    let p = c.args in
    let k = c.area-scale.ensures in
    let n = c.area-on_first.ensures in
    let m = c.area-on_second.ensures in
    let areas = AreAreas-passed p.a p.b p.c p.d c.requires _ _ _ k.value k.low k.high n.value n.low n.high m.value m.low m.high in
    Crosses-none p.a p.b p.c p.d c.requires (first_out p.a p.b p.c p.d c.requires _ _ _ areas
    (λ h.
    let yes : c.is_fraction.result ≡ true = c.is_fraction.ensures.1 h in
    let no : c.is_fraction.result ≡ false = c.if-not-is_fraction.true in
    cc))

pub returns-then-not-is_fraction-2 : goal.returns-then-not-is_fraction-2
returns-then-not-is_fraction-2 c =
    let p = c.args in
    let k = c.area-scale.ensures in
    let n = c.area-on_first.ensures in
    let m = c.area-on_second.ensures in
    let areas = AreAreas-passed p.a p.b p.c p.d c.requires _ _ _ k.value k.low k.high n.value n.low n.high m.value m.low m.high in
    Crosses-none p.a p.b p.c p.d c.requires (second_out p.a p.b p.c p.d c.requires _ _ _ areas
    (λ h.
    let yes : c.is_fraction-2.result ≡ true = c.is_fraction-2.ensures.1 h in
    let no : c.is_fraction-2.result ≡ false = c.if-not-is_fraction-2.true in
    cc))

pub rounded-requires-clause-fraction : goal.rounded-requires-clause-fraction
rounded-requires-clause-fraction c =
    let p = c.args in
    let k = c.area-scale.ensures in
    let n = c.area-on_first.ensures in
    let m = c.area-on_second.ensures in
    let areas = AreAreas-passed p.a p.b p.c p.d c.requires _ _ _ k.value k.low k.high n.value n.low n.high m.value m.low m.high in
    IsFraction-tested p.a p.b p.c p.d c.requires _ _ _ areas _ (c.is_fraction.ensures.0 c.if-not-is_fraction.false)

pub rounded-requires-2-clause-fraction : goal.rounded-requires-2-clause-fraction
rounded-requires-2-clause-fraction c =
    let p = c.args in
    let k = c.area-scale.ensures in
    let n = c.area-on_first.ensures in
    let m = c.area-on_second.ensures in
    let areas = AreAreas-passed p.a p.b p.c p.d c.requires _ _ _ k.value k.low k.high n.value n.low n.high m.value m.low m.high in
    IsFraction-tested p.a p.b p.c p.d c.requires _ _ _ areas _ (c.is_fraction.ensures.0 c.if-not-is_fraction.false)

pub returns : goal.returns
returns c =
    let p = c.args in
    let k = c.area-scale.ensures in
    let n = c.area-on_first.ensures in
    let m = c.area-on_second.ensures in
    let areas = AreAreas-passed p.a p.b p.c p.d c.requires _ _ _ k.value k.low k.high n.value n.low n.high m.value m.low m.high in
    let x = c.rounded.result in
    let y = c.rounded-2.result in
    let ex = to_z-of_z w32 x (search rules) in
    let ey = to_z-of_z w32 y (search rules) in
    Crosses-some p.a p.b p.c p.d c.requires _
    (IsFound-rounded p.a p.b p.c p.d c.requires _ _ _ areas _ _ _ _ _ x y (c.is_fraction.ensures.0 c.if-not-is_fraction.false)
    (c.is_fraction-2.ensures.0 c.if-not-is_fraction-2.false) c.rounded.ensures c.rounded-2.ensures (sym ex) (sym ey)
    (to_z-of_z w32 p.a.x (search rules)) (to_z-of_z w32 p.b.x (search rules))
    (to_z-of_z w32 p.a.y (search rules)) (to_z-of_z w32 p.b.y (search rules)))
