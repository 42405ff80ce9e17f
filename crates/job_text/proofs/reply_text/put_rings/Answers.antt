use Rattle.std.proofs.Common.{◌≡◌, List, [], ◌∷◌, ◌++◌, length, refl, ap, sym, ◌∙◌, arith, rules}
use Rattle.lay_point.specs.declared.point.Point.{Point}
use Rattle.byte_io.proofs.BufferedLemmas.{Buffered-then}
use Rattle.job_text.specs.Replies.{bar_text, points_text, rings_text}
use Rattle.cif_write.proofs.BegunLemmas.{Begun-all, Begun-nothing, Begun-then}
use Rattle.job_text.proofs.reply_text.put_rings.Goals as goal

-- a ring, then those behind it
rings_text-step : (rest behind : List (List Point)) (ring points : List Point) → rest ≡ ring ∷ behind → points ≡ ring
    → rings_text rest ≡ (points_text points ++ bar_text behind) ++ rings_text behind
rings_text-step rest behind ring points first same =
    ap rings_text first
    ∙ ap (λ (ps : List Point). (points_text ps ++ bar_text behind) ++ rings_text behind) (sym same)

-- no rings have no text
no_rings : (rest : List (List Point)) → length rest ≡ 0 → rings_text rest ≡ []
no_rings [] none = refl
no_rings (ring ∷ behind) none = absurd (omega arith)

pub loop-ring-init : goal.loop-ring-init
loop-ring-init g c = Begun-nothing _ _ _

pub loop-ring-preserved : goal.loop-ring-preserved
loop-ring-preserved g c =
    let behind = c.in-Some.behind.now in
    let first : c.loop-ring.rest.now ≡ c.in-Some.ring.now ∷ behind = search rules in
    Begun-then (rings_text behind) c.loop-ring.invariant (Buffered-then c.put_points.ensures c.put_bar.ensures)
    (rings_text-step c.loop-ring.rest.now behind c.in-Some.ring.now c.points.result.now first c.points.ensures.value)

pub returns : goal.returns
returns g c =
    let none : length c.loop-ring.rest.now ≡ 0 = search rules in
    Begun-all c.loop-ring.invariant (no_rings c.loop-ring.rest.now none)
