-- A shift behind a turn adds to the turn's own.
use Rattle.std.proofs.Common.{◌≡◌, Bool, true, false, cond, Option, None, Some, ◌+ℤ◌, refl, sym, ap, ◌∙◌}
use Rattle.lay_point.specs.declared.point.Point.{Point}
use Rattle.lay_point.specs.declared.turn.Quarter.TheVariants.{R0}
use Rattle.lay_point.specs.declared.turn.Turn.{Turn}
use Rattle.lay_point.specs.Points.{is_in_range}
use Rattle.lay_point.specs.Turns.{composed, turned, within_range}
use Rattle.cif_read.specs.Calls.{turn_in_range}

abbrev pub sum_of : Turn → Point → Point
sum_of turn s = record { x = turn.shift.x +ℤ s.x; y = turn.shift.y +ℤ s.y }

shift_composed : (turn : Turn) (s : Point) → composed turn (record { mirror = false; quarter = R0; shift = s })
    ≡ record turn { shift = sum_of turn s }
unfolding composed turned
shift_composed turn s = refl

-- the turn with a shift that was found in range, or none
abbrev pub with_shift : Turn → Option Point → Option Turn
with_shift turn None = None
with_shift turn (Some p) = Some (record turn { shift = p })

pub shift_found : (turn : Turn) (s : Point) (found : Option Point) → within_range (sum_of turn s) ≡ found
    → with_shift turn found ≡ turn_in_range (composed turn (record { mirror = false; quarter = R0; shift = s }))
shift_found turn s found e =
    ap (with_shift turn) (sym e) ∙ by_test (is_in_range (sum_of turn s)) ∙ ap turn_in_range (sym (shift_composed turn s))
  where
    by_test : (b : Bool) → with_shift turn (cond b (Some (sum_of turn s)) None) ≡ cond b (Some (record turn { shift = sum_of turn s })) None
    by_test true = refl
    by_test false = refl
