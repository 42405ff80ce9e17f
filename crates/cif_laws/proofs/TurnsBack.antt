-- The changes that are written for a turn turn so.
use Rattle.std.proofs.Common.{◌≡◌, Bool, true, false, cond, List, [], ◌∷◌, ◌++◌, Some, None, Ok, refl, sym, ap, ◌∙◌, pos, ℤ, ◌+ℤ◌, arith}
use Rattle.std.specs.List.{list_all, list_any}
use Rattle.std.specs.Prelude.{option_and_then}
use Rattle.std.proofs.lemmas.Int.{ints}
use Rattle.lay_point.specs.declared.point.Point.{Point}
use Rattle.lay_point.specs.declared.turn.Quarter.{Quarter}
use Rattle.lay_point.specs.declared.turn.Quarter.TheVariants.{R0, R180, R270, R90}
use Rattle.lay_point.specs.declared.turn.Turn.{Turn}
use Rattle.lay_point.specs.Points.{is_in_range, point_eq}
use Rattle.lay_point.specs.Turns.{composed, turned, unturned, within_range}
use Rattle.lay_point.proofs.RingLemmas.{point_eq-true}
use Rattle.cif_grammar.specs.declared.calls.Change.{Change}
use Rattle.cif_grammar.specs.declared.calls.Change.TheVariants.{Shift}
use Rattle.cif_grammar.specs.Definitions.{plain_scale}
use Rattle.cif_read.specs.Calls.{call_turn, is_askew_change, is_big_change}
use Rattle.cif_read.specs.Calls.{is_whole_change, origin, turn_changed_by, turn_in_range, turn_or_fault}
use Rattle.cif_read.proofs.TurnLemmas.{shift_found, sum_of}
use Rattle.cif_laws.proofs.ScaledBack.{point_back, small_point, whole_point}
use Rattle.cif_laws.proofs.WrittenLines.{half}
use Rattle.cif_laws.proofs.WrittenNumbers.{vertex_of}
use Rattle.cif_laws.proofs.WrittenTurns.{changes_of, mirror_changes, quarter_changes}

-- ---- mirrors and quarter turns have no faults, and what they turn to

-- a mirror and quarter turns before other changes
abbrev front : Bool → Quarter → List Change → List Change
front mirror quarter cs = mirror_changes mirror ++ (quarter_changes quarter ++ cs)

front_straight : (mirror : Bool) (quarter : Quarter) (cs : List Change)
    → list_any is_askew_change (front mirror quarter cs) ≡ list_any is_askew_change cs
front_straight true R0 cs = refl
front_straight true R90 cs = refl
front_straight true R180 cs = refl
front_straight true R270 cs = refl
front_straight false R0 cs = refl
front_straight false R90 cs = refl
front_straight false R180 cs = refl
front_straight false R270 cs = refl

front_small : (mirror : Bool) (quarter : Quarter) (cs : List Change)
    → list_any is_big_change (front mirror quarter cs) ≡ list_any is_big_change cs
front_small true R0 cs = refl
front_small true R90 cs = refl
front_small true R180 cs = refl
front_small true R270 cs = refl
front_small false R0 cs = refl
front_small false R90 cs = refl
front_small false R180 cs = refl
front_small false R270 cs = refl

front_whole : (mirror : Bool) (quarter : Quarter) (cs : List Change)
    → list_all (is_whole_change half) (front mirror quarter cs) ≡ list_all (is_whole_change half) cs
front_whole true R0 cs = refl
front_whole true R90 cs = refl
front_whole true R180 cs = refl
front_whole true R270 cs = refl
front_whole false R0 cs = refl
front_whole false R90 cs = refl
front_whole false R180 cs = refl
front_whole false R270 cs = refl

-- a turn without a shift
abbrev unshifted : Bool → Quarter → Turn
unshifted mirror quarter = record { mirror = mirror; quarter = quarter; shift = origin }

front_turned : (mirror : Bool) (quarter : Quarter) (cs : List Change)
    → turn_changed_by half unturned (front mirror quarter cs) ≡ turn_changed_by half (unshifted mirror quarter) cs
unfolding turn_changed_by composed turned
front_turned true R0 cs = refl
front_turned true R90 cs = refl
front_turned true R180 cs = refl
front_turned true R270 cs = refl
front_turned false R0 cs = refl
front_turned false R90 cs = refl
front_turned false R180 cs = refl
front_turned false R270 cs = refl

-- ---- shifts

-- the changes of a shift, by whether there is none
abbrev shifts : Bool → Point → List Change
shifts none shift = cond none [] (Shift (vertex_of shift) ∷ [])

shift_straight : (none : Bool) (shift : Point) → list_any is_askew_change (shifts none shift) ≡ false
shift_straight true shift = refl
shift_straight false shift = refl

shift_whole : (none : Bool) (shift : Point) → list_all (is_whole_change half) (shifts none shift) ≡ true
shift_whole true shift = refl
shift_whole false shift = rw (whole_point shift) refl

shift_small : (none : Bool) (shift : Point) → is_in_range shift ≡ true → list_any is_big_change (shifts none shift) ≡ false
shift_small true shift h = refl
shift_small false shift h = rw (small_point shift h) refl

sum_is : (mirror : Bool) (quarter : Quarter) (shift : Point) → sum_of (unshifted mirror quarter) shift ≡ shift
sum_is mirror quarter shift = λ i. record { x = zero_first shift.x i; y = zero_first shift.y i } where
  zero_first : (z : ℤ) → pos 0 +ℤ z ≡ z
  zero_first z = omega (arith, ints)

shift_turned : (mirror : Bool) (quarter : Quarter) (shift : Point) → is_in_range shift ≡ true → (none : Bool)
    → point_eq shift origin ≡ none
    → turn_changed_by half (unshifted mirror quarter) (shifts none shift)
    ≡ Some (record { mirror = mirror; quarter = quarter; shift = shift })
unfolding turn_changed_by
shift_turned mirror quarter shift h true e =
    ap (λ s. Some (record { mirror = mirror; quarter = quarter; shift = s })) (sym (point_eq-true shift origin e))
shift_turned mirror quarter shift h false e =
    let turn = unshifted mirror quarter in
    let found : within_range (sum_of turn shift) ≡ Some shift =
    ap within_range (sum_is mirror quarter shift) ∙ ap (λ b. cond b (Some shift) None) h in
    ap (λ o. option_and_then (λ next. turn_changed_by half next []) o)
    (ap (λ s. turn_in_range (composed turn (record { mirror = false; quarter = R0; shift = s }))) (point_back shift)
    ∙ sym (shift_found turn shift (Some shift) found))

-- ---- whole turns

pub turn_small : (turn : Turn) → is_in_range turn.shift ≡ true → list_any is_big_change (changes_of turn) ≡ false
turn_small turn h =
    let none = point_eq turn.shift origin in
    front_small turn.mirror turn.quarter (shifts none turn.shift) ∙ shift_small none turn.shift h

pub turn_back : (turn : Turn) → is_in_range turn.shift ≡ true → call_turn half (changes_of turn) ≡ Ok turn
unfolding call_turn
turn_back turn h =
    let none = point_eq turn.shift origin in
    let cs = shifts none turn.shift in
    rw (front_straight turn.mirror turn.quarter cs ∙ shift_straight none turn.shift)
    (rw (front_whole turn.mirror turn.quarter cs ∙ shift_whole none turn.shift)
    (ap turn_or_fault (front_turned turn.mirror turn.quarter cs ∙ shift_turned turn.mirror turn.quarter turn.shift h none refl)))

-- the turn that changes nothing, at any scale
pub unturned_back : call_turn plain_scale (changes_of unturned) ≡ Ok unturned
unfolding call_turn turn_changed_by
unturned_back = refl
