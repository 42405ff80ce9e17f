-- The text of a turn spells its changes.
use Rattle.std.proofs.Common.{◌≡◌, ℕ, Bool, true, false, cond, List, [], ◌∷◌, ◌++◌, refl}
use Rattle.std.proofs.Common.{sym, subst, arith, append_assoc, append-nil, pos, IsTrue}
use Rattle.std.specs.List.{list_all}
use Rattle.lay_point.specs.declared.point.Point.{Point}
use Rattle.lay_point.specs.declared.turn.Quarter.{Quarter}
use Rattle.lay_point.specs.declared.turn.Quarter.TheVariants.{R0, R180, R270, R90}
use Rattle.lay_point.specs.declared.turn.Turn.{Turn}
use Rattle.lay_point.specs.Points.{is_in_range, point_eq}
use Rattle.cif_grammar.specs.Bytes.{is_blank, is_mark, is_separator}
use Rattle.cif_grammar.specs.ScanGrammar.{IsDigits, IsSigned, sign}
use Rattle.cif_grammar.specs.declared.calls.Change.{Change}
use Rattle.cif_grammar.specs.declared.calls.Change.TheVariants.{Direction, MirrorX, Shift}
use Rattle.cif_grammar.specs.Grammar.{AreCallChanges, IsChange}
use Rattle.cif_write.specs.Lines.{mirror_text, point_text, quarter_text, shift_text, turn_text}
use Rattle.cif_laws.proofs.WrittenNumbers.{point_spelled, vertex_of}
use Rattle.cif_laws.proofs.ChangeLemmas.{vertex}

-- ---- the changes of a turn

abbrev pub mirror_changes : Bool → List Change
mirror_changes true = MirrorX ∷ []
mirror_changes false = []

abbrev pub quarter_changes : Quarter → List Change
quarter_changes R0 = []
quarter_changes R90 = Direction (vertex false 0 false 1) ∷ []
quarter_changes R180 = Direction (vertex true 1 false 0) ∷ []
quarter_changes R270 = Direction (vertex false 0 true 1) ∷ []

abbrev pub shift_changes : Point → List Change
shift_changes shift = cond (point_eq shift (record { x = pos 0; y = pos 0 })) [] (Shift (vertex_of shift) ∷ [])

abbrev pub changes_of : Turn → List Change
changes_of turn = mirror_changes turn.mirror ++ (quarter_changes turn.quarter ++ shift_changes turn.shift)

-- ---- their texts

-- a space and a change, then others
one_more : (spelling rest : List ℕ) (c : Change) (cs : List Change) → IsChange spelling c → AreCallChanges rest cs
    → AreCallChanges (32 ∷ (spelling ++ rest)) (c ∷ cs)
unfolding is_blank is_mark
one_more spelling rest c cs h further =
    (record { gap = 32 ∷ []; spelling = spelling; rest = rest; parts = refl; gap_blank = refl; spelled = h }, further)

shift_spelled : (shift : Point) → is_in_range shift ≡ true → AreCallChanges (shift_text shift) (shift_changes shift)
unfolding is_separator is_blank is_mark
shift_spelled shift within = by (point_eq shift (record { x = pos 0; y = pos 0 })) where
  by : (none : Bool) → AreCallChanges (cond none [] (32 ∷ (84 ∷ point_text shift))) (cond none [] (Shift (vertex_of shift) ∷ []))
  by true = refl
  by false = rw (← append-nil (84 ∷ point_text shift)) (one_more (84 ∷ point_text shift) [] (Shift (vertex_of shift)) []
      (point_text shift, refl, point_spelled shift within) refl)

zero_spelled : IsDigits (48 ∷ []) 0
zero_spelled = record { some = omega arith; digits = refl; value = refl }

pub one_spelled : IsDigits (49 ∷ []) 1
one_spelled = record { some = omega arith; digits = refl; value = refl }

signed : (negative : Bool) (d n : ℕ) → IsDigits (d ∷ []) n → (front : List ℕ) → IsTrue (list_all is_separator front)
    → IsSigned (front ++ (sign negative ++ (d ∷ []))) (record { negative = negative; magnitude = n })
signed negative d n is front h = record { front = front; digits = d ∷ []; parts = refl; separators = h; spelled = is }

quarter_spelled : (quarter : Quarter) (rest : List ℕ) (cs : List Change) → AreCallChanges rest cs
    → AreCallChanges (quarter_text quarter ++ rest) (quarter_changes quarter ++ cs)
unfolding is_separator is_blank is_mark
quarter_spelled R0 rest cs h = h
quarter_spelled R90 rest cs h = one_more (82 ∷ 32 ∷ 48 ∷ 32 ∷ 49 ∷ []) rest (Direction (vertex false 0 false 1)) cs (
  32 ∷ 48 ∷ 32 ∷ 49 ∷ [],
  refl,
  record {
    x_text = 32 ∷ 48 ∷ [];
    separator = 32;
    y_text = 49 ∷ [];
    parts = refl;
    x_is = signed false 48 0 zero_spelled (32 ∷ []) refl;
    separated = refl;
    y_is = signed false 49 1 one_spelled [] refl;
  },
) h
quarter_spelled R180 rest cs h = one_more (82 ∷ 32 ∷ 45 ∷ 49 ∷ 32 ∷ 48 ∷ []) rest (Direction (vertex true 1 false 0)) cs (
  32 ∷ 45 ∷ 49 ∷ 32 ∷ 48 ∷ [],
  refl,
  record {
    x_text = 32 ∷ 45 ∷ 49 ∷ [];
    separator = 32;
    y_text = 48 ∷ [];
    parts = refl;
    x_is = signed true 49 1 one_spelled (32 ∷ []) refl;
    separated = refl;
    y_is = signed false 48 0 zero_spelled [] refl;
  },
) h
quarter_spelled R270 rest cs h = one_more (82 ∷ 32 ∷ 48 ∷ 32 ∷ 45 ∷ 49 ∷ []) rest (Direction (vertex false 0 true 1)) cs (
  32 ∷ 48 ∷ 32 ∷ 45 ∷ 49 ∷ [],
  refl,
  record {
    x_text = 32 ∷ 48 ∷ [];
    separator = 32;
    y_text = 45 ∷ 49 ∷ [];
    parts = refl;
    x_is = signed false 48 0 zero_spelled (32 ∷ []) refl;
    separated = refl;
    y_is = signed true 49 1 one_spelled [] refl;
  },
) h

mirror_spelled : (mirror : Bool) (rest : List ℕ) (cs : List Change) → AreCallChanges rest cs
    → AreCallChanges (mirror_text mirror ++ rest) (mirror_changes mirror ++ cs)
unfolding is_blank is_mark
mirror_spelled true rest cs h =
    one_more (77 ∷ 32 ∷ 88 ∷ []) rest MirrorX cs (record { gap = 32 ∷ []; parts = refl; gap_blank = refl }) h
mirror_spelled false rest cs h = h

pub turn_spelled : (turn : Turn) → is_in_range turn.shift ≡ true → AreCallChanges (turn_text turn) (changes_of turn)
turn_spelled turn within =
    let shift = shift_text turn.shift in
    subst (λ (t : List ℕ). AreCallChanges t (changes_of turn))
    (sym (append_assoc (mirror_text turn.mirror) (quarter_text turn.quarter) shift))
    (mirror_spelled turn.mirror (quarter_text turn.quarter ++ shift) (quarter_changes turn.quarter ++ shift_changes turn.shift)
    (quarter_spelled turn.quarter shift (shift_changes turn.shift) (shift_spelled turn.shift within)))
