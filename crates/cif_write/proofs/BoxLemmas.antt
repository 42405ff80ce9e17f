-- Which paths are boxes: none that goes round several rings, and a ring as it is.
use Rattle.std.proofs.Common.{◌≡◌, ◌≤◌, ℕ, suc, ◌/◌, List, [], ◌∷◌, ◌++◌, length, get_or, Bool, true, cond}
use Rattle.std.proofs.Common.{Option, None, Some, refl, ap, ap₂, sym, ◌∙◌, subst, arith, length-append, append_assoc}
use Rattle.std.proofs.Common.{ℤ, pos, ◌+ℤ◌, ◌-ℤ◌, unsigned_abs, FitsSigned, w32, to_z, of_z, int_lt, false}
use Rattle.std.specs.Int.{int_min}
use Rattle.std.proofs.lemmas.Bool.Decides.{nat_tests}
use Rattle.std.proofs.lemmas.Int.{clamps, ints, to_z-of_z, to_z_pos}
use Rattle.lay_point.specs.declared.point.Point.{Point}
use Rattle.lay_point.specs.Bridges.{bridged}
use Rattle.lay_point.specs.Rings.{IsRing, NeighboursDiffer, without_repeats}
use Rattle.lay_point.proofs.BridgeLemmas.{bridged_one}
use Rattle.cif_grammar.specs.declared.number.TheConstants.{MAX_MAGNITUDE}
use Rattle.lay_layouts.specs.Layout.{Layout}
use Rattle.cif_write.specs.declared.boxes.Rectangles.TheVariants.{Polygons}
use Rattle.cif_write.specs.declared.boxes.UprightBox.{UprightBox}
use Rattle.cif_write.specs.Boxes.{corner_box, is_side, line_text_as, lines_text_as, side_between, side_from, text_as}
use Rattle.cif_write.specs.Lines.{Call, End, Finish, Line, OnLayer, Path, Start, line_text, lines_text}
use Rattle.cif_write.specs.Text.{file_lines, text}
use Rattle.cif_write.specs.Ways.{kept_by, kept_of, last_point, ways}
use Rattle.cif_write.specs.Wrap.{written}
use Rattle.cif_write.proofs.WayLemmas.{bridged-kept_of, kept_of-append, point_eq-apart}

-- ---- paths of several rings

-- where each point differs from the one before, all are put but the last
kept_all : (held : Point) (points : List Point) → NeighboursDiffer (held ∷ points) → length (kept_of held points) ≡ length points
kept_all held [] apart = refl
kept_all held (p ∷ ps) apart = rw (point_eq-apart held p apart.0) (ap suc (kept_all p ps apart.1))

-- whatever comes behind them
kept_at_least : (held : Point) (points more : List Point) → NeighboursDiffer (held ∷ points)
    → length points ≤ length (kept_of held (points ++ more))
kept_at_least held points more apart =
    omega (
      arith,
      kept_all held points apart,
      ap length (kept_of-append held points more),
      length-append (kept_of held points) (kept_of (last_point held points) more),
    )

-- from the first ring's second point on, round both rings
two_kept : (start p q : Point) (ps qs more : List Point) → IsRing (start ∷ p ∷ ps) → IsRing (q ∷ qs)
    → 4 ≤ length (kept_of p (ps ++ start ∷ q ∷ ((qs ++ q ∷ []) ++ more)))
two_kept start p q ps qs more first second =
    let front = ps ++ start ∷ [] in
    let tail = (qs ++ q ∷ []) ++ more in
    let held = last_point p front in
    let parts : kept_of p (ps ++ start ∷ q ∷ tail) ≡ kept_of p front ++ (kept_by held q ++ kept_of q tail) =
    ap (kept_of p) (sym (append_assoc ps (start ∷ []) (q ∷ tail))) ∙ kept_of-append p front (q ∷ tail) in
    omega (
      arith,
      first.enough,
      second.enough,
      ap length parts,
      length-append (kept_of p front) (kept_by held q ++ kept_of q tail),
      kept_all p front first.apart.1,
      length-append ps (start ∷ []),
      length-append (kept_by held q) (kept_of q tail),
      kept_at_least q (qs ++ q ∷ []) more second.apart,
      length-append qs (q ∷ []),
    )

long_path : (first second : List Point) (others : List (List Point)) → IsRing first → IsRing second
    → 5 ≤ length (bridged (first ∷ second ∷ others))
long_path [] second others ring other = absurd (omega (arith, ring.enough))
long_path (start ∷ []) second others ring other = absurd (omega (arith, ring.enough))
long_path (start ∷ p ∷ ps) [] others ring other = absurd (omega (arith, other.enough))
long_path (start ∷ p ∷ ps) (q ∷ qs) others ring other =
    let points = ps ++ ways start ((q ∷ qs) ∷ others) in
    let last = kept_by (last_point p points) start in
    let round : 4 ≤ length (kept_of p points) = two_kept start p q ps qs (ways start others) ring other in
    omega (arith, round, ap length (bridged-kept_of start p ps ((q ∷ qs) ∷ others) ring), length-append (kept_of p points) last)

-- ---- boxes

no_box : (points : List Point) → 5 ≤ length points → ◌≡◌ {A = Option UprightBox} None (corner_box points)
unfolding corner_box
no_box [] h = refl
no_box (a ∷ []) h = refl
no_box (a ∷ b ∷ []) h = refl
no_box (a ∷ b ∷ c ∷ []) h = refl
no_box (a ∷ b ∷ c ∷ d ∷ []) h = absurd (omega (arith, h))
no_box (a ∷ b ∷ c ∷ d ∷ e ∷ points) h = refl

pub box_of_none : (rings : List (List Point)) → length rings ≡ 0 → ◌≡◌ {A = Option UprightBox} None (corner_box (bridged rings))
unfolding corner_box bridged without_repeats
box_of_none [] h = refl
box_of_none (ring ∷ rings) h = absurd (omega (arith, h))

pub box_of_one : (rings : List (List Point)) (ring : List Point) → length rings ≡ 1 → ring ≡ get_or rings 0 ring → IsRing ring
    → corner_box ring ≡ corner_box (bridged rings)
box_of_one [] ring h is good = absurd (omega (arith, h))
box_of_one (r ∷ []) ring h is good = ap corner_box (sym (bridged_one ring good)) ∙ ap (λ q. corner_box (bridged (q ∷ []))) is
box_of_one (r ∷ s ∷ rings) ring h is good = absurd (omega (arith, h))

pub box_of_several : (rings : List (List Point)) (first second : List Point) → 2 ≤ length rings → first ≡ get_or rings 0 first
    → second ≡ get_or rings 1 second
    → IsRing first → IsRing second → ◌≡◌ {A = Option UprightBox} None (corner_box (bridged rings))
box_of_several [] first second h is other ring good = absurd (omega (arith, h))
box_of_several (r ∷ []) first second h is other ring good = absurd (omega (arith, h))
box_of_several (r ∷ s ∷ rings) first second h is other ring good =
    no_box (bridged (r ∷ s ∷ rings)) (long_path r s rings (subst IsRing is ring) (subst IsRing other good))

-- ---- sides

lesser_fits : (a b : ℤ) → FitsSigned w32 a → FitsSigned w32 b → (t : Bool) → FitsSigned w32 (cond t b a)
lesser_fits a b a_fits b_fits true = b_fits
lesser_fits a b a_fits b_fits false = a_fits

middle_fits : (a b : ℤ) (length : ℕ) → FitsSigned w32 a → FitsSigned w32 b → length ≡ unsigned_abs (a -ℤ b)
    → FitsSigned w32 (int_min a b +ℤ pos (length / 2))
middle_fits a b length a_fits b_fits size = grind (arith, ints, clamps)

-- a number of a side as it is computed
short_is : (n : ℕ) → n ≤ MAX_MAGNITUDE → to_z w32 n ≡ pos n
short_is n h = to_z_pos w32 n (omega (arith, h))

middle_is : (low : ℤ) (n : ℕ) → n ≤ MAX_MAGNITUDE → FitsSigned w32 low → FitsSigned w32 (low +ℤ pos (n / 2))
    → to_z w32 (of_z w32 (to_z w32 (of_z w32 low) +ℤ to_z w32 (n / 2))) ≡ low +ℤ pos (n / 2)
middle_is low n h low_fits fits =
    ap (λ z. to_z w32 (of_z w32 z)) (ap₂ ◌+ℤ◌ (to_z-of_z w32 low low_fits) (short_is (n / 2) (omega (arith, h))))
    ∙ to_z-of_z w32 (low +ℤ pos (n / 2)) fits

-- a side as it is computed
pub side_is : (a b low : ℤ) (n : ℕ) → FitsSigned w32 a → FitsSigned w32 b → low ≡ int_min a b → n ≡ unsigned_abs (a -ℤ b)
    → is_side n ≡ true
    → ◌≡◌ {A = Option (ℤ × ℤ)} (Some (to_z w32 n, to_z w32 (of_z w32 (to_z w32 (of_z w32 low) +ℤ to_z w32 (n / 2))))) (side_between a b)
side_is a b low n a_fits b_fits least size side =
    let short : n ≤ MAX_MAGNITUDE = grind (arith, nat_tests) in
    let low_fits : FitsSigned w32 low = subst (FitsSigned w32) (sym least) (lesser_fits a b a_fits b_fits (int_lt b a)) in
    let fits : FitsSigned w32 (low +ℤ pos (n / 2)) =
    subst (λ z. FitsSigned w32 (z +ℤ pos (n / 2))) (sym least) (middle_fits a b n a_fits b_fits size) in
    (λ i. Some (short_is n short i, middle_is low n short low_fits fits i))
    ∙ (sym (ap (λ t. cond t (Some (pos n, low +ℤ pos (n / 2))) None) side)
    ∙ ap₂ side_from least size)

-- ---- the text

line_as_path : (line : Line) → line_text_as Polygons line ≡ line_text line
line_as_path (Start number) = refl
line_as_path (OnLayer name) = refl
line_as_path (Path points) = refl
line_as_path Finish = refl
line_as_path (Call number turn) = refl
line_as_path End = refl

lines_as_paths : (lines : List Line) → lines_text_as Polygons lines ≡ lines_text lines
lines_as_paths [] = refl
lines_as_paths (line ∷ lines) = λ i. line_as_path line i ++ lines_as_paths lines i

-- the text without boxes
pub text_as_paths : (layout : Layout) → text_as Polygons layout ≡ text layout
unfolding text text_as
text_as_paths layout = lines_as_paths (file_lines (written layout))
