-- Shifted rings are rings, where they stay in range, and their bridged path is as long.
use Rattle.std.proofs.Common.{◌≡◌, Bool, true, false, cond, List, [], ◌∷◌, ◌++◌, map, length, refl, ap, sym, subst, ◌∙◌, arith}
use Rattle.std.proofs.lemmas.Bool.{and_parts}
use Rattle.std.proofs.lemmas.Bool.Decides.{Decides-like, same_from_decides}
use Rattle.std.proofs.lemmas.List.{length-map, map-append}
use Rattle.std.specs.List.{AllByRecursion, list_all}
use Rattle.lay_point.specs.declared.point.Point.{Point}
use Rattle.lay_point.specs.Bridges.{bridged, further, round_all}
use Rattle.lay_point.specs.Points.{is_in_range, point_eq}
use Rattle.lay_point.specs.Rings.{IsRing, NeighboursDiffer, closed, kept_behind, opened, opened_behind, without_repeats}
use Rattle.lay_point.specs.Same.{point_eq-Decides}
use Rattle.lay_point.specs.Turns.{shifted}
use Rattle.lay_point.proofs.TurnLemmas.{shifted_same}
use Rattle.lay_layouts.specs.Sound.{IsDrawn}
use Rattle.txn_commands.specs.Figures.{are_in_range, shifted_rings}

point_eq-shifted : (s p q : Point) → point_eq (shifted s p) (shifted s q) ≡ point_eq p q
point_eq-shifted s p q = same_from_decides (point_eq (shifted s p) (shifted s q)) (point_eq p q)
    (Decides-like (point_eq (shifted s p) (shifted s q)) (shifted_same s p q) (ap (shifted s))
    (point_eq-Decides (shifted s p) (shifted s q)))
    (point_eq-Decides p q)

module _ (s : Point) where
  abbrev moved : List Point → List Point
  moved points = map (shifted s) points

  kept_behind-shifted : (last : Point) (ps : List Point) → kept_behind (shifted s last) (moved ps) ≡ moved (kept_behind last ps)
  kept_behind-shifted last [] = refl
  kept_behind-shifted last (p ∷ ps) =
      ap (λ b. cond b (kept_behind (shifted s last) (moved ps)) (shifted s p ∷ kept_behind (shifted s p) (moved ps)))
      (point_eq-shifted s last p)
      ∙ by_test (point_eq last p) (kept_behind-shifted last ps) (kept_behind-shifted p ps) where
        by_test : (b : Bool) → kept_behind (shifted s last) (moved ps) ≡ moved (kept_behind last ps) →
            kept_behind (shifted s p) (moved ps) ≡ moved (kept_behind p ps) →
            cond b (kept_behind (shifted s last) (moved ps)) (shifted s p ∷ kept_behind (shifted s p) (moved ps))
            ≡ moved (cond b (kept_behind last ps) (p ∷ kept_behind p ps))
        by_test true same next = same
        by_test false same next = ap (λ xs. shifted s p ∷ xs) next

  opened_behind-shifted : (first : Point) (ps : List Point) → opened_behind (shifted s first) (moved ps) ≡ moved (opened_behind first ps)
  opened_behind-shifted first [] = refl
  opened_behind-shifted first (p ∷ []) =
      ap (λ b. cond b [] (shifted s p ∷ [])) (point_eq-shifted s first p) ∙ by_test (point_eq first p) where
        by_test : (b : Bool) → cond b [] (shifted s p ∷ []) ≡ moved (cond b [] (p ∷ []))
        by_test true = refl
        by_test false = refl
  opened_behind-shifted first (p ∷ q ∷ ps) = ap (λ xs. shifted s p ∷ xs) (opened_behind-shifted first (q ∷ ps))

  without_repeats-shifted : (ps : List Point) → without_repeats (moved ps) ≡ moved (without_repeats ps)
  unfolding without_repeats
  without_repeats-shifted [] = refl
  without_repeats-shifted (p ∷ ps) =
      ap (λ xs. opened (shifted s p ∷ xs)) (kept_behind-shifted p ps)
      ∙ ap (λ xs. shifted s p ∷ xs) (opened_behind-shifted p (kept_behind p ps))

  closed-shifted : (ps : List Point) → closed (moved ps) ≡ moved (closed ps)
  closed-shifted [] = refl
  closed-shifted (p ∷ ps) = ap (λ xs. shifted s p ∷ xs) (sym (map-append (shifted s) ps (p ∷ [])))

  abbrev all_moved : List (List Point) → List (List Point)
  all_moved rings = map (map (shifted s)) rings

  further-shifted : (start : Point) (rings : List (List Point)) →
      further (shifted s start) (all_moved rings) ≡ moved (further start rings)
  further-shifted start [] = refl
  further-shifted start (ring ∷ []) = closed-shifted ring
  further-shifted start (ring ∷ next ∷ rings) =
      ap (λ xs. xs ++ shifted s start ∷ further (shifted s start) (all_moved (next ∷ rings))) (closed-shifted ring)
      ∙ ap (λ xs. moved (closed ring) ++ shifted s start ∷ xs) (further-shifted start (next ∷ rings))
      ∙ sym (map-append (shifted s) (closed ring) (start ∷ further start (next ∷ rings)))

  joined-shifted : (rings : List (List Point)) → round_all (all_moved rings) ≡ moved (round_all rings)
  joined-shifted [] = refl
  joined-shifted ([] ∷ rings) = refl
  joined-shifted ((start ∷ points) ∷ []) = refl
  joined-shifted ((start ∷ points) ∷ ring ∷ rings) =
      ap (λ xs. xs ++ further (shifted s start) (all_moved (ring ∷ rings))) (closed-shifted (start ∷ points))
      ∙ ap (λ xs. moved (closed (start ∷ points)) ++ xs) (further-shifted start (ring ∷ rings))
      ∙ sym (map-append (shifted s) (closed (start ∷ points)) (further start (ring ∷ rings)))

  bridged-shifted : (rings : List (List Point)) → bridged (all_moved rings) ≡ moved (bridged rings)
  unfolding bridged
  bridged-shifted rings = ap without_repeats (joined-shifted rings) ∙ without_repeats-shifted (round_all rings)

  differ_moved : (ps : List Point) → NeighboursDiffer ps → NeighboursDiffer (moved ps)
  differ_moved [] h = tt
  differ_moved (p ∷ []) h = tt
  differ_moved (p ∷ q ∷ ps) h = ((λ e. h.0 (shifted_same s p q e)), differ_moved (q ∷ ps) h.1)

  pub ring_moved : (ring : List Point) → IsRing ring → list_all is_in_range (moved ring) ≡ true → IsRing (moved ring)
  ring_moved ring is near =
      let len : length (moved ring) ≡ length ring = length-map ring (shifted s) in
      record {
        enough = omega (arith, is.enough);
        few = omega (arith, is.few);
        in_range = near;
        apart = subst NeighboursDiffer (sym (closed-shifted ring)) (differ_moved (closed ring) is.apart);
      }

  rings_moved : (rings : List (List Point)) → AllByRecursion IsRing rings → are_in_range (all_moved rings) ≡ true →
      AllByRecursion IsRing (all_moved rings)
  rings_moved [] all near = tt
  rings_moved (ring ∷ rings) all near =
      let parts = and_parts (list_all is_in_range (moved ring)) (are_in_range (all_moved rings)) near in
      (ring_moved ring all.0 parts.0, rings_moved rings all.1 parts.1)

  -- a shape that is shifted within the range is still drawn
  pub drawn_shifted : (rings : List (List Point)) → IsDrawn rings → are_in_range (shifted_rings s rings) ≡ true →
      IsDrawn (shifted_rings s rings)
  drawn_shifted rings drawn near =
      let len : length (shifted_rings s rings) ≡ length rings = length-map rings (map (shifted s)) in
      let path : length (bridged (shifted_rings s rings)) ≡ length (bridged rings) =
      ap length (bridged-shifted rings) ∙ length-map (bridged rings) (shifted s) in
      record {
        some = omega (arith, drawn.some);
        each = rings_moved rings drawn.each near;
        short = omega (arith, drawn.short);
      }
