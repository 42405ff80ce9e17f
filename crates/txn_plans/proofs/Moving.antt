-- One more ring of those that are moved.
use Rattle.std.proofs.Common.{◌≡◌, ℕ, ◌+◌, ◌<◌, Bool, true, false, cond, ◌&&◌, List, [], ◌∷◌, ◌++◌}
use Rattle.std.proofs.Common.{length, take, drop, get_or, map, Option, None, Some, refl, ap, sym, ◌∙◌}
use Rattle.std.proofs.lemmas.List.{drop_more, map_more}
use Rattle.lay_point.specs.declared.point.Point.{Point}
use Rattle.lay_point.specs.Turns.{shifted}
use Rattle.txn_commands.specs.Figures.{shifted_rings}
use Rattle.txn_plans.specs.Moving.{ring_fits, ring_moved, rings_fit}

-- where something came of it, the test held, and this is it
came : (t : Bool) (x y : List Point) → Some y ≡ cond {A = Option (List Point)} t (Some x) None → (t ≡ true) × (y ≡ x)
came true x y e = (refl, cc)
came false x y e = absurd cc

module _ (by : Point) (rings : List (List Point)) (i : ℕ) (d ring : List Point)
    (inside : i < length rings) (is : Some ring ≡ ring_moved by (get_or rings i d)) where
  -- the rings so far are moved
  pub moved-more : (moved : List (List Point)) → moved ≡ shifted_rings by (take i rings)
      → moved ++ ring ∷ [] ≡ shifted_rings by (take (i + 1) rings)
  moved-more moved so_far =
      let it : ring ≡ map (shifted by) (get_or rings i d) = (came (ring_fits by (get_or rings i d)) _ _ is).1 in
      rw (so_far, it) (sym (map_more (map (shifted by)) rings i d inside))

  -- and those that are left decide whether all fit
  pub fits-more : rings_fit by (drop i rings) ≡ rings_fit by rings → rings_fit by (drop (i + 1) rings) ≡ rings_fit by rings
  fits-more so_far =
      let fits : ring_fits by (get_or rings i d) ≡ true = (came (ring_fits by (get_or rings i d)) _ _ is).0 in
      ap (λ t. t && rings_fit by (drop (i + 1) rings)) (sym fits) ∙ sym (ap (rings_fit by) (drop_more rings i d inside)) ∙ so_far
