use Rattle.std.proofs.Common.{◌↔◌, Contains, List, ℕ, map, rules, subst}
use Rattle.std.specs.List.Sorted.{IsPermutation}
use Rattle.std.proofs.lemmas.List.{places, with_items_is}
use Rattle.std.proofs.lemmas.List.Sorted.{Contains-permutation, IsPermutation-sym}
use Rattle.lay_point.specs.declared.point.Point.{Point}
use Rattle.snap_pixels.specs.Gathered.{centre_of}
use Rattle.snap_pixels.proofs.GatheredLemmas.{same_centres}
use Rattle.snap_pixels.proofs.gathered.Gathered.sort.Goals as goal

pub returns : goal.returns
returns g c =
    let old = c.self.inside.keys.items in
    let new = c.sort_in_threads.new.elements in
    let moved = subst (λ (l : List ℕ). IsPermutation l new) c.as_mut_slice.ensures.value c.sort_in_threads.ensures.permutation in
    rw (with_items_is c.self.inside.keys new (search (rules, places)))
    (subst (λ (l : List Point). (p : Point) → Contains (map centre_of new) p ↔ Contains l p) c.self.view_is
    (same_centres old new (λ k. (Contains-permutation new old k (IsPermutation-sym old new moved), Contains-permutation old new k moved))))
