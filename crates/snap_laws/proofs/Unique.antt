-- Rings have at most one rounding: their sides determine the hot centres, these the chains, these the walks, and the walks all the rest.
use Rattle.std.proofs.Common.{◌≡◌, List, [], ◌∷◌, ◌++◌, map, refl, sym, ap₂, subst, ◌∙◌}
use Rattle.std.specs.List.{AllZip}
use Rattle.lay_point.specs.declared.point.Point.{Point}
use Rattle.snap_pixels.specs.declared.segment.Segment.{Segment}
use Rattle.snap_pixels.specs.Hot.{IsHot}
use Rattle.snap_pixels.specs.Segments.{Meets}
use Rattle.snap_edge_laws.specs.Edges.{IsBelow}
use Rattle.snap_edge_laws.specs.Chains.{IsChain}
use Rattle.lay_point.specs.Rising.{IsRising}
use Rattle.snap_edge_laws.specs.Rounding.{IsRoundedPath, closed_walk, further, point, tail}
use Rattle.snap_edge_laws.specs.Undirected.{AreEdgesOf}
use Rattle.lay_point.specs.Edges.{IsEdgeBefore}
use Rattle.snap_edge_laws.proofs.ChainOrder.{below_is_strict}
use Rattle.lay_point.proofs.Members.{has, contains}
use Rattle.lay_point.proofs.Rising.{same_members}
use Rattle.lay_point.proofs.EdgeOrder.{edges_are_strict}
use Rattle.snap_chains.specs.declared.owner.Owner.{Owner}
use Rattle.snap_chains.specs.Owners.{IsOwnerBefore}
use Rattle.snap_chains.specs.Round.{AreOwnersOf}
use Rattle.snap_chains.specs.Sides.{segment_ends}
use Rattle.snap_chains.proofs.OwnerOrder.{owners_are_strict}
use Rattle.snap_laws.specs.RoundLaws.{RoundingIsUnique}
use Rattle.snap_laws.proofs.Sides.{IsBelowOn, hot_same}

-- ---- chains and walks
module _ (segments segments' : List Segment) (sides : map segment_ends segments ≡ map segment_ends segments') where
  chains_agree : (s t : Segment) (chain chain' : List Point) → s.a ≡ t.a → s.b ≡ t.b
      → IsChain (IsHot segments) s chain → IsChain (IsHot segments') t chain' → chain ≡ chain'
  chains_agree s t chain chain' ea eb h g =
      same_members (IsBelow t) (below_is_strict t) chain chain' (coe 0 1 (i. IsRising (IsBelowOn (ea i) (eb i)) chain) h.rising) g.rising
      (λ c m.
      let is = (h.exact c).0 (contains chain c m) in
      has chain' c ((g.exact c).1 (hot_same segments segments' sides c is.0, coe 0 1 (i. Meets (ea i) (eb i) c) is.1)))
      (λ c m.
      let is = (g.exact c).0 (contains chain' c m) in
      has chain c ((h.exact c).1 (hot_same segments' segments (sym sides) c is.0, coe 1 0 (i. Meets (ea i) (eb i) c) is.1)))

  walks_agree : (path path' walk walk' : List Point) → path ≡ path' → IsRoundedPath segments path walk
      → IsRoundedPath segments' path' walk' → walk ≡ walk'
  walks_agree path path' walk walk' e (point p) (point q) = e
  walks_agree path path' walk walk' e (point p) (further t rest chain' more given h g) = absurd cc
  walks_agree path path' walk walk' e (further s rest chain more given h g) (point q) = absurd cc
  walks_agree path path' walk walk' e (further s rest chain more given h g) (further t rest' chain' more' given' h' g') =
      let first : s.a ≡ t.a = cc in
      let second : s.b ≡ t.b = cc in
      let behind : s.b ∷ rest ≡ t.b ∷ rest' = cc in
      let one = chains_agree s t chain chain' first second h h' in
      let others = walks_agree (s.b ∷ rest) (t.b ∷ rest') more more' behind g g' in
      λ i. one i ++ tail (others i)

  all_agree : (rings : List (Owner × List Point)) (walks walks' : List (List Point))
      → AllZip (λ r w. IsRoundedPath segments (closed_walk r.1) w) rings walks
      → AllZip (λ r w. IsRoundedPath segments' (closed_walk r.1) w) rings walks' → walks ≡ walks'
  all_agree [] [] [] h g = refl
  all_agree [] [] (w' ∷ ws') h g = absurd g
  all_agree [] (w ∷ ws) ws' h g = absurd h
  all_agree (r ∷ rings) [] ws' h g = absurd h
  all_agree (r ∷ rings) (w ∷ ws) [] h g = absurd g
  all_agree (r ∷ rings) (w ∷ ws) (w' ∷ ws') h g =
      ap₂ (λ v vs. v ∷ vs) (walks_agree (closed_walk r.1) (closed_walk r.1) w w' refl h.0 g.0) (all_agree rings ws ws' h.1 g.1)

-- ---- edges and owners
edges_agree : (walks : List (List Point)) (edges edges' : List (Point × Point)) → AreEdgesOf walks edges → AreEdgesOf walks edges'
    → edges ≡ edges'
edges_agree walks edges edges' h g =
    same_members IsEdgeBefore edges_are_strict edges edges' h.rising g.rising
    (λ e m. has edges' e ((g.exact e).1 ((h.exact e).0 (contains edges e m))))
    (λ e m. has edges e ((h.exact e).1 ((g.exact e).0 (contains edges' e m))))

module _ (rings : List (Owner × List Point)) (walks : List (List Point)) where
  owners_agree : (e : Point × Point) (owners owners' : List Owner) → AreOwnersOf rings walks e owners → AreOwnersOf rings walks e owners'
      → owners ≡ owners'
  owners_agree e owners owners' h g =
      same_members IsOwnerBefore owners_are_strict owners owners' h.rising g.rising
      (λ o m. has owners' o ((g.exact o).1 ((h.exact o).0 (contains owners o m))))
      (λ o m. has owners o ((h.exact o).1 ((g.exact o).0 (contains owners' o m))))

  all_owners_agree : (edges : List (Point × Point)) (owners owners' : List (List Owner)) → AllZip (AreOwnersOf rings walks) edges owners
      → AllZip (AreOwnersOf rings walks) edges owners' → owners ≡ owners'
  all_owners_agree [] [] [] h g = refl
  all_owners_agree [] [] (o' ∷ os') h g = absurd g
  all_owners_agree [] (o ∷ os) os' h g = absurd h
  all_owners_agree (e ∷ edges) [] os' h g = absurd h
  all_owners_agree (e ∷ edges) (o ∷ os) [] h g = absurd g
  all_owners_agree (e ∷ edges) (o ∷ os) (o' ∷ os') h g =
      ap₂ (λ v vs. v ∷ vs) (owners_agree e o o' h.0 g.0) (all_owners_agree edges os os' h.1 g.1)

pub rounding_is_unique : RoundingIsUnique
rounding_is_unique rings are r r' h g =
    let walks = all_agree h.rounded.segments g.rounded.segments (h.rounded.sides ∙ sym g.rounded.sides) rings h.walks g.walks
    h.rounded.rounded g.rounded.rounded in
    let edges = edges_agree g.walks r.0 r'.0 (subst (λ ws. AreEdgesOf ws r.0) walks h.edges) g.edges in
    let owners = all_owners_agree rings g.walks r'.0 r.1 r'.1
    (coe 0 1 (i. AllZip (AreOwnersOf rings (walks i)) (edges i) r.1) h.owners) g.owners in
    λ i. (edges i, owners i)
