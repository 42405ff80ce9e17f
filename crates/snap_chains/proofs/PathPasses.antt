-- The passes of the sides of a ring, one side after another, and of one ring after another.
use Rattle.std.proofs.Common.{
  ◌≡◌,
  ℕ,
  ◌+◌,
  ◌<◌,
  ◌≤◌,
  List,
  [],
  ◌∷◌,
  ◌++◌,
  length,
  get_or,
  take,
  map,
  Some,
  inl,
  inr,
  refl,
  sym,
  ap,
  subst,
  ◌∙◌,
  ⊎_elim,
  Contains,
  append_assoc,
  append-nil,
  arith,
}
use Rattle.std.specs.Prelude.{slice_get}
use Rattle.std.specs.List.Sorted.{IsPermutation}
use Rattle.std.proofs.lemmas.List.{map-append, take_all, take_more}
use Rattle.std.proofs.lemmas.List.Sorted.{IsPermutation-append, IsPermutation-refl}
use Rattle.std.proofs.lemmas.Slice.Zip.{AllZip-long}
use Rattle.lay_point.specs.declared.point.Point.{Point}
use Rattle.lay_point.specs.Edges.{undirected}
use Rattle.lay_point.specs.Rising.{IsFromTo, pairs, last}
use Rattle.lay_point.proofs.Members.{Has, has, contains, has-append}
use Rattle.lay_point.proofs.ListLaws.{map-has}
use Rattle.snap_pixels.specs.declared.segment.Segment.{Segment}
use Rattle.snap_pixels.specs.Hot.{AreHotCentres}
use Rattle.snap_edge_laws.specs.Rounding.{IsRoundedPath, closed_walk, point, tail}
use Rattle.snap_edge_laws.proofs.Chains.{chains_join_ends, own_pixel}
use Rattle.snap_edge_laws.proofs.Rounded.{last_of, rounded_paths_join_ends}
use Rattle.snap_edge_laws.proofs.Walks.{joined_pairs}
use Rattle.snap_slabs.proofs.OwnedLemmas.{zip_push}
use Rattle.snap_chains.specs.declared.owner.Owner.{Owner}
use Rattle.snap_chains.specs.declared.pass.Pass.{Pass}
use Rattle.snap_chains.specs.Visits.{Visit}
use Rattle.snap_chains.specs.Passes.{ArePassesOf, ArePathPasses, IsSideAdded, visit_at}
use Rattle.snap_chains.specs.Sides.{segment_ends}
use Rattle.snap_chains.specs.Visits.{visits_by, visits_of}
use Rattle.snap_chains.proofs.OwnerLemmas.{map-push}
use Rattle.snap_chains.proofs.PathLemmas.{
  AreLinked,
  Contains-map,
  chain_of_hot,
  further_side,
  last-push,
  linked_at,
  same_chain,
  sides_linked,
}

-- ---- ends are hot
-- the ends of a segment are hot centres
pub ends_are_hot : (segments : List Segment) (hot : List Point) → AreHotCentres segments hot → (p q : Point)
    → Contains (map segment_ends segments) (p, q) → Contains hot p × Contains hot q
ends_are_hot segments hot all p q among =
    let found = map-has segment_ends segments (p, q) (has (map segment_ends segments) (p, q) among) in
    let t = found.0 in
    let given = contains segments t found.1 in (
      subst (Contains hot) (ap (λ (e : Point × Point). e.0) found.2) ((all.exact t.a).1 (inl (t, given, inl (own_pixel t.a)))),
      subst (Contains hot) (ap (λ (e : Point × Point). e.1) found.2) ((all.exact t.b).1 (inl (t, given, inr (own_pixel t.b)))),
    )

-- ---- sides
-- one more side, whose passes are added behind those of a path that ends where it starts
sides_join : (segments : List Segment) (hot : List Point) (o : Owner) (s : Segment) (path : List Point) (a : Point)
    (old mid new : List Pass)
    → AreHotCentres segments hot → Contains segments s → IsFromTo a s.a path → ArePathPasses segments hot o path old mid
    → IsSideAdded hot s o mid new → ArePathPasses segments hot o (path ++ s.b ∷ []) old new
sides_join segments hot o s path a old mid new all given ends h side =
    let visit : Point × Point → Visit = λ e. record { edge = undirected e; owner = o } in
    let chain = chain_of_hot segments hot s side.chain all side.is_chain in
    let chain_ends = chains_join_ends segments s side.chain given chain in
    let walk_ends = rounded_paths_join_ends segments path h.walk h.rounded a s.a ends in
    let at_last : last_of s.a path ≡ s.a = ap (last_of s.a) ends.first_is ∙ ends.last_is in
    let joined : visits_by o (h.walk ++ tail side.chain) ≡ visits_by o h.walk ++ visits_by o side.chain =
    ap (map visit) (joined_pairs a s.a s.b h.walk side.chain walk_ends chain_ends) ∙ map-append visit (pairs h.walk) (pairs side.chain) in
    record {
      added = h.added ++ side.added;
      new_is = side.new_is ∙ ap (λ l. l ++ side.added) h.new_is ∙ append_assoc old h.added side.added;
      inside = λ p m. ⊎_elim (λ (x : Has h.added p). h.inside p (contains h.added p x))
          (λ (y : Has side.added p). side.inside p (contains side.added p y))
          (has-append h.added side.added p (has (h.added ++ side.added) p m));
      walk = h.walk ++ tail side.chain;
      rounded = further_side segments s side.chain given chain path h.walk h.rounded at_last;
      visits = coe 1 0 (i. IsPermutation (joined i) (map-append (visit_at hot) h.added side.added i))
          (IsPermutation-append _ _ _ _ h.visits side.visits);
    }

-- a side that has the ends of one of the segments
side_joins : (segments : List Segment) (hot : List Point) (o : Owner) (s : Segment) (p : Point) (ps : List Point) (old mid new : List Pass)
    → AreHotCentres segments hot → Contains (map segment_ends segments) (segment_ends s) → last p ps ≡ s.a
    → ArePathPasses segments hot o (p ∷ ps) old mid → IsSideAdded hot s o mid new
    → ArePathPasses segments hot o (p ∷ (ps ++ s.b ∷ [])) old new
side_joins segments hot o s p ps old mid new all among link h side =
    let found = map-has segment_ends segments (segment_ends s) (has (map segment_ends segments) (segment_ends s) among) in
    let t = found.0 in
    let ea : t.a ≡ s.a = ap (λ (e : Point × Point). e.0) found.2 in
    let eb : t.b ≡ s.b = ap (λ (e : Point × Point). e.1) found.2 in
    let same : IsSideAdded hot t o mid new = record {
      added = side.added;
      new_is = side.new_is;
      inside = side.inside;
      chain = side.chain;
      is_chain = same_chain (Contains hot) s t side.chain (sym ea) (sym eb) side.is_chain;
      visits = side.visits;
    } in
    subst (λ v. ArePathPasses segments hot o (p ∷ (ps ++ v ∷ [])) old new) eb
    (sides_join segments hot o t (p ∷ ps) p old mid new all (contains segments t found.1)
    (record { rest = ps; first_is = refl; last_is = link ∙ sym ea }) h same)

-- ---- rings
-- the passes of the sides so far of a ring that starts at p, and the number of the point where these end
pub record AreSidesAdded (segments : List Segment) (hot : List Point) (o : Owner) (p : Point) (sides : List Segment) (old new : List Pass)
    (from : ℕ) : Type 0 where
  pub passes : ArePathPasses segments hot o (p ∷ map (λ s. s.b) sides) old new
  pub at : slice_get hot from ≡ Some (last p (map (λ s. s.b) sides))

pub no_side_yet : (segments : List Segment) (hot : List Point) (o : Owner) (p : Point) (old : List Pass) (from : ℕ)
    → slice_get hot from ≡ Some p → AreSidesAdded segments hot o p [] old old from
no_side_yet segments hot o p old from at = record {
  passes = record {
    added = [];
    new_is = sym (append-nil old);
    inside = λ q m. absurd (has [] q m);
    walk = p ∷ [];
    rounded = point p;
    visits = IsPermutation-refl [];
  };
  at = at;
}

-- the sides of a ring
module _ (segments : List Segment) (hot ring : List Point) (sides : List Segment) (all : AreHotCentres segments hot)
    (among : (e : Point × Point) → Contains (pairs (closed_walk ring)) e → Contains (map segment_ends segments) e)
    (are_sides : map segment_ends sides ≡ pairs (closed_walk ring)) (p : Point) (ps : List Point) (e : ring ≡ p ∷ ps) where
  linked : AreLinked p sides × (map (λ s. s.b) sides ≡ ps ++ p ∷ [])
  linked = sides_linked p (ps ++ p ∷ []) sides (are_sides ∙ ap (λ r. pairs (closed_walk r)) e)

  pub start_is_hot : Contains hot p
  start_is_hot = by_rest ps e
    where
      by_rest : (l : List Point) → ring ≡ p ∷ l → Contains hot p
      by_rest [] f = (ends_are_hot segments hot all p p (among (p, p)
          (subst (λ r. Contains (pairs (closed_walk r)) (p, p)) (sym f) (contains (pairs (p ∷ p ∷ [])) (p, p) (inl refl))))).0
      by_rest (q ∷ l) f = (ends_are_hot segments hot all p q (among (p, q)
          (subst (λ r. Contains (pairs (closed_walk r)) (p, q)) (sym f)
          (contains (pairs (p ∷ q ∷ (l ++ p ∷ []))) (p, q) (inl refl))))).0

  module _ (i : ℕ) (s : Segment) (lt : i < length sides) (at : s ≡ get_or sides i s) where
    side_among : Contains (map segment_ends segments) (segment_ends s)
    side_among = among (segment_ends s)
        (subst (λ l. Contains l (segment_ends s)) are_sides (Contains-map segment_ends sides s (i, lt, sym at)))

    pub end_is_hot : Contains hot s.b
    end_is_hot = (ends_are_hot segments hot all s.a s.b side_among).1

    pub starts_at : last p (map (λ t. t.b) (take i sides)) ≡ s.a
    starts_at = linked_at p sides linked.0 i s lt ∙ ap (λ (t : Segment). t.a) (sym at)

    pub side_more : (o : Owner) (old mid new : List Pass) (from to : ℕ) → AreSidesAdded segments hot o p (take i sides) old mid from
        → slice_get hot to ≡ Some s.b → IsSideAdded hot s o mid new → AreSidesAdded segments hot o p (take (i + 1) sides) old new to
    side_more o old mid new from to h there side =
        let more = ap (map (λ (t : Segment). t.b)) (take_more sides i s lt ∙ ap (λ t. take i sides ++ t ∷ []) (sym at))
        ∙ map-push (λ (t : Segment). t.b) (take i sides) s in
        record {
          passes = subst (λ l. ArePathPasses segments hot o (p ∷ l) old new) (sym more)
              (side_joins segments hot o s p (map (λ t. t.b) (take i sides)) old mid new all side_among starts_at h.passes side);
          at = there ∙ ap Some (sym (ap (last p) more ∙ last-push p (map (λ t. t.b) (take i sides)) s.b));
        }

  pub sides_end : (o : Owner) (old new : List Pass) (from i : ℕ) → length sides ≤ i
      → AreSidesAdded segments hot o p (take i sides) old new from → ArePathPasses segments hot o (closed_walk ring) old new
  sides_end o old new from i over h =
      subst (λ r. ArePathPasses segments hot o (closed_walk r) old new) (sym e)
      (subst (λ l. ArePathPasses segments hot o (p ∷ l) old new) (ap (map (λ (t : Segment). t.b)) (take_all i sides over) ∙ linked.1)
      h.passes)

-- ---- all rings
visits_of-push : (rings : List (Owner × List Point)) (walks : List (List Point)) (r : Owner × List Point) (w : List Point)
    → length rings ≡ length walks → visits_of (rings ++ r ∷ []) (walks ++ w ∷ []) ≡ visits_of rings walks ++ visits_by r.0 w
visits_of-push [] [] r w e = append-nil (visits_by r.0 w)
visits_of-push [] (v ∷ walks) r w e = absurd (omega (arith, e))
visits_of-push (q ∷ rings) [] r w e = absurd (omega (arith, e))
visits_of-push (q ∷ rings) (v ∷ walks) r w e =
    ap (λ l. visits_by q.0 v ++ l) (visits_of-push rings walks r w (omega (arith, e)))
    ∙ sym (append_assoc (visits_by q.0 v) (visits_of rings walks) (visits_by r.0 w))

pub no_ring_yet : (segments : List Segment) (hot : List Point) → ArePassesOf segments hot [] []
no_ring_yet segments hot = record {
  walks = [];
  rounded = tt;
  inside = λ p m. absurd (has [] p m);
  visits = IsPermutation-refl [];
}

pub ring_more : (segments : List Segment) (hot : List Point) (rings : List (Owner × List Point)) (r : Owner × List Point)
    (old new : List Pass)
    → ArePassesOf segments hot rings old → ArePathPasses segments hot r.0 (closed_walk r.1) old new
    → ArePassesOf segments hot (rings ++ r ∷ []) new
ring_more segments hot rings r old new h g =
    let Rounds : Owner × List Point → List Point → Type 0 = λ q w. IsRoundedPath segments (closed_walk q.1) w in
    let as_many = sym (AllZip-long Rounds rings h.walks h.rounded) in
    record {
      walks = h.walks ++ g.walk ∷ [];
      rounded = zip_push Rounds rings h.walks r g.walk h.rounded g.rounded;
      inside = λ p m. ⊎_elim (λ (x : Has old p). h.inside p (contains old p x)) (λ (y : Has g.added p). g.inside p (contains g.added p y))
          (has-append old g.added p (subst (λ l. Has l p) g.new_is (has new p m)));
      visits = coe 1 0 (i. IsPermutation (visits_of-push rings h.walks r g.walk as_many i)
          ((ap (map (visit_at hot)) g.new_is ∙ map-append (visit_at hot) old g.added) i))
          (IsPermutation-append _ _ _ _ h.visits g.visits);
    }
