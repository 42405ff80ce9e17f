-- Rings in lists of some: what holds of all rings holds of each list, and the passes of all lists are those of all rings.
use Rattle.std.proofs.Common.{
  ◌≡◌,
  suc,
  Result,
  Ok,
  List,
  [],
  ◌∷◌,
  ◌++◌,
  length,
  map,
  ⊎_elim,
  refl,
  sym,
  ap,
  subst,
  ◌∙◌,
  arith,
  Contains,
  append_assoc,
  All,
}
use Rattle.std.specs.Prelude.{IfOk, flat_map}
use Rattle.std.specs.List.{AllZip}
use Rattle.std.specs.List.Sorted.{IsPermutation}
use Rattle.std.proofs.lemmas.List.{map-append}
use Rattle.std.proofs.lemmas.Grind.{flat_map-append}
use Rattle.std.proofs.lemmas.List.Elements.{All-cons, All-nil, Contains-append_cases, Contains-append_left, Contains-append_right}
use Rattle.std.proofs.lemmas.List.Sorted.{IsPermutation-append}
use Rattle.std.proofs.lemmas.Slice.Zip.{AllZip-long}
use Rattle.lay_point.specs.declared.point.Point.{Point}
use Rattle.lay_point.specs.Rings.{IsRing}
use Rattle.lay_point.specs.Rising.{pairs}
use Rattle.snap_pixels.specs.declared.segment.Segment.{Segment}
use Rattle.snap_edge_laws.specs.Rounding.{IsRoundedPath, closed_walk}
use Rattle.snap_chains.specs.declared.owner.Owner.{Owner}
use Rattle.snap_chains.specs.declared.pass.Pass.{Pass}
use Rattle.snap_chains.specs.OwnedRings.{HaveSides}
use Rattle.snap_chains.specs.Passes.{ArePassesOf, visit_at}
use Rattle.snap_chains.specs.Visits.{visits_by, visits_of}
use Rattle.snap_chains.proofs.PathPasses.{no_ring_yet}

abbrev Ring : Type 0
Ring = Owner × List Point

abbrev sides_of : Ring → List (Point × Point)
sides_of r = pairs (closed_walk r.1)

-- ---- what the rings of a list have
first_part : {A : Type 0} (P : A → Type 0) (xs ys : List A) → All P (xs ++ ys) → All P xs × All P ys
first_part P [] ys h = (All-nil P, h)
first_part P (x ∷ xs) ys h =
    let rest = first_part P xs ys (λ k d lt. h (suc k) d (omega (arith, lt))) in
    (All-cons P x xs (h 0 x (omega arith)) rest.0, rest.1)

-- what holds of all rings, and of their sides, holds of those of each list
pub some_have : (segments : List Segment) (cs : List (List Ring)) → All (λ (r : Ring). IsRing r.1) (flat_map (λ (c : List Ring). c) cs)
    → HaveSides (flat_map (λ (c : List Ring). c) cs) segments
    → All (λ (c : List Ring). All (λ (r : Ring). IsRing r.1) c × HaveSides c segments) cs
some_have segments [] all have = All-nil (λ (c : List Ring). All (λ (r : Ring). IsRing r.1) c × HaveSides c segments)
some_have segments (c ∷ cs) all have =
    let rest = flat_map (λ (d : List Ring). d) cs in
    let parts = first_part (λ (r : Ring). IsRing r.1) c rest all in
    let joined = flat_map-append sides_of c rest in
    All-cons (λ (d : List Ring). All (λ (r : Ring). IsRing r.1) d × HaveSides d segments) c cs (
      parts.0,
      λ e m. have e (subst (λ l. Contains l e) (sym joined)
          (Contains-append_left (flat_map sides_of c) (flat_map sides_of rest) e m)),
    )
    (some_have segments cs parts.1
    (λ e m. have e (subst (λ l. Contains l e) (sym joined) (Contains-append_right (flat_map sides_of c) (flat_map sides_of rest) e m))))

-- ---- passes of several lists
zip_join : {A B : Type 0} (R : A → B → Type 0) (xs us : List A) (ys vs : List B) → AllZip R xs ys → AllZip R us vs
    → AllZip R (xs ++ us) (ys ++ vs)
zip_join R [] us [] vs h g = g
zip_join R [] us (y ∷ ys) vs h g = absurd h
zip_join R (x ∷ xs) us [] vs h g = absurd h
zip_join R (x ∷ xs) us (y ∷ ys) vs h g = (h.0, zip_join R xs us ys vs h.1 g)

visits_of-append : (rings others : List Ring) (walks more : List (List Point)) → length rings ≡ length walks
    → visits_of (rings ++ others) (walks ++ more) ≡ visits_of rings walks ++ visits_of others more
visits_of-append [] others [] more e = refl
visits_of-append [] others (w ∷ walks) more e = absurd (omega (arith, e))
visits_of-append (r ∷ rings) others [] more e = absurd (omega (arith, e))
visits_of-append (r ∷ rings) others (w ∷ walks) more e =
    ap (λ l. visits_by r.0 w ++ l) (visits_of-append rings others walks more (omega (arith, e)))
    ∙ sym (append_assoc (visits_by r.0 w) (visits_of rings walks) (visits_of others more))

module _ (segments : List Segment) (hot : List Point) where
  passes_join : (rings others : List Ring) (ps qs : List Pass) → ArePassesOf segments hot rings ps → ArePassesOf segments hot others qs
      → ArePassesOf segments hot (rings ++ others) (ps ++ qs)
  passes_join rings others ps qs h g =
      let Rounds : Ring → List Point → Type 0 = λ r w. IsRoundedPath segments (closed_walk r.1) w in
      let as_many = sym (AllZip-long Rounds rings h.walks h.rounded) in
      record {
        walks = h.walks ++ g.walks;
        rounded = zip_join Rounds rings others h.walks g.walks h.rounded g.rounded;
        inside = λ p m. ⊎_elim (λ (x : Contains ps p). h.inside p x) (λ (y : Contains qs p). g.inside p y)
            (Contains-append_cases ps qs p m);
        visits = coe 1 0 (i. IsPermutation (visits_of-append rings others h.walks g.walks as_many i) (map-append (visit_at hot) ps qs i))
            (IsPermutation-append _ _ _ _ h.visits g.visits);
      }

  module _ (E : Type 0) {W : Type 0} (items : W → List Pass) where
    abbrev pub ArePassed : List Ring → Result W E → Type 0
    ArePassed c r = IfOk r (λ w. ArePassesOf segments hot c (items w))

    lists_join : (cs : List (List Ring)) (ws : List W) → AllZip ArePassed cs (map Ok ws)
        → ArePassesOf segments hot (flat_map (λ (c : List Ring). c) cs) (flat_map items ws)
    lists_join [] [] h = no_ring_yet segments hot
    lists_join [] (w ∷ ws) h = absurd h
    lists_join (c ∷ cs) [] h = absurd h
    lists_join (c ∷ cs) (w ∷ ws) h =
        passes_join c (flat_map (λ (d : List Ring). d) cs) (items w) (flat_map items ws) h.0 (lists_join cs ws h.1)

    -- the passes of all lists are those of all their rings
    pub all_join : (cs : List (List Ring)) (rs : List (Result W E)) (ws : List W) → AllZip ArePassed cs rs → rs ≡ map Ok ws
        → ArePassesOf segments hot (flat_map (λ (c : List Ring). c) cs) (flat_map items ws)
    all_join cs rs ws h e = lists_join cs ws (subst (AllZip ArePassed cs) e h)
