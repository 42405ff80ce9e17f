-- The owners that are there an odd number of times among passes of one edge, behind those of earlier edges.
use Rattle.std.proofs.Common.{◌≡◌, ⊎_elim, ℕ, ◌+◌, ◌-◌, ◌<◌, List, [], ◌∷◌, ◌++◌, length, get_or, take, map}
use Rattle.std.proofs.Common.{refl, sym, ap, subst, ◌∙◌, arith, Contains, append_assoc, append-nil, length-append}
use Rattle.std.specs.Prelude.{Some, IsTrue, slice_get}
use Rattle.std.specs.List.Sorted.{IsSorted}
use Rattle.std.proofs.lemmas.Bool.{false≢true}
use Rattle.std.proofs.lemmas.List.{take_all, take_more, length-map, get_or_default}
use Rattle.std.proofs.lemmas.Option.{get_or_from_slice_get, slice_get_within}
use Rattle.lay_point.proofs.Members.{Has, has, contains}
use Rattle.snap_slabs.proofs.KeyOrder.{rising-map}
use Rattle.snap_slabs.proofs.Stretches.{has_take}
use Rattle.lay_point.specs.Parity.{parity}
use Rattle.lay_point.proofs.ListLaws.{has-map, map-has}
use Rattle.snap_chains.specs.declared.owner.Owner.{Owner}
use Rattle.snap_chains.specs.Owners.{IsOwnerBefore}
use Rattle.snap_chains.proofs.OddLemmas.{AreOdd, odd_pop, next_is_not_last, odd_has}
use Rattle.snap_chains.proofs.OwnerLemmas.{map-push}
use Rattle.snap_chains.specs.declared.pass.Pass.{Pass}
use Rattle.snap_chains.specs.Reading.{
  AreEndsBefore,
  NumberedEdge,
  HasLastOwner,
  IsOddAdded,
  IsPassBefore,
  numbered_edge,
  pass_cmp,
  pass_eq,
  pass_of,
}
use Rattle.snap_chains.proofs.ViewLemmas.{pass_eq-Decides}
use Rattle.snap_chains.proofs.PassOrder.{pass_order, ends_are_strict}

abbrev owner_of : Pass → Owner
owner_of p = p.owner

split_last : {A : Type 0} (xs : List A) (d : A) → 0 < length xs → xs ≡ take (length xs - 1) xs ++ get_or xs (length xs - 1) d ∷ []
split_last xs d some = sym (take_all (length xs - 1 + 1) xs (omega (arith, some))) ∙ take_more xs (length xs - 1) d (omega (arith, some))

got_last : {A : Type 0} (ys : List A) (z : A) (n : ℕ) → n ≡ length ys → slice_get (ys ++ z ∷ []) n ≡ Some z
got_last [] z n e = ap (slice_get (z ∷ [])) e
got_last (y ∷ ys) z n e = ap (slice_get (y ∷ (ys ++ z ∷ []))) e ∙ got_last ys z (length ys) refl

took_all : {A : Type 0} (ys : List A) (z : A) (n : ℕ) → n ≡ length ys → take n (ys ++ z ∷ []) ≡ ys
took_all [] z n e = ap (λ m. take m (z ∷ [])) e
took_all (y ∷ ys) z n e = ap (λ m. take m (y ∷ (ys ++ z ∷ []))) e ∙ ap (λ l. y ∷ l) (took_all ys z (length ys) refl)

some_same : {A : Type 0} (d x y : A) → Some x ≡ Some y → x ≡ y
some_same d x y e = cc

-- what is kept of the first k passes
pub record IsOddSoFar (group : List Pass) (old : List Owner) (k : ℕ) (owners : List Owner) : Type 0 where
  pub kept : List Pass
  pub items : owners ≡ old ++ map owner_of kept
  pub odd : AreOdd pass_eq IsPassBefore (take k group) kept

pub odd_start : (group : List Pass) (old : List Owner) → IsOddSoFar group old 0 old
odd_start group old = record {
  kept = [];
  items = sym (append-nil old);
  odd = record { rising = tt; exact = λ v. ((λ m. absurd (has [] v m)), (λ t. absurd (false≢true t))) };
}

module _ (group : List Pass) (e : NumberedEdge) (old : List Owner) (sorted : IsSorted pass_cmp group)
    (same : (p : Pass) → Contains group p → numbered_edge p ≡ e) where
  seen_ends : (k : ℕ) (kept : List Pass) → AreOdd pass_eq IsPassBefore (take k group) kept → (p : Pass) → Has kept p → numbered_edge p ≡ e
  seen_ends k kept h p m =
      let seen = odd_has (pass_eq p) (take k group) ((h.exact p).0 (contains kept p m)) in
      let one = (pass_eq-Decides p seen.0).0 seen.2 in
      ap numbered_edge one ∙ same seen.0 (contains group seen.0 (has_take k group seen.0 seen.1))

  module _ (k : ℕ) (x : Pass) (owners : List Owner) (lt : k < length group) (at : x ≡ get_or group k x)
      (so_far : IsOddSoFar group old k owners) where
    one_more : take (k + 1) group ≡ take k group ++ x ∷ []
    one_more = take_more group k x lt ∙ ap (λ u. take k group ++ u ∷ []) (sym at)

    x_ends : numbered_edge x ≡ e
    x_ends = same x (k, lt, sym at)

    -- with a last pass z
    with_last : (z : Pass) (init : List Pass) → so_far.kept ≡ init ++ z ∷ [] → owners ≡ (old ++ map owner_of init) ++ z.owner ∷ []
    with_last z init is = so_far.items ∙ ap (λ l. old ++ map owner_of l) is ∙ ap (λ l. old ++ l) (map-push owner_of init z)
        ∙ sym (append_assoc old (map owner_of init) (z.owner ∷ []))

    count : length owners ≡ length old + length so_far.kept
    count = ap length so_far.items ∙ length-append old (map owner_of so_far.kept)
        ∙ ap (λ n. length old + n) (length-map so_far.kept owner_of)

    pub odd_less : HasLastOwner owners (length old) x.owner → IsOddSoFar group old (k + 1) (take (length owners - 1) owners)
    odd_less w =
        let kept = so_far.kept in
        let some : 0 < length kept = omega (arith, w.0, count) in
        let init = take (length kept - 1) kept in
        let z = get_or kept (length kept - 1) x in
        let split = split_last kept x some in
        let items = with_last z init split in
        let front = old ++ map owner_of init in
        let long : length owners ≡ length front + 1 = ap length items ∙ length-append front (z.owner ∷ []) in
        let before : length owners - 1 ≡ length front = omega (arith, long) in
        let owner : z.owner ≡ x.owner = some_same x.owner z.owner x.owner
        (sym (ap (λ l. slice_get l (length owners - 1)) items ∙ got_last front z.owner (length owners - 1) before) ∙ w.1) in
        let z_kept : Has kept z = has kept z (length kept - 1, omega (arith, some), last_again kept x some) in
        let ends : numbered_edge z ≡ numbered_edge x = seen_ends k kept so_far.odd z z_kept ∙ sym x_ends in
        let one : z ≡ x = λ i. record { low = (ends i).0; high = (ends i).1; owner = owner i } in
        record {
          kept = init;
          items = ap (take (length owners - 1)) items ∙ took_all front z.owner (length owners - 1) before;
          odd = subst (λ l. AreOdd pass_eq IsPassBefore l init) (sym one_more)
              (odd_pop IsPassBefore pass_order (take k group) init x
              (subst (AreOdd pass_eq IsPassBefore (take k group)) (split ∙ ap (λ v. init ++ v ∷ []) one) so_far.odd));
        }
      where
        last_again : (l : List Pass) (d : Pass) → 0 < length l → get_or l (length l - 1) (get_or l (length l - 1) d)
            ≡ get_or l (length l - 1) d
        last_again l d some = get_or_default l (length l - 1) (get_or l (length l - 1) d) d (omega (arith, some))

    pub odd_more : ¬ (HasLastOwner owners (length old) x.owner) → IsOddSoFar group old (k + 1) (owners ++ x.owner ∷ [])
    odd_more other =
        let kept = so_far.kept in
        record {
          kept = kept ++ x ∷ [];
          items = ap (λ l. l ++ x.owner ∷ []) so_far.items ∙ append_assoc old (map owner_of kept) (x.owner ∷ [])
              ∙ ap (λ l. old ++ l) (sym (map-push owner_of kept x));
          odd = next_is_not_last IsPassBefore pass_order group kept k x sorted lt at so_far.odd (λ h. other (ends_with h));
        }
      where
        ends_with : slice_get so_far.kept (length so_far.kept - 1) ≡ Some x → HasLastOwner owners (length old) x.owner
        ends_with h =
            let kept = so_far.kept in
            let inside = slice_get_within kept (length kept - 1) x h in
            let init = take (length kept - 1) kept in
            let is = split_last kept x (omega (arith, inside))
            ∙ ap (λ v. init ++ v ∷ []) (get_or_from_slice_get kept (length kept - 1) x x h) in
            let items = with_last x init is in
            let front = old ++ map owner_of init in
            let long : length owners ≡ length front + 1 = ap length items ∙ length-append front (x.owner ∷ []) in (
              omega (arith, inside, count),
              ap (λ l. slice_get l (length owners - 1)) items ∙ got_last front x.owner (length owners - 1) (omega (arith, long)),
            )

  -- in the end
  pub odd_end : (k : ℕ) (owners : List Owner) → take k group ≡ group → IsOddSoFar group old k owners → IsOddAdded group e old owners
  odd_end k owners all h =
      let kept = h.kept in
      let odd = subst (λ l. AreOdd pass_eq IsPassBefore l kept) all h.odd in (
        map owner_of kept,
        h.items,
        record {
          rising = rising-map IsPassBefore IsOwnerBefore owner_of kept
              (λ p q m n less. ⊎_elim
              (λ b. absurd (ends_are_strict.irreflexive e (coe 0 1
              (i. AreEndsBefore (seen_ends k kept h.odd p m i) (seen_ends k kept h.odd q n i)) b)))
              (λ (t : (numbered_edge p ≡ numbered_edge q) × IsOwnerBefore p.owner q.owner). t.1) less) odd.rising;
          exact = λ o. (
            (λ m.
                let r = map-has owner_of kept o (has (map owner_of kept) o m) in
                let ends = seen_ends k kept h.odd r.0 r.1 in
                let one : r.0 ≡ pass_of e o = λ i. record { low = (ends i).0; high = (ends i).1; owner = r.2 i } in
                subst (λ p. IsTrue (parity (pass_eq p) group)) one ((odd.exact r.0).0 (contains kept r.0 r.1))),
            (λ t. contains (map owner_of kept) o (has-map owner_of kept (pass_of e o)
                (has kept (pass_of e o) ((odd.exact (pass_of e o)).1 t)))),
          );
        },
      )
