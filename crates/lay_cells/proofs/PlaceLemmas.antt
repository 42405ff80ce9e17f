-- Places of cells: what is below an end stays below it, and a walk goes to no earlier place.
use Rattle.std.proofs.Common.{◌≡◌, ℕ, ◌<◌, ◌≤◌, inl, inr, true, false, List, [], ◌∷◌, ◌++◌}
use Rattle.std.proofs.Common.{◌+◌, map, refl, ap, sym, ◌∙◌, subst, arith, true≢false, Contains, nat_le, nat_lt}
use Rattle.std.proofs.lemmas.Bool.Decides.{nat_tests}
use Rattle.std.specs.List.{list_all}
use Rattle.std.proofs.lemmas.List.Folds.{list_all_at}
use Rattle.std.proofs.lemmas.List.Elements.{Contains-append_left, Contains-push, Contains-push_cases}
use Rattle.std.specs.List.Sorted.{IsPermutation}
use Rattle.std.proofs.lemmas.Bool.{cases_eq}
use Rattle.std.proofs.lemmas.List.Sorted.{Contains-permutation, IsPermutation-sym}
use Rattle.lay_cells.specs.declared.cell_id.CellId.{CellId}
use Rattle.lay_cells.specs.declared.cell_id.CellId.TheVariants.{Symbol}
use Rattle.lay_cells.specs.Places.{AreBelow, AreOrdered, ArePositions, cell_place, goes_later, keeps_order}
use Rattle.lay_cells.specs.Walks.{Calls, ClosesCycle, Walks}
use Rattle.lay_cells.specs.Walks.Walks.{stays, goes}
use Rattle.lay_cells.proofs.MemberLemmas.{contains_mapped, mapped_contains}

-- no positions
pub AreBelow-nil : (n : ℕ) → AreBelow [] n
AreBelow-nil n = λ q h. absurd (omega (arith, h.1))

-- one more position below the end
pub AreBelow-push : (xs : List ℕ) (q n : ℕ) → AreBelow xs n → q < n → AreBelow (xs ++ q ∷ []) n
AreBelow-push xs q n below within = λ p h. elim (Contains-push_cases xs q p h) [
  | inl old ↦ below p old
  | inr same ↦ subst (λ (i : ℕ). i < n) same within
]

-- the last position and those before it
pub AreBelow-last : (xs : List ℕ) (q n : ℕ) → AreBelow (xs ++ q ∷ []) n → q < n
AreBelow-last xs q n below = below q (Contains-push xs q)

pub AreBelow-front : (xs : List ℕ) (q n : ℕ) → AreBelow (xs ++ q ∷ []) n → AreBelow xs n
AreBelow-front xs q n below = λ p h. below p (Contains-append_left xs (q ∷ []) p h)

no_later : (a b : ℕ) → nat_le a b ≡ true → a ≤ b
no_later a b h = grind (arith, nat_tests)

later : (a b : ℕ) → nat_lt a b ≡ true → a < b
later a b h = grind (arith, nat_tests)

-- without places every call keeps the order
pub ordered_without_places : (symbols : List ℕ) (calls : List (CellId × ℕ)) → list_all (keeps_order symbols []) calls ≡ true
ordered_without_places symbols [] = refl
ordered_without_places symbols (call ∷ calls) = ordered_without_places symbols calls

module _ (graph : Calls) (places : List ℕ) (ordered : AreOrdered graph places) where
  place : CellId → ℕ
  place cell = cell_place graph.symbols places cell

  passes : (call : CellId × ℕ) → Contains graph.calls call → keeps_order graph.symbols places call ≡ true
  passes call h =
      elim (keeps_order graph.symbols places call) as (λ b. keeps_order graph.symbols places call ≡ b → b ≡ true) [
        | true ↦ λ _. refl
        | false ↦ λ e. absurd (true≢false (sym ordered ∙ list_all_at (keeps_order graph.symbols places) graph.calls h.0 call h.1
            (ap (keeps_order graph.symbols places) h.2 ∙ e)))
      ] refl

  kept : (caller : CellId) (target : ℕ) → Contains graph.calls (caller, target) → place caller ≤ place (Symbol target)
  unfolding place
  kept caller target h = no_later _ _ (passes (caller, target) h)

  -- a walk goes to no earlier place
  never_earlier : {a b : CellId} → Walks graph.calls a b → place a ≤ place b
  never_earlier stays = omega arith
  never_earlier {a} (goes {target = n} call rest) = omega (arith, kept a n call, never_earlier rest)

  -- no walk leads back from a later place
  pub later_closes_none : (call : CellId × ℕ) → goes_later graph.symbols places call ≡ true → ¬ (ClosesCycle graph.calls call)
  unfolding place
  later_closes_none call up walk =
      omega (arith, later _ _ up, never_earlier walk)

-- one position more
pub ArePositions-push : (xs : List ℕ) (n : ℕ) → ArePositions xs n → ArePositions (xs ++ n ∷ []) (n + 1)
ArePositions-push xs n are q = (
  λ h. elim (Contains-push_cases xs n q h) [
    | inl old ↦ let less = (are q).0 old in omega (arith, less)
    | inr same ↦ omega (arith, same)
  ],
  λ less. elim (cases_eq q n) [
    | inl e ↦ subst (λ (k : ℕ). Contains (xs ++ n ∷ []) k) (sym e) (Contains-push xs n)
    | inr ne ↦ Contains-append_left xs (n ∷ []) q ((are q).1 (omega arith))
  ],
)

-- entries in another order have the same positions
pub ArePositions-permutation : (xs ys : List (ℕ × ℕ)) (n : ℕ) → IsPermutation xs ys → ArePositions (map (λ (e : ℕ × ℕ). e.1) xs) n
    → ArePositions (map (λ (e : ℕ × ℕ). e.1) ys) n
ArePositions-permutation xs ys n moved are q = (
  λ h. (are q).0 (there ys xs (IsPermutation-sym xs ys moved) h),
  λ less. there xs ys moved ((are q).1 less),
) where
  there : (es fs : List (ℕ × ℕ)) → IsPermutation es fs → Contains (map (λ (e : ℕ × ℕ). e.1) es) q → Contains (map (λ (e : ℕ × ℕ). e.1) fs) q
  there es fs m h =
      let found = mapped_contains (λ (e : ℕ × ℕ). e.1) es q h in
      subst (λ (k : ℕ). Contains (map (λ (e : ℕ × ℕ). e.1) fs) k) found.2
      (contains_mapped (λ (e : ℕ × ℕ). e.1) fs found.0 (Contains-permutation es fs found.0 m found.1))
