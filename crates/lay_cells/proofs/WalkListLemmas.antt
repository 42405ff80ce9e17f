-- The lists of walks: what is in them, and when walks of more calls are no more.
use Rattle.std.proofs.Common.{◌≡◌, ◌∙◌, ◌≤◌, ℕ, zero, suc, ◌+◌, inl, inr, List, []}
use Rattle.std.proofs.Common.{◌∷◌, ◌++◌, length, map, refl, ap, subst, arith, Contains}
use Rattle.std.specs.Prelude.{flat_map, max, sum_by}
use Rattle.std.proofs.lemmas.List.{length-map}
use Rattle.std.proofs.lemmas.List.Concat.{length-flat_map}
use Rattle.lay_cells.specs.declared.cell_id.CellId.{CellId}
use Rattle.lay_cells.specs.declared.cell_id.CellId.TheVariants.{Symbol}
use Rattle.lay_cells.specs.Tallies.{greatest}
use Rattle.lay_cells.specs.WalkLists.{IsWalk, longest, walks_within}
use Rattle.lay_cells.proofs.MemberLemmas.{contains_behind, contains_cases, contains_first, contains_joined}
use Rattle.lay_cells.proofs.MemberLemmas.{contains_mapped, contains_none, joined_contains, mapped_contains}

module _ {C : Type 0} where
  longest-append : (xs ys : List (List C)) → longest (xs ++ ys) ≡ max (longest xs) (longest ys)
  longest-append [] ys = omega arith
  longest-append (x ∷ xs) ys = omega (arith, longest-append xs ys)

  -- one call more in front of each
  longest-further : (call : C) (w : List C) (ws : List (List C))
      → longest (map (λ (v : List C). call ∷ v) (w ∷ ws)) ≡ 1 + longest (w ∷ ws)
  longest-further call w [] = omega arith
  longest-further call w (v ∷ vs) = omega (arith, longest-further call v vs)

  -- no walk of the list is longer
  pub longest-le : (ws : List (List C)) (m : ℕ) → ((w : List C) → Contains ws w → length w ≤ m) → longest ws ≤ m
  longest-le [] m each = omega arith
  longest-le (w ∷ ws) m each =
      omega (arith, each w (contains_first w ws), longest-le ws m (λ v h. each v (contains_behind w ws v h)))

  pub le-longest : (ws : List (List C)) (w : List C) → Contains ws w → length w ≤ longest ws
  le-longest [] w h = absurd (contains_none w h)
  le-longest (v ∷ vs) w h = elim (contains_cases v vs w h) [
    | inl same ↦ subst (λ (u : List C). length u ≤ longest (v ∷ vs)) same (omega arith)
    | inr behind ↦ omega (arith, le-longest vs w behind)
  ]

module _ {C : Type 0} (standing : CellId → List C) (target : C → ℕ) where
  -- the walks of at most so many calls behind a first one
  abbrev pub behind : ℕ → C → List (List C)
  behind n call = map (λ (walk : List C). call ∷ walk) (walks_within standing target n (Symbol (target call)))

  -- a walk is in the list where it has so few calls
  pub listed : (n : ℕ) (cell : CellId) (walk : List C) → IsWalk standing target cell walk → length walk ≤ n
      → Contains (walks_within standing target n cell) walk
  unfolding walks_within
  listed zero cell [] is few = contains_first [] []
  listed zero cell (call ∷ walk) is few = absurd (omega arith)
  listed (suc n) cell [] is few = contains_first [] _
  listed (suc n) cell (call ∷ walk) is few =
      contains_behind [] _ (call ∷ walk) (contains_joined (behind n) (standing cell) call (call ∷ walk) is.0
      (contains_mapped (λ (v : List C). call ∷ v) (walks_within standing target n (Symbol (target call))) walk
      (listed n (Symbol (target call)) walk is.1 (omega arith))))

  -- and nothing else is in it
  pub only_walks : (n : ℕ) (cell : CellId) (walk : List C) → Contains (walks_within standing target n cell) walk
      → IsWalk standing target cell walk × (length walk ≤ n)
  unfolding walks_within
  only_walks zero cell walk h = elim (contains_cases [] [] walk h) [
    | inl same ↦ subst (λ (w : List C). IsWalk standing target cell w × (length w ≤ 0)) same (tt, omega arith)
    | inr none ↦ absurd (contains_none walk none)
  ]
  only_walks (suc n) cell walk h = elim (contains_cases [] (flat_map (behind n) (standing cell)) walk h) [
    | inl same ↦ subst (λ (w : List C). IsWalk standing target cell w × (length w ≤ suc n)) same (tt, omega arith)
    | inr further ↦
        let first = joined_contains (behind n) (standing cell) walk further in
        let rest = mapped_contains (λ (v : List C). first.0 ∷ v) (walks_within standing target n (Symbol (target first.0))) walk first.2 in
        let is = only_walks n (Symbol (target first.0)) rest.0 rest.1 in
        subst (λ (w : List C). IsWalk standing target cell w × (length w ≤ suc n)) rest.2 ((first.1, is.0), omega (arith, is.1))
  ]

  -- the walks of at most no call, or more, are those of at most so many with one in front
  longest-behind : (n : ℕ) (call : C) → longest (behind n call) ≡ 1 + longest (walks_within standing target n (Symbol (target call)))
  unfolding walks_within
  longest-behind zero call = longest-further call [] []
  longest-behind (suc n) call = longest-further call [] (flat_map (behind n) (standing (Symbol (target call))))

  -- the longest has one call more than the longest from what the cell calls
  pub longest-more : (n : ℕ) (cell : CellId) → longest (walks_within standing target (suc n) cell)
      ≡ greatest (λ call. 1 + longest (walks_within standing target n (Symbol (target call)))) (standing cell)
  unfolding walks_within
  longest-more n cell = from_calls (standing cell) where
    from_calls : (calls : List C) → longest ([] ∷ flat_map (behind n) calls)
        ≡ greatest (λ call. 1 + longest (walks_within standing target n (Symbol (target call)))) calls
    from_calls [] = omega arith
    from_calls (call ∷ calls) =
        omega (arith, longest-append (behind n call) (flat_map (behind n) calls), longest-behind n call, from_calls calls)

  -- there are as many walks as from all that the cell calls, and the empty one
  pub length-more : (n : ℕ) (cell : CellId) → length (walks_within standing target (suc n) cell)
      ≡ 1 + sum_by (λ call. length (walks_within standing target n (Symbol (target call)))) (standing cell)
  unfolding walks_within
  length-more n cell = from_calls (standing cell) where
    each : (call : C) → length (behind n call) ≡ length (walks_within standing target n (Symbol (target call)))
    each call = length-map (walks_within standing target n (Symbol (target call))) (λ (v : List C). call ∷ v)

    from_calls : (calls : List C) → length ([] ∷ flat_map (behind n) calls)
        ≡ 1 + sum_by (λ call. length (walks_within standing target n (Symbol (target call)))) calls
    from_calls calls =
        let joined = length-flat_map (behind n) calls in
        let same : sum_by (λ call. length (behind n call)) calls
        ≡ sum_by (λ call. length (walks_within standing target n (Symbol (target call)))) calls =
        ap (λ (f : C → ℕ). sum_by f calls) (λ i call. each call i) in
        omega (arith, joined, same)

  -- where none has more calls, there are no others with more
  pub no_more : (n m : ℕ) (cell : CellId) → longest (walks_within standing target (suc n) cell) ≤ n → n ≤ m
      → walks_within standing target m cell ≡ walks_within standing target n cell
  unfolding walks_within
  no_more zero zero cell few le = refl
  no_more zero (suc m) cell few le = ap (λ (ws : List (List C)). [] ∷ ws) (none (standing cell)
      (subst (λ (k : ℕ). k ≤ 0) (longest-more 0 cell) few)) where
        none : (calls : List C) → greatest (λ call. 1 + longest (walks_within standing target 0 (Symbol (target call)))) calls ≤ 0
            → flat_map (behind m) calls ≡ []
        none [] le = refl
        none (call ∷ calls) le = absurd (omega (arith, le))
  no_more (suc n) zero cell few le = absurd (omega arith)
  no_more (suc n) (suc m) cell few le =
      ap (λ (ws : List (List C)). [] ∷ ws) (each (standing cell) (subst (λ (k : ℕ). k ≤ suc n) (longest-more (suc n) cell) few)
      (λ cell' few'. no_more n m cell' few' (omega arith))) where
        each : (calls : List C) → greatest (λ call. 1 + longest (walks_within standing target (suc n) (Symbol (target call)))) calls ≤ suc n
            → ((cell' : CellId) → longest (walks_within standing target (suc n) cell') ≤ n
            → walks_within standing target m cell' ≡ walks_within standing target n cell')
            → flat_map (behind m) calls ≡ flat_map (behind n) calls
        each [] le so = refl
        each (call ∷ calls) le so =
            let here : walks_within standing target m (Symbol (target call)) ≡ walks_within standing target n (Symbol (target call)) =
            so (Symbol (target call)) (omega (arith, le)) in
            let rest : flat_map (behind m) calls ≡ flat_map (behind n) calls = each calls (omega (arith, le)) so in
            ap (λ (ws : List (List C)). map (λ (v : List C). call ∷ v) ws ++ flat_map (behind m) calls) here
            ∙ ap (λ (ws : List (List C)). behind n call ++ ws) rest
