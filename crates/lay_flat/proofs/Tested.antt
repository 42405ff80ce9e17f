-- The test of the walks, from their depth and number.
use Rattle.std.proofs.Common.{◌≡◌, ◌∙◌, ◌≤◌, ◌<◌, ℕ, Bool, true, false, Ok, Err, cond, length, ap, arith, nat_lt, refl}
use Rattle.std.proofs.lemmas.Bool.Decides.{nat_tests}
use Rattle.lay_cells.specs.declared.cell_id.CellId.{CellId}
use Rattle.lay_cells.specs.Tallies.{counted}
use Rattle.lay_cells.specs.WalkLists.{longest}
use Rattle.lay_layouts.specs.Layout.{Layout}
use Rattle.lay_flat.specs.declared.fault.FlatFault.TheVariants.{TooDeep, TooMany}
use Rattle.lay_flat.specs.declared.flat.TheConstants.{MAX_DEPTH, MAX_RINGS}
use Rattle.lay_flat.specs.Ends.{walks_of}
use Rattle.lay_flat.specs.Flattening.{tested}

pub is_above : (a b : ℕ) → a < b → nat_lt a b ≡ true
is_above a b h = grind (arith, nat_tests)

pub is_not_above : (a b : ℕ) → b ≤ a → nat_lt a b ≡ false
is_not_above a b h = grind (arith, nat_tests)

module _ (layout : Layout) (cell : CellId) (depth walks : ℕ) (deep : depth ≡ longest (walks_of layout cell))
    (many : walks ≡ counted (length (walks_of layout cell))) where
  pub too_deep : MAX_DEPTH < depth → tested layout cell ≡ Err TooDeep
  unfolding tested
  too_deep above = ap (λ b. cond b (Err TooDeep) (cond (nat_lt MAX_RINGS (length (walks_of layout cell))) (Err TooMany) (Ok tt)))
      (is_above MAX_DEPTH (longest (walks_of layout cell)) (omega (arith, deep, above)))

  pub too_many : depth ≤ MAX_DEPTH → MAX_RINGS < walks → tested layout cell ≡ Err TooMany
  unfolding tested
  too_many within above =
      ap (λ b. cond b (Err TooDeep) (cond (nat_lt MAX_RINGS (length (walks_of layout cell))) (Err TooMany) (Ok tt)))
      (is_not_above MAX_DEPTH (longest (walks_of layout cell)) (omega (arith, deep, within)))
      ∙ ap (λ b. cond b (Err TooMany) (Ok tt)) (is_above MAX_RINGS (length (walks_of layout cell)) (omega (arith, many, above)))

  pub passes : depth ≤ MAX_DEPTH → walks ≤ MAX_RINGS → tested layout cell ≡ Ok tt
  unfolding tested
  passes within few =
      ap (λ b. cond b (Err TooDeep) (cond (nat_lt MAX_RINGS (length (walks_of layout cell))) (Err TooMany) (Ok tt)))
      (is_not_above MAX_DEPTH (longest (walks_of layout cell)) (omega (arith, deep, within)))
      ∙ ap (λ b. cond b (Err TooMany) (Ok tt)) (is_not_above MAX_RINGS (length (walks_of layout cell)) (omega (arith, many, few)))

-- what passed the test isn't deeper
pub shallow : (layout : Layout) (cell : CellId) → tested layout cell ≡ Ok tt → longest (walks_of layout cell) ≤ MAX_DEPTH
unfolding tested
shallow layout cell passed = by_test (nat_lt MAX_DEPTH (longest (walks_of layout cell))) refl passed where
  by_test : (b : Bool) → nat_lt MAX_DEPTH (longest (walks_of layout cell)) ≡ b
      → cond b (Err TooDeep) (cond (nat_lt MAX_RINGS (length (walks_of layout cell))) (Err TooMany) (Ok (tt {0}))) ≡ Ok (tt {0})
      → longest (walks_of layout cell) ≤ MAX_DEPTH
  by_test true is e = absurd cc
  by_test false is e = grind (arith, nat_tests)
