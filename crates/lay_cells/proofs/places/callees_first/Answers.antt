use Rattle.std.proofs.Common.{◌≡◌, ◌∙◌, ℕ, List, [], ◌∷◌, ◌++◌, ◌+◌, map, length, ap, arith, sym, subst}
use Rattle.std.proofs.lemmas.List.{map-append}
use Rattle.lay_cells.specs.Places.{ArePositions}
use Rattle.lay_cells.proofs.PlaceLemmas.{ArePositions-permutation, ArePositions-push}
use Rattle.lay_cells.proofs.places.callees_first.Goals as goal

-- one more position
pub loop-position-preserved : goal.loop-position-preserved
loop-position-preserved c =
    let entry : ℕ × ℕ = _ in
    let pushed : c.push.new.self.items ≡ c.loop-position.order.items ++ entry ∷ [] = c.in_ok-push.ensures.items in
    let positions : map (λ (e : ℕ × ℕ). e.1) c.push.new.self.items
    ≡ map (λ (e : ℕ × ℕ). e.1) c.loop-position.order.items ++ c.loop-position.position ∷ [] =
    ap (map (λ (e : ℕ × ℕ). e.1)) pushed ∙ map-append (λ (e : ℕ × ℕ). e.1) c.loop-position.order.items (entry ∷ []) in
    subst (λ (xs : List ℕ). ArePositions xs (c.loop-position.position + 1)) (sym positions)
    (ArePositions-push _ c.loop-position.position c.loop-position.invariant)

pub returns : goal.returns
returns c =
    let end : c.loop-position.position ≡ length c.args.rows.now.items =
    omega (arith, c.in_ok-places.ensures, ap length c.deref-place-items.ensures.value, c.loop-position-test.false) in
    ArePositions-permutation c.loop-position.order.items c.sort_unstable.new.self.items _ c.sort_unstable.ensures.permutation
    (subst (λ (n : ℕ). ArePositions (map (λ (e : ℕ × ℕ). e.1) c.loop-position.order.items) n) end c.loop-position.invariant)
