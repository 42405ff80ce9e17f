-- Pairs of elements and places, in their order.
use Rattle.std.proofs.Common.{◌≡◌, ℕ, ◌==◌, true, false, not, cond, ◌||◌, ◌&&◌, ap, sym, ◌∙◌}
use Rattle.std.specs.Cmp.{IsTotalOrder}
use Rattle.std.specs.FinMap.{nat_cmp-IsAntisymmetric}
use Rattle.std.specs.FinSet.{IsAntisymmetric, contains-insert, contains-remove, insert, remove}
use Rattle.std.specs.Ordering.{eq_by_cmp, nat_cmp}
use Rattle.txn_commands.specs.declared.element.Element.{Element}
use Rattle.txn_commands.specs.Elements.{element_cmp, element_eq, elements_exact, elements_total}
use Rattle.txn_marks.proofs.SetLemmas.{not_cond, or_cond}
use Rattle.undo_index.specs.Listed.{Listed, is_listed, pair_cmp}
use Rattle.undo_index.proofs.UnderLemmas.{keyed_eq, keyed_total}
use Rattle.lay_point.proofs.BoolLaws.{both_equal}

-- ---- their order

pub pairs_total : IsTotalOrder pair_cmp
pairs_total = keyed_total elements_total

pub pairs_exact : IsAntisymmetric pair_cmp
pairs_exact a b h =
    let parts = both_equal (element_cmp a.0 b.0) (nat_cmp a.1 b.1) h in
    let first : a.0 ≡ b.0 = elements_exact a.0 b.0 parts.0 in
    let second : a.1 ≡ b.1 = nat_cmp-IsAntisymmetric a.1 b.1 parts.1 in
    λ i. (first i, second i)

-- pairs are equal where both parts are
pub pair_eq : (e f : Element) (p q : ℕ) → eq_by_cmp pair_cmp (e, p) (f, q) ≡ (element_eq e f && (p == q))
pair_eq e f p q = keyed_eq element_cmp e f p q

-- ---- listed places

pub listed_more : (s : Listed) (x e : Element) (place p : ℕ) →
    is_listed (insert s (x, place)) e p ≡ ((element_eq e x && (p == place)) || is_listed s e p)
listed_more s x e place p =
    contains-insert pairs_total s (x, place) (e, p) ∙ ap (λ b. b || is_listed s e p) (pair_eq e x p place)

pub listed_less : (s : Listed) (x e : Element) (place p : ℕ) →
    is_listed (remove s (x, place)) e p ≡ (not (element_eq e x && (p == place)) && is_listed s e p)
listed_less s x e place p =
    contains-remove pairs_total s (x, place) (e, p) ∙ ap (λ b. not b && is_listed s e p) (pair_eq e x p place)

-- the same as a choice
pub more_so : (s : Listed) (x : Element) (place : ℕ) (e : Element) (p : ℕ) →
    is_listed (insert s (x, place)) e p ≡ cond (element_eq e x && (p == place)) true (is_listed s e p)
more_so s x place e p = listed_more s x e place p ∙ sym (or_cond (element_eq e x && (p == place)) (is_listed s e p))

pub less_so : (s : Listed) (x : Element) (place : ℕ) (e : Element) (p : ℕ) →
    is_listed (remove s (x, place)) e p ≡ cond (element_eq e x && (p == place)) false (is_listed s e p)
less_so s x place e p = listed_less s x e place p ∙ sym (not_cond (element_eq e x && (p == place)) (is_listed s e p))
