-- The order of passes as `Ord` computes it.
use Rattle.std.proofs.Common.{◌≡◌, ⊎_elim, inl, inr, ◌<◌, ℕ}
use Rattle.std.specs.declared.cmp.Ordering.TheVariants.{Less, Equal}
use Rattle.std.specs.Ordering.{nat_cmp, on, then_cmp}
use Rattle.std.specs.Cmp.{IsTotalOrder}
use Rattle.std.proofs.lemmas.Cmp.{nat_cmp_total, on_total, then_total}
use Rattle.lay_point.proofs.Rising.{IsStrictOrder}
use Rattle.lay_point.proofs.NumberLaws.{numbers_are_strict}
use Rattle.lay_point.proofs.BoolLaws.{both_equal}
use Rattle.snap_chains.specs.Owners.{IsOwnerBefore}
use Rattle.snap_chains.proofs.OddLemmas.{IsSortOrder}
use Rattle.snap_chains.proofs.OwnerOrder.{
  strict_by,
  first_less,
  owner_cmp_total,
  number_less,
  number_exact,
  owner_less,
  owner_exact,
  owners_are_strict,
}
use Rattle.snap_chains.specs.declared.pass.Pass.{Pass}
use Rattle.snap_chains.specs.Reading.{NumberedEdge, numbered_edge, pass_eq, pass_cmp, owner_cmp, AreEndsBefore, IsPassBefore}
use Rattle.snap_chains.proofs.ViewLemmas.{pass_eq-Decides}

pub ends_are_strict : IsStrictOrder AreEndsBefore
ends_are_strict = strict_by (λ (e : NumberedEdge). e.0) (λ (e : NumberedEdge). e.1) (λ (m n : ℕ). m < n) (λ (m n : ℕ). m < n)
    numbers_are_strict numbers_are_strict

passes_are_strict : IsStrictOrder IsPassBefore
passes_are_strict = strict_by numbered_edge (λ (p : Pass). p.owner) AreEndsBefore IsOwnerBefore ends_are_strict owners_are_strict

pass_cmp_total : IsTotalOrder pass_cmp
pass_cmp_total = then_total (on_total (λ (p : Pass). p.low) nat_cmp_total)
    (then_total (on_total (λ (p : Pass). p.high) nat_cmp_total) (on_total (λ (p : Pass). p.owner) owner_cmp_total))

pass_less : (p q : Pass) → pass_cmp p q ≡ Less → IsPassBefore p q
pass_less p q h = ⊎_elim
    (λ less. inl (inl (number_less p.low q.low less)))
    (λ (tie : (nat_cmp p.low q.low ≡ Equal) × (then_cmp (on (λ (r : Pass). r.high) nat_cmp) (on (λ (r : Pass). r.owner) owner_cmp) p q
    ≡ Less)).
    let low = number_exact p.low q.low tie.0 in
    ⊎_elim
    (λ less. inl (inr (low, number_less p.high q.high less)))
    (λ (both : (nat_cmp p.high q.high ≡ Equal) × (owner_cmp p.owner q.owner ≡ Less)).
    let high = number_exact p.high q.high both.0 in
    inr ((λ i. (low i, high i)), owner_less p.owner q.owner both.1))
    (first_less (nat_cmp p.high q.high) (owner_cmp p.owner q.owner) tie.1))
    (first_less (nat_cmp p.low q.low) (then_cmp (on (λ (r : Pass). r.high) nat_cmp) (on (λ (r : Pass). r.owner) owner_cmp) p q) h)

pass_exact : (p q : Pass) → pass_cmp p q ≡ Equal → p ≡ q
pass_exact p q h =
    let a = both_equal (nat_cmp p.low q.low) (then_cmp (on (λ (r : Pass). r.high) nat_cmp) (on (λ (r : Pass). r.owner) owner_cmp) p q) h in
    let b = both_equal (nat_cmp p.high q.high) (owner_cmp p.owner q.owner) a.1 in
    let low = number_exact p.low q.low a.0 in
    let high = number_exact p.high q.high b.0 in
    let owner = owner_exact p.owner q.owner b.1 in
    λ i. record { low = low i; high = high i; owner = owner i }

pub pass_order : IsSortOrder pass_cmp pass_eq IsPassBefore
pass_order = record {
  total = pass_cmp_total;
  less = pass_less;
  exact = pass_exact;
  strict = passes_are_strict;
  decides = pass_eq-Decides;
}
