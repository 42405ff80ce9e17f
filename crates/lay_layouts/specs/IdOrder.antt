-- The order of ids is total, and only equal ids tie.
use Rattle.std.specs.Prelude.{ℕ}
use Rattle.std.specs.Ordering.{nat_cmp}
use Rattle.std.specs.Cmp.{IsTotalOrder, nat_cmp_total}
use Rattle.std.specs.FinMap.{IsAntisymmetric}
use Rattle.std.proofs.Common.{ap}
use Rattle.std.proofs.lemmas.Cmp.{on_total, then_total}
use Rattle.std.proofs.lemmas.Map.Lookups.{exact_pairs, exact_unsigned}
use Rattle.lay_layouts.specs.Ids.{id_cmp}

pub ids_total : IsTotalOrder id_cmp
ids_total =
    then_total (on_total (λ a. a.session) nat_cmp_total) (then_total (on_total (λ a. a.txn) nat_cmp_total)
    (on_total (λ a. a.seq) nat_cmp_total))

pub ids_exact : IsAntisymmetric id_cmp
ids_exact a b h =
    ap (λ (p : ℕ × (ℕ × ℕ)). record { session = p.0; txn = p.1.0; seq = p.1.1 })
    (exact_pairs nat_cmp _ exact_unsigned (exact_pairs nat_cmp nat_cmp exact_unsigned exact_unsigned) (a.session, (a.txn, a.seq))
    (b.session, (b.txn, b.seq)) h)
