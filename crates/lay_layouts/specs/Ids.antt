-- The order of item ids.
-- Source: this project's own.
-- Checked on: 0.0.2 is before 1.1.1; 1.1.9 is before 1.2.1; 1.2.9 is before 2.1.1.
use Rattle.std.specs.Prelude.{ℕ, refl}
use Rattle.std.specs.declared.cmp.Ordering.{Ordering}
use Rattle.std.specs.Ordering.{nat_cmp, ordering_then}
use Rattle.std.specs.Coded.{Coded, code_by, coded×, coded_ℕ}
use Rattle.lay_layouts.specs.declared.id.ItemId.{ItemId}

-- by session, then transaction, then number
abbrev pub id_cmp : ItemId → ItemId → Ordering
id_cmp a b = ordering_then (nat_cmp a.session b.session) (ordering_then (nat_cmp a.txn b.txn) (nat_cmp a.seq b.seq))

-- an id is stored as its numbers
abbrev pub coded_id : Coded ItemId
coded_id =
    code_by (ℕ × (ℕ × ℕ)) (coded× coded_ℕ (coded× coded_ℕ coded_ℕ))
    (λ a. (a.session, (a.txn, a.seq))) (λ p. record { session = p.0; txn = p.1.0; seq = p.1.1 }) (λ _. refl)
