-- What is behind the lock at the start, and what its limit is behind a call.
use Rattle.std.proofs.Common.{◌≡◌, ℕ, ◌≤◌, List, Option, None, Some, zero, suc, refl, ap, sym, subst}
use Rattle.std.proofs.Common.{replicate, slice_index}
use Rattle.std.proofs.lemmas.List.{length-replicate}
use Rattle.lay_layouts.specs.Layout.{Layout}
use Rattle.undo_rules.specs.declared.log.Answer.{Answer}
use Rattle.undo_rules.specs.declared.log.Call.{Call}
use Rattle.undo_rules.specs.Books.{History}
use Rattle.undo_rules.specs.Steps.{fresh}
use Rattle.desk_rules.specs.Guards.{IsGuard}
use Rattle.desk_rules.specs.Legal.{Grew, Stepped}
use Rattle.desk_rules.proofs.LegalLemmas.{grown, none_pending}

pub limit_kept : (h next : History) (session : ℕ) (call : Call) (answer : Option Answer) → Stepped h session call answer next
    → next.limit ≡ h.limit
limit_kept h next session call None stepped =
    let same : next ≡ h = grown h next session call None stepped in ap (λ (g : History). g.limit) same
limit_kept h next session call (Some answer) stepped =
    let grew : Grew h session call answer next = grown h next session call (Some answer) stepped in grew.limit

pub base_kept : (h next : History) (session : ℕ) (call : Call) (answer : Option Answer) → Stepped h session call answer next
    → next.base ≡ h.base
base_kept h next session call None stepped =
    let same : next ≡ h = grown h next session call None stepped in ap (λ (g : History). g.base) same
base_kept h next session call (Some answer) stepped =
    let grew : Grew h session call answer next = grown h next session call (Some answer) stepped in grew.base

zero_at : (n i : ℕ) → slice_index (replicate n 0) i ≡ 0
zero_at zero i = refl
zero_at (suc n) zero = refl
zero_at (suc n) (suc i) = zero_at n i

first_guard : (n : ℕ) (base : Layout) (limit : ℕ) → n ≤ 64
    → IsGuard (record { sessions = n; book = fresh base limit; counts = replicate n 0; total = 0 })
first_guard n base limit few = record {
  few = few;
  legal = refl;
  pending = none_pending 64;
  counts = record { all = length-replicate n 0; each = λ i below. zero_at n i };
  total = refl;
}

-- the same, as the fields have it
pub new_guard : (n : ℕ) (book : History) (limit : ℕ) (counts : List ℕ) (total : ℕ) → n ≤ 64 → book ≡ fresh book.base limit
    → counts ≡ replicate n 0
    → total ≡ 0 → IsGuard (record { sessions = n; book = book; counts = counts; total = total }) × (limit ≡ book.limit)
new_guard n book limit counts total few book-is counts-are total-is = (
  subst (λ (b : History). IsGuard (record { sessions = n; book = b; counts = counts; total = total })) (sym book-is)
      (subst (λ (cs : List ℕ). IsGuard (record { sessions = n; book = fresh book.base limit; counts = cs; total = total }))
      (sym counts-are)
      (subst (λ (t : ℕ). IsGuard (record { sessions = n; book = fresh book.base limit; counts = replicate n 0; total = t }))
      (sym total-is)
      (first_guard n book.base limit few))),
  sym (ap (λ (h : History). h.limit) book-is),
)
