use Rattle.std.proofs.Common.{◌≡◌, ℕ, ◌+◌, ◌==◌, List, [], ◌∷◌, ◌++◌, Bool, length, ap, sym, ◌∙◌, refl, arith, rules}
use Rattle.job_text.specs.Order.{order_from, order_number_text}
use Rattle.cif_write.proofs.BegunLemmas.{Begun-all, Begun-nothing, Begun-then}
use Rattle.job_text.proofs.order.put_order.Goals as goal

-- a number, then those behind it
order_from-step : (place number : ℕ) (last : Bool) (rest behind : List ℕ) → rest ≡ number ∷ behind → last ≡ (length behind == 0)
    → order_from place rest ≡ order_number_text place last number ++ order_from (place + 1) behind
order_from-step place number last rest behind first is =
    ap (order_from place) first
    ∙ ap (λ (b : Bool). order_number_text place b number ++ order_from (place + 1) behind) (sym is)

-- no numbers have no text
no_numbers : (place : ℕ) (rest : List ℕ) → length rest ≡ 0 → order_from place rest ≡ []
no_numbers place [] none = refl
no_numbers place (number ∷ behind) none = absurd (omega arith)

pub loop-session-init : goal.loop-session-init
loop-session-init g c = record { numbers = Begun-nothing _ _ _; count = omega arith }

pub loop-session-preserved : goal.loop-session-preserved
loop-session-preserved g c =
    let rest = c.loop-session.rest.now in
    let behind = c.in-Some.behind.now in
    let first : rest ≡ c.in-Some.session.now ∷ behind = search rules in
    let last : c.is_empty.result ≡ (length behind == 0) = search rules in
    record {
      numbers = Begun-then (order_from (c.loop-session.index + 1) behind) c.loop-session.invariant.numbers c.put_number.ensures
          (order_from-step c.loop-session.index c.in-Some.session.now c.is_empty.result rest behind first last);
      count = omega (arith, c.loop-session.invariant.count, ap length first);
    }

pub returns : goal.returns
returns g c =
    let none : length c.loop-session.rest.now ≡ 0 = search rules in
    Begun-all c.loop-session.invariant.numbers (no_numbers c.loop-session.index c.loop-session.rest.now none)
