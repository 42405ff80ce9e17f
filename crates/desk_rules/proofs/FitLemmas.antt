-- Calls of a session at rising places, all in the log, are all its calls where they are as many.
use Rattle.std.proofs.Common.{◌≡◌, ℕ, ◌+◌, ◌-◌, ◌≤◌, Bool, true, false, ◌==◌, List, [], ◌∷◌, length, Some, suc}
use Rattle.std.proofs.Common.{refl, ap, sym, ◌∙◌, subst, arith, rules, inl, inr}
use Rattle.std.proofs.lemmas.Bool.{cases_eq}
use Rattle.std.proofs.lemmas.Bool.Decides.{nat_tests}
use Rattle.std.specs.List.{AllByRecursion}
use Rattle.std.specs.Prelude.{slice_get}
use Rattle.std.proofs.lemmas.Option.{same_Some}
use Rattle.undo_rules.specs.declared.log.Logged.{Logged}
use Rattle.desk_rules.specs.declared.seat_call.SeatCall.{SeatCall}
use Rattle.desk_rules.specs.Seats.{AreCallsRising, LogHasCall, own_from, with_own}
use Rattle.desk_rules.specs.Guards.{ones}

-- the log from this place on has the call
abbrev pub IsFrom : ℕ → List Logged → SeatCall → Type 0
IsFrom p log k = slice_get log (k.place - p) ≡ Some k.logged

abbrev pub AreFrom : ℕ → List Logged → List SeatCall → Type 0
AreFrom p log own = AllByRecursion (IsFrom p log) own

rising_lower : (s p q : ℕ) (own : List SeatCall) → q ≤ p → AreCallsRising s p own → AreCallsRising s q own
rising_lower s p q [] less r = tt
rising_lower s p q (k ∷ ks) less r = ((let l = r.0 in omega (arith, l, less)), r.1, r.2)

shift_one : (p place : ℕ) (c : Logged) (cs : List Logged) → p + 1 ≤ place
    → slice_get (c ∷ cs) (place - p) ≡ slice_get cs (place - (p + 1))
shift_one p place c cs low = let e : place - p ≡ suc (place - (p + 1)) = omega (arith, low) in ap (slice_get (c ∷ cs)) e

shift : (s p : ℕ) (c : Logged) (cs : List Logged) (own : List SeatCall) → AreCallsRising s (p + 1) own → AreFrom p (c ∷ cs) own
    → AreFrom (p + 1) cs own
shift s p c cs [] r all = tt
shift s p c cs (k ∷ ks) r all = (
  sym (shift_one p k.place c cs r.0) ∙ all.0,
  shift s p c cs ks (rising_lower s (k.place + 1) (p + 1) ks (let l = r.0 in omega (arith, l)) r.2) all.1,
)

pub length_with : (b : Bool) (k : SeatCall) (ks : List SeatCall) → length (with_own b k ks) ≡ length ks + ones b
length_with true k ks = search rules
length_with false k ks = search rules

here : (p : ℕ) (c : Logged) (cs : List Logged) (k : SeatCall) → k.place ≡ p → IsFrom p (c ∷ cs) k → c ≡ k.logged
here p c cs k at is =
    let z : k.place - p ≡ 0 = omega (arith, at) in
    same_Some c k.logged (sym (ap (slice_get (c ∷ cs)) z) ∙ is)

same_session : (a b : ℕ) → a ≡ b → (a == b) ≡ true
same_session a b e = grind (arith, nat_tests)

pub fits : (s p : ℕ) (log : List Logged) (own : List SeatCall) → AreCallsRising s p own → AreFrom p log own
    → length own ≤ length (own_from s p log)
fits s p log [] r all = omega arith
fits s p [] (k ∷ ks) r all = absurd (let h = all.0 in grind rules)
fits s p (c ∷ cs) (k ∷ ks) r all = elim (cases_eq k.place p) [
  | inl at ↦
      let is : c ≡ k.logged = here p c cs k at all.0 in
      let yes : (c.session == s) ≡ true = same_session c.session s (ap (λ (l : Logged). l.session) is ∙ r.1) in
      let rest : AreCallsRising s (p + 1) ks = subst (λ n. AreCallsRising s (n + 1) ks) at r.2 in
      let more = fits s (p + 1) cs ks rest (shift s p c cs ks rest all.1) in
      let len = length_with (c.session == s) (record { place = p; logged = c }) (own_from s (p + 1) cs) in
      let one : ones (c.session == s) ≡ 1 = ap ones yes in
      omega (arith, more, len, one)
  | inr other ↦
      let later : p + 1 ≤ k.place = (let l = r.0 in grind (arith, nat_tests)) in
      let rest : AreCallsRising s (p + 1) (k ∷ ks) = (later, r.1, r.2) in
      let more = fits s (p + 1) cs (k ∷ ks) rest (shift s p c cs (k ∷ ks) rest all) in
      let len = length_with (c.session == s) (record { place = p; logged = c }) (own_from s (p + 1) cs) in
      omega (arith, more, len)
]

nothing : (ks : List SeatCall) → length ks ≡ 0 → [] ≡ ks
nothing [] e = refl
nothing (k ∷ ks) e = absurd (omega (arith, e))

kept_as : (k : SeatCall) (p : ℕ) (c : Logged) → k.place ≡ p → k.logged ≡ c → k ≡ record { place = p; logged = c }
kept_as k p c at is = λ i. record { place = at i; logged = is i }

tail_same : (b : Bool) (k : SeatCall) (own rest : List SeatCall) → length own ≡ length (with_own b k rest) → length own ≤ length rest
    → (length own ≡ length rest → own ≡ rest) → own ≡ with_own b k rest
tail_same true k own rest len less same = absurd (omega (arith, len, less))
tail_same false k own rest len less same = same len

pub same_own : (s p : ℕ) (log : List Logged) (own : List SeatCall) → AreCallsRising s p own → AreFrom p log own
    → length own ≡ length (own_from s p log)
    → own ≡ own_from s p log
same_own s p log [] r all len = nothing (own_from s p log) (sym len)
same_own s p [] (k ∷ ks) r all len = absurd (let h = all.0 in grind rules)
same_own s p (c ∷ cs) (k ∷ ks) r all len = elim (cases_eq k.place p) [
  | inl at ↦
      let is : c ≡ k.logged = here p c cs k at all.0 in
      let yes : (c.session == s) ≡ true = same_session c.session s (ap (λ (l : Logged). l.session) is ∙ r.1) in
      let rest : AreCallsRising s (p + 1) ks = subst (λ n. AreCallsRising s (n + 1) ks) at r.2 in
      let fromr = shift s p c cs ks rest all.1 in
      let lens = length_with (c.session == s) (record { place = p; logged = c }) (own_from s (p + 1) cs) in
      let one : ones (c.session == s) ≡ 1 = ap ones yes in
      let less : length ks ≡ length (own_from s (p + 1) cs) = omega (arith, len, lens, one) in
      ap (λ (x : SeatCall). x ∷ ks) (kept_as k p c at (sym is))
      ∙ ap (λ (xs : List SeatCall). record { place = p; logged = c } ∷ xs) (same_own s (p + 1) cs ks rest fromr less)
      ∙ ap (λ b. with_own b (record { place = p; logged = c }) (own_from s (p + 1) cs)) (sym yes)
  | inr other ↦
      let later : p + 1 ≤ k.place = (let l = r.0 in grind (arith, nat_tests)) in
      let rest : AreCallsRising s (p + 1) (k ∷ ks) = (later, r.1, r.2) in
      let fromr = shift s p c cs (k ∷ ks) rest all in
      tail_same (c.session == s) (record { place = p; logged = c }) (k ∷ ks) (own_from s (p + 1) cs) len
      (fits s (p + 1) cs (k ∷ ks) rest fromr) (same_own s (p + 1) cs (k ∷ ks) rest fromr)
]

pub from_start : (log : List Logged) (own : List SeatCall) → AllByRecursion (LogHasCall log) own → AreFrom 0 log own
from_start log [] all = tt
from_start log (k ∷ ks) all = (let e : k.place - 0 ≡ k.place = omega arith in ap (slice_get log) e ∙ all.0, from_start log ks all.1)
