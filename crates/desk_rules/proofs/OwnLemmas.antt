-- A session's calls in a log.
use Rattle.std.proofs.Common.{◌≡◌, ℕ, ◌+◌, ◌-◌, ◌<◌, ◌≤◌, Bool, true, false, ◌==◌, List, [], ◌∷◌, ◌++◌, length, Some}
use Rattle.std.proofs.Common.{refl, ap, ◌∙◌, arith, rules}
use Rattle.std.proofs.lemmas.List.{length-append}
use Rattle.std.specs.Prelude.{slice_get}
use Rattle.undo_rules.specs.declared.log.Logged.{Logged}
use Rattle.desk_rules.specs.declared.seat_call.SeatCall.{SeatCall}
use Rattle.desk_rules.specs.Guards.{ones}
use Rattle.desk_rules.specs.Seats.{AreCallsRising, IsPastCall, last_behind, last_of, own_from, with_own}
use Rattle.desk_rules.proofs.FitLemmas.{length_with}

with_own-append : (b : Bool) (k : SeatCall) (ks xs : List SeatCall) → with_own b k (ks ++ xs) ≡ with_own b k ks ++ xs
with_own-append true k ks xs = refl
with_own-append false k ks xs = refl

-- one more call in the log
pub own_from-push : (s p : ℕ) (log : List Logged) (c : Logged)
    → own_from s p (log ++ c ∷ []) ≡ own_from s p log ++ with_own (c.session == s) (record { place = p + length log; logged = c }) []
own_from-push s p [] c =
    let e : p ≡ p + 0 = omega arith in
    ap (λ n. with_own (c.session == s) (record { place = n; logged = c }) []) e
own_from-push s p (d ∷ ds) c =
    let e : p + 1 + length ds ≡ p + length (d ∷ ds) = omega arith in
    ap (with_own (d.session == s) (record { place = p; logged = d })) (own_from-push s (p + 1) ds c)
    ∙ with_own-append (d.session == s) (record { place = p; logged = d }) (own_from s (p + 1) ds)
    (with_own (c.session == s) (record { place = p + 1 + length ds; logged = c }) [])
    ∙ ap (λ n. with_own (d.session == s) (record { place = p; logged = d }) (own_from s (p + 1) ds)
    ++ with_own (c.session == s) (record { place = n; logged = c }) []) e

ones_le : (b : Bool) → ones b ≤ 1
ones_le true = search rules
ones_le false = search rules

pub length-own-push : (s p : ℕ) (log : List Logged) (c : Logged)
    → length (own_from s p (log ++ c ∷ [])) ≡ length (own_from s p log) + ones (c.session == s)
length-own-push s p log c =
    let pushed = ap length (own_from-push s p log c) in
    let both = length-append (own_from s p log) (with_own (c.session == s) (record { place = p + length log; logged = c }) []) in
    let one = length_with (c.session == s) (record { place = p + length log; logged = c }) [] in
    omega (arith, pushed, both, one)

pub own_le : (s p : ℕ) (log : List Logged) → length (own_from s p log) ≤ length log
own_le s p [] = omega arith
own_le s p (c ∷ cs) =
    let h = own_le s (p + 1) cs in
    let l = length_with (c.session == s) (record { place = p; logged = c }) (own_from s (p + 1) cs) in
    let o = ones_le (c.session == s) in omega (arith, h, l, o)

-- the call that was made last, as `last` finds it
pub last_found : (k : SeatCall) (ks : List SeatCall) → slice_get (k ∷ ks) (length ks) ≡ Some (last_behind k ks)
last_found k [] = refl
last_found k (next ∷ ks) = last_found next ks

rising_first : (s p q : ℕ) (k : SeatCall) (ks : List SeatCall) → AreCallsRising s p (k ∷ ks) → (last_behind k ks).place < q → k.place < q
rising_first s p q k [] r below = below
rising_first s p q k (next ∷ ks) r below =
    let h = rising_first s (k.place + 1) q next ks r.2 below in let n = r.2.0 in omega (arith, h, n)

pub rising_push : (s p : ℕ) (own : List SeatCall) (k : SeatCall) → AreCallsRising s p own → p ≤ k.place → k.logged.session ≡ s
    → IsPastCall k.place (last_of own)
    → AreCallsRising s p (own ++ k ∷ [])
rising_push s p [] k r low is below = (low, is, tt)
rising_push s p (x ∷ []) k r low is below = (r.0, r.1, ((let b : x.place < k.place = below in omega (arith, b)), is, tt))
rising_push s p (x ∷ y ∷ ys) k r low is below =
    let f = rising_first s (x.place + 1) k.place y ys r.2 below in
    let n = r.2.0 in
    (r.0, r.1, rising_push s (x.place + 1) (y ∷ ys) k r.2 (omega (arith, f, n)) is below)

pub last_as : (own : List SeatCall) → slice_get own (length own - 1) ≡ last_of own
last_as [] = refl
last_as (k ∷ ks) =
    let e : length (k ∷ ks) - 1 ≡ length ks = omega arith in
    ap (slice_get (k ∷ ks)) e ∙ last_found k ks
