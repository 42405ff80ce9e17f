-- Counting the calls of all seats: as many as the log has, so each seat has all of its session's.
use Rattle.std.proofs.Common.{◌≡◌, ℕ, ◌+◌, ◌<◌, ◌≤◌, Bool, true, false, ◌==◌, ◌&&◌, ◌||◌, List, [], ◌∷◌, ◌++◌, length, Option, None}
use Rattle.std.proofs.Common.{Some, zero, suc}
use Rattle.std.proofs.Common.{refl, ap, sym, ◌∙◌, subst, arith, rules, inl, inr, nat_le, cond}
use Rattle.std.proofs.lemmas.Bool.{cases_Bool}
use Rattle.std.proofs.lemmas.Bool.Decides.{nat_tests}
use Rattle.std.proofs.Common.{take, drop, map}
use Rattle.std.proofs.Math.Seq.{take-append_seam}
use Rattle.std.specs.List.{AllByRecursion}
use Rattle.lay_layouts.specs.Layout.{Layout}
use Rattle.undo_rules.specs.declared.log.Logged.{Logged}
use Rattle.undo_rules.specs.Books.{History}
use Rattle.undo_rules.specs.Steps.{fresh}
use Rattle.desk_rules.specs.declared.seat_call.SeatCall.{SeatCall}
use Rattle.desk_rules.specs.Close.{AreSeatsRising, HasAll, IsClosed, Shows, has_seat, missing_call, missing_place}
use Rattle.desk_rules.specs.Close.{or_missing, own_total}
use Rattle.desk_rules.specs.Guards.{ones}
use Rattle.desk_rules.specs.Legal.{Desk, IsFrom, IsLegal}
use Rattle.desk_rules.specs.Seats.{AreCallsRising, LogHasCall, Seat, is_in, own_calls, own_from, with_own}
use Rattle.desk_rules.proofs.FitLemmas.{fits, from_start, length_with, same_own}
use Rattle.desk_rules.proofs.GuardLemmas.{is_in-is}

-- ---- seats of all sessions, each once

abbrev pub up : ℕ → (ℕ → ℕ) → ℕ
up zero f = 0
up (suc n) f = up n f + f (suc n)

abbrev pub weigh : (ℕ → ℕ) → List Seat → ℕ
weigh f [] = 0
weigh f (seat ∷ seats) = f seat.session + weigh f seats

abbrev without : ℕ → List Seat → List Seat
without n [] = []
without n (seat ∷ seats) = cond (seat.session == n) seats (seat ∷ without n seats)

weigh_without : (n : ℕ) (f : ℕ → ℕ) (seats : List Seat) → has_seat n seats ≡ true → weigh f seats ≡ f n + weigh f (without n seats)
weigh_without n f [] has = absurd (grind rules)
weigh_without n f (seat ∷ seats) has = elim (cases_Bool (seat.session == n)) [
  | inl there_is ↦
      let e : seat.session ≡ n = grind (arith, nat_tests) in
      let w : without n (seat ∷ seats) ≡ seats = ap (λ b. cond b seats (seat ∷ without n seats)) there_is in
      ap (λ m. f m + weigh f seats) e ∙ ap (λ l. f n + weigh f l) (sym w)
  | inr there_isnt ↦
      let w : without n (seat ∷ seats) ≡ seat ∷ without n seats = ap (λ b. cond b seats (seat ∷ without n seats)) there_isnt in
      let there : has_seat n seats ≡ true = ap (λ b. b || has_seat n seats) (sym there_isnt) ∙ has in
      let h = weigh_without n f seats there in
      let k = ap (weigh f) w in
      omega (arith, h, k)
]

length_without : (n : ℕ) (seats : List Seat) → has_seat n seats ≡ true → length seats ≡ 1 + length (without n seats)
length_without n [] has = absurd (grind rules)
length_without n (seat ∷ seats) has = elim (cases_Bool (seat.session == n)) [
  | inl there_is ↦
      let k : length (without n (seat ∷ seats)) ≡ length seats = ap (λ b. length (cond b seats
      (seat ∷ without n seats))) there_is in omega (arith, k)
  | inr there_isnt ↦
      let k : length (without n (seat ∷ seats)) ≡ length (seat ∷ without n seats) = ap (λ b. length (cond b seats
      (seat ∷ without n seats))) there_isnt in
      let there : has_seat n seats ≡ true = ap (λ b. b || has_seat n seats) (sym there_isnt) ∙ has in
      let h = length_without n seats there in
      omega (arith, h, k)
]

has_without : (n t : ℕ) (seats : List Seat) → (t ≡ n → ⊥) → has_seat t seats ≡ true → has_seat t (without n seats) ≡ true
has_without n t [] other has = has
has_without n t (seat ∷ seats) other has = elim (cases_Bool (seat.session == n)) [
  | inl there_is ↦
      let there_isnt : (seat.session == t) ≡ false = grind (arith, nat_tests) in
      let there : has_seat t seats ≡ true = ap (λ b. b || has_seat t seats) (sym there_isnt) ∙ has in
      ap (λ b. has_seat t (cond b seats (seat ∷ without n seats))) there_is ∙ there
  | inr there_isnt ↦
      ap (λ b. has_seat t (cond b seats (seat ∷ without n seats))) there_isnt
      ∙ elim (cases_Bool (seat.session == t)) [
        | inl there_is ↦ ap (λ b. b || has_seat t (without n seats)) there_is
        | inr there_isnt ↦
            let there : has_seat t seats ≡ true = ap (λ b. b || has_seat t seats) (sym there_isnt) ∙ has in
            ap (λ b. b || has_seat t (without n seats)) there_isnt ∙ has_without n t seats other there
      ]
]

pub each_once : (n : ℕ) (f : ℕ → ℕ) (seats : List Seat) → length seats ≤ n → HasAll n seats → weigh f seats ≡ up n f
each_once zero f [] few all = refl
each_once zero f (seat ∷ seats) few all = absurd (omega (arith, few))
each_once (suc n) f seats few all =
    let has = all (suc n) (omega arith) (omega arith) in
    let len = length_without (suc n) seats has in
    let rest = each_once n f (without (suc n) seats) (omega (arith, len, few))
    (λ t low high. has_without (suc n) t seats (λ e. omega (arith, e, high)) (all t low (omega (arith, high)))) in
    let w = weigh_without (suc n) f seats has in
    omega (arith, rest, w)

-- ---- the calls of all sessions

abbrev pub calls_of : ℕ → List Logged → ℕ
calls_of s [] = 0
calls_of s (c ∷ cs) = ones (c.session == s) + calls_of s cs

abbrev pub within : ℕ → List Logged → ℕ
within n [] = 0
within n (c ∷ cs) = ones (nat_le 1 c.session && nat_le c.session n) + within n cs

ones_step : (n m : ℕ) → ones (nat_le 1 m && nat_le m (suc n)) ≡ ones (nat_le 1 m && nat_le m n) + ones (m == suc n)
ones_step n m = grind (arith, nat_tests)

ones_none : (m : ℕ) → ones (nat_le 1 m && nat_le m 0) ≡ 0
ones_none m = grind (arith, nat_tests)

within_none : (log : List Logged) → within 0 log ≡ 0
within_none [] = refl
within_none (c ∷ cs) = let a = ones_none c.session in let b = within_none cs in omega (arith, a, b)

within_step : (n : ℕ) (log : List Logged) → within (suc n) log ≡ within n log + calls_of (suc n) log
within_step n [] = refl
within_step n (c ∷ cs) = let a = ones_step n c.session in let b = within_step n cs in omega (arith, a, b)

pub up_calls : (n : ℕ) (log : List Logged) → up n (λ s. calls_of s log) ≡ within n log
up_calls zero log = sym (within_none log)
up_calls (suc n) log = let a = up_calls n log in let b = within_step n log in omega (arith, a, b)

ones_most : (b : Bool) → ones b ≤ 1
ones_most true = search rules
ones_most false = search rules

within_le : (n : ℕ) (log : List Logged) → within n log ≤ length log
within_le n [] = omega arith
within_le n (c ∷ cs) =
    let a = ones_most (nat_le 1 c.session && nat_le c.session n) in let b = within_le n cs in omega (arith, a, b)

all_within : (n : ℕ) (log : List Logged) → within n log ≡ length log → AllByRecursion (λ (c : Logged). c.session ≤ n) log
all_within n [] e = tt
all_within n (c ∷ cs) e =
    let a = ones_most (nat_le 1 c.session && nat_le c.session n) in
    let b = within_le n cs in
    let one : ones (nat_le 1 c.session && nat_le c.session n) ≡ 1 = omega (arith, a, b, e) in
    let rest : within n cs ≡ length cs = omega (arith, a, b, e) in
    (grind (arith, nat_tests), all_within n cs rest)

legal_within : (m n : ℕ) (h end : History) (log : List Logged) → AllByRecursion (λ (c : Logged). c.session ≤ n) log
    → IsLegal m h log end → IsLegal n h log end
legal_within m n h end [] all legal = legal
legal_within m n h end (c ∷ cs) all legal =
    (legal.0, record { low = legal.1.low; high = all.0; outcome = legal.1.outcome }, legal_within m n legal.0 end cs all.1 legal.2)

length_calls : (s p : ℕ) (log : List Logged) → length (own_from s p log) ≡ calls_of s log
length_calls s p [] = refl
length_calls s p (c ∷ cs) =
    let h = length_calls s (p + 1) cs in
    let l = length_with (c.session == s) (record { place = p; logged = c }) (own_from s (p + 1) cs) in omega (arith, h, l)

-- ---- the seats of a close

all_in : (log : List Logged) (own : List SeatCall) → missing_place log own ≡ None → AllByRecursion (LogHasCall log) own
all_in log [] none = tt
all_in log (k ∷ ks) none = elim (cases_Bool (is_in log k)) [
  | inl there_is ↦ (
    is_in-is log k there_is,
    all_in log ks (ap (λ b. cond b (missing_place log ks) (Some k.place)) (sym there_is) ∙ none),
  )
  | inr there_isnt ↦ absurd (let e = ap (λ b. cond b (missing_place log ks) (Some k.place)) (sym there_isnt) ∙ none in grind rules)
]

or_none : (session : ℕ) (first : Option ℕ) (rest : Option (ℕ × ℕ)) → or_missing session first rest ≡ None → (first ≡ None) × (rest ≡ None)
or_none session None rest e = (refl, e)
or_none session (Some place) rest e = absurd (grind rules)

fit_all : (log : List Logged) (seats : List Seat) → AreSeatsRising seats → missing_call log seats ≡ None
    → own_total seats ≤ weigh (λ s. calls_of s log) seats
fit_all log [] rising none = omega arith
fit_all log (seat ∷ seats) rising none =
    let parts = or_none seat.session (missing_place log seat.own) (missing_call log seats) none in
    let one = fits seat.session 0 log seat.own rising.0 (from_start log seat.own (all_in log seat.own parts.0)) in
    let len = length_calls seat.session 0 log in
    let rest = fit_all log seats rising.1 parts.1 in omega (arith, one, len, rest)

own_all : (log : List Logged) (seats : List Seat) → AreSeatsRising seats → missing_call log seats ≡ None
    → weigh (λ s. calls_of s log) seats ≤ own_total seats
    → AllByRecursion (λ (seat : Seat). own_calls seat.session log ≡ seat.own) seats
own_all log [] rising none tight = tt
own_all log (seat ∷ seats) rising none tight =
    let parts = or_none seat.session (missing_place log seat.own) (missing_call log seats) none in
    let found = from_start log seat.own (all_in log seat.own parts.0) in
    let one = fits seat.session 0 log seat.own rising.0 found in
    let len = length_calls seat.session 0 log in
    let rest = fit_all log seats rising.1 parts.1 in (
      sym (same_own seat.session 0 log seat.own rising.0 found (omega (arith, one, len, rest, tight))),
      own_all log seats rising.1 parts.1 (omega (arith, one, len, rest, tight)),
    )

-- what began with the desk's base and limit, and has its sessions, is from the desk
pub from_desk : (desk : Desk) (sessions : ℕ) (state : History) → IsLegal sessions (fresh state.base state.limit) state.log state
    → sessions ≡ desk.sessions → state.base ≡ desk.base → state.limit ≡ desk.limit → IsFrom desk state
from_desk desk sessions state legal count base limit =
    subst (λ b. IsLegal desk.sessions (fresh b desk.limit) state.log state) base
    (subst (λ l. IsLegal desk.sessions (fresh state.base l) state.log state) limit
    (subst (λ n. IsLegal n (fresh state.base state.limit) state.log state) count legal))

pub closes : (desk : Desk) (sessions : ℕ) (book : History) (seats : List Seat)
    → IsLegal sessions (fresh book.base book.limit) book.log book
    → AreSeatsRising seats → missing_call book.log seats ≡ None → length seats ≤ desk.sessions → HasAll desk.sessions seats
    → own_total seats ≡ length book.log → book.base ≡ desk.base → book.limit ≡ desk.limit → IsClosed desk seats book
closes desk sessions book seats legal rising none few all total base limit =
    let count = each_once desk.sessions (λ s. calls_of s book.log) seats few all in
    let sum = up_calls desk.sessions book.log in
    let most = within_le desk.sessions book.log in
    let least = fit_all book.log seats rising none in
    record {
      legal = from_desk desk desk.sessions book
          (legal_within sessions desk.sessions (fresh book.base book.limit) book book.log
          (all_within desk.sessions book.log (omega (arith, count, sum, most, least, total))) legal) refl base limit;
      own = own_all book.log seats rising none (omega (arith, count, sum, most, total));
      all = all;
      count = total;
    }

pub some_seats : (n : ℕ) (seats : List Seat) → 1 ≤ n → HasAll n seats → 0 < length seats
some_seats n [] low all = absurd (let h = all 1 (omega arith) low in grind rules)
some_seats n (seat ∷ seats) low all = omega arith

weigh_ones : (seats : List Seat) → weigh (λ s. 1) seats ≡ length seats
weigh_ones [] = refl
weigh_ones (seat ∷ seats) = let h = weigh_ones seats in omega (arith, h)

up_ones : (n : ℕ) → up n (λ s. 1) ≡ n
up_ones zero = refl
up_ones (suc n) = let h = up_ones n in omega (arith, h)

pub seats_many : (n : ℕ) (seats : List Seat) → length seats ≤ n → HasAll n seats → length seats ≡ n
seats_many n seats few all = sym (weigh_ones seats) ∙ each_once n (λ s. 1) seats few all ∙ up_ones n

-- a list that was lent and came back as it was
pub put_back : (n : ℕ) (xs all : List Seat) → xs ≡ all → n ≡ length all → take n (xs ++ drop (length xs) all) ≡ all
put_back n xs all same len =
    ap (λ m. take m (xs ++ drop (length xs) all)) len
    ∙ ap (λ l. take (length all) (l ++ drop (length l) all)) same
    ∙ take-append_seam all (drop (length all) all)

-- ---- a desk of one session

alone_from : (p : ℕ) (h end : History) (log : List Logged) → IsLegal 1 h log end → map (λ (k : SeatCall). k.logged) (own_from 1 p log) ≡ log
alone_from p h end [] legal = refl
alone_from p h end (c ∷ cs) legal =
    let low = legal.1.low in let high = legal.1.high in
    let one : (c.session == 1) ≡ true = grind (arith, nat_tests) in
    ap (λ b. map (λ (k : SeatCall). k.logged) (with_own b (record { place = p; logged = c }) (own_from 1 (p + 1) cs))) one
    ∙ ap (λ l. c ∷ l) (alone_from (p + 1) legal.0 end cs legal.2)

pub alone : (sessions session : ℕ) (h end : History) (log : List Logged) (own : List SeatCall) → IsLegal sessions h log end → 1 ≤ session
    → session ≤ sessions
    → own_calls session log ≡ own → sessions ≡ 1 → map (λ (k : SeatCall). k.logged) own ≡ log
alone sessions session h end log own legal low high is one =
    let me : session ≡ 1 = omega (arith, low, high, one) in
    ap (map (λ (k : SeatCall). k.logged)) (sym is ∙ ap (λ s. own_calls s log) me)
    ∙ alone_from 0 h end log (subst (λ n. IsLegal n h log end) one legal)

-- the session's calls are the seat's, where all these are in the log, and it has as many
pub own_shown : (session : ℕ) (log : List Logged) (own : List SeatCall) → AreCallsRising session 0 own → missing_place log own ≡ None
    → length (own_calls session log) ≡ length own → own_calls session log ≡ own
own_shown session log own rising none len = sym (same_own session 0 log own rising (from_start log own (all_in log own none)) (sym len))

pub shows : (desk : Desk) (seat : Seat) (layout : Layout) (state : History) → IsFrom desk state → 1 ≤ seat.session
    → seat.session ≤ desk.sessions → own_calls seat.session state.log ≡ seat.own → layout ≡ state.layout → Shows desk seat layout
shows desk seat layout state legal low high own is = record {
  history = state;
  legal = legal;
  own = own;
  layout = is;
  alone = alone desk.sessions seat.session (fresh desk.base desk.limit) state state.log seat.own legal low high own;
}
