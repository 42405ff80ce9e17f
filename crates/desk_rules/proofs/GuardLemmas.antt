-- What is behind the lock keeps what it keeps, call by call.
use Rattle.std.proofs.Common.{◌≡◌, ℕ, ◌+◌, ◌-◌, ◌<◌, ◌≤◌, Bool, true, false, ◌==◌, ◌&&◌, List, [], ◌∷◌, ◌++◌, length, Option, None, Some}
use Rattle.std.proofs.Common.{refl, ap, sym, ◌∙◌, subst, arith, rules, inl, inr, nat_le, nat_lt, slice_index, slice_set}
use Rattle.std.proofs.lemmas.Bool.{and_parts, cases_eq}
use Rattle.std.proofs.lemmas.Bool.Decides.{nat_tests}
use Rattle.std.proofs.lemmas.Grind.{get_or-set_at}
use Rattle.std.proofs.lemmas.List.{get_or-set_other, length-set, length-append}
use Rattle.std.proofs.lemmas.Option.{slice_get_within}
use Rattle.std.specs.Prelude.{IfSome, slice_get}
use Rattle.undo_rules.specs.declared.log.Answer.{Answer}
use Rattle.undo_rules.specs.declared.log.Call.{Call}
use Rattle.undo_rules.specs.declared.log.Logged.{Logged}
use Rattle.desk_rules.proofs.SameLemmas.{logged_exact}
use Rattle.undo_rules.specs.Books.{History}
use Rattle.undo_rules.specs.Steps.{fresh}
use Rattle.undo_rules.proofs.Logs.{get-push}
use Rattle.desk_rules.specs.declared.seat_call.SeatCall.{SeatCall}
use Rattle.lay_layouts.specs.Sound.{IsSound}
use Rattle.desk_rules.specs.Guards.{AreCallCounts, Fits, Guard, IsGuard, has_last, ones, with_one_counted}
use Rattle.desk_rules.specs.Legal.{Desk, Grew, IsLegal, Leads, Stepped, on_base, outcome}
use Rattle.desk_rules.specs.Seats.{EndsWith, LogHasCall, IsLastIn, IsPastCall, calls_added, is_in, is_last_in, last_of, own_calls, same_at}
use Rattle.desk_rules.proofs.LegalLemmas.{grown, legal_push}
use Rattle.desk_rules.proofs.OwnLemmas.{length-own-push}

same_at-is : (found : Option Logged) (call : Logged) → same_at found call ≡ true → found ≡ Some call
same_at-is None call e = absurd (grind rules)
same_at-is (Some c) call e = ap Some (logged_exact c call e)

pub is_in-is : (log : List Logged) (k : SeatCall) → is_in log k ≡ true → LogHasCall log k
is_in-is log k e = same_at-is (slice_get log k.place) k.logged e

last_in-is : (log : List Logged) (last : Option SeatCall) → is_last_in log last ≡ true → IsLastIn log last
last_in-is log None e = tt
last_in-is log (Some k) e = is_in-is log k e

-- what the look at the log tells
pub record Looked (g : Guard) (session : ℕ) (own : List SeatCall) : Type 0 where
  pub low : 1 ≤ session
  pub high : session ≤ g.sessions
  pub count : slice_index g.counts (session - 1) ≡ length own
  pub last : IsLastIn g.book.log (last_of own)

pub looked : (g : Guard) (session : ℕ) (own : List SeatCall) → has_last g session own ≡ true → Looked g session own
looked g session own e =
    let parts = and_parts (nat_le 1 session && nat_le session g.sessions)
    ((slice_index g.counts (session - 1) == length own) && is_last_in g.book.log (last_of own)) e in
    let bounds = and_parts (nat_le 1 session) (nat_le session g.sessions) parts.0 in
    let rest = and_parts (slice_index g.counts (session - 1) == length own) (is_last_in g.book.log (last_of own)) parts.1 in
    record {
      low = let h = bounds.0 in grind (arith, nat_tests);
      high = let h = bounds.1 in grind (arith, nat_tests);
      count = let h = rest.0 in grind (arith, nat_tests);
      last = last_in-is g.book.log (last_of own) rest.1;
    }

ones_same : (a b : ℕ) → a ≡ b → ones (a == b) ≡ 1
ones_same a b e = let t : (a == b) ≡ true = grind (arith, nat_tests) in ap ones t

ones_other : (a b : ℕ) → (a ≡ b → ⊥) → ones (a == b) ≡ 0
ones_other a b other = let t : (a == b) ≡ false = grind (arith, nat_tests) in ap ones t

-- one more call of the session is counted
count_push : (n : ℕ) (counts : List ℕ) (log : List Logged) (c : Logged) → AreCallCounts n counts log → 1 ≤ c.session → c.session ≤ n
    → AreCallCounts n (slice_set counts (c.session - 1) (slice_index counts (c.session - 1) + 1)) (log ++ c ∷ [])
count_push n counts log c are low high = record {
  all = length-set counts (c.session - 1) _ ∙ are.all;
  each = λ i below. elim (cases_eq i (c.session - 1)) [
    | inl same ↦
        let at : slice_index (slice_set counts (c.session - 1) (slice_index counts (c.session - 1) + 1)) i ≡ slice_index counts
        (c.session - 1) + 1 =
        get_or-set_at counts (c.session - 1) i _ 0 same (let l = are.all in omega (arith, l, low, high)) in
        let is : i + 1 ≡ c.session = omega (arith, same, low) in
        let was = are.each i below in
        let grew = length-own-push (i + 1) 0 log c in
        let one : ones (c.session == i + 1) ≡ 1 = ones_same c.session (i + 1) (sym is) in
        let there : slice_index counts i ≡ slice_index counts (c.session - 1) = ap (slice_index counts) same in
        omega (arith, at, was, grew, one, there)
    | inr other ↦
        let at = get_or-set_other counts (c.session - 1) i (slice_index counts (c.session - 1) + 1) 0 other in
        let was = are.each i below in
        let grew = length-own-push (i + 1) 0 log c in
        let none : ones (c.session == i + 1) ≡ 0 = ones_other c.session (i + 1) (λ e. other (omega (arith, e))) in
        at ∙ was ∙ sym (grew ∙ ap (λ m. length (own_calls (i + 1) log) + m) none ∙ omega arith)
  ];
}

-- a call that grew the log: what is kept behind it
pub guard_grown : (g : Guard) (next : History) (session : ℕ) (call : Call) (answer : Answer) → IsGuard g → IsSound g.book.layout
    → 1 ≤ session → session ≤ g.sessions
    → outcome g.book session call ≡ (Some answer, next) → Grew g.book session call answer next
    → IsGuard (record {
      sessions = g.sessions;
      book = next;
      counts = slice_set g.counts (session - 1) (slice_index g.counts
          (session - 1) + 1);
      total = g.total + 1;
    })
guard_grown g next session call answer kept sound low high made grew =
    let c : Logged = record { session = session; call = call; answer = answer } in
    let counts : List ℕ = slice_set g.counts (session - 1) (slice_index g.counts (session - 1) + 1) in
    let leads : Leads g.sessions g.book c next = record { low = low; high = high; outcome = made } in
    let legal : IsLegal g.sessions (fresh g.book.base g.book.limit) (g.book.log ++ c ∷ []) next =
    legal_push g.sessions (fresh g.book.base g.book.limit) g.book next g.book.log c kept.legal leads in
    record {
      few = kept.few;
      legal = subst (λ log. IsLegal g.sessions (fresh next.base next.limit) log next) (sym grew.log)
          (subst (λ b. IsLegal g.sessions (fresh b next.limit) (g.book.log ++ c ∷ []) next) (sym grew.base)
          (subst (λ l. IsLegal g.sessions (fresh g.book.base l) (g.book.log ++ c ∷ []) next) (sym grew.limit) legal));
      pending = grew.pending sound kept.pending;
      counts = subst (AreCallCounts g.sessions counts) (sym grew.log) (count_push g.sessions g.counts g.book.log c kept.counts low high);
      total =
          let t = kept.total in let l = ap length grew.log in let a = length-append g.book.log (c ∷ []) in omega (arith, t, l, a);
    }

-- the state behind a call whose log is longer
pub guard_more : (g : Guard) (next : History) (session : ℕ) (call : Call) (answer : Option Answer) → IsGuard g
    → IsSound g.book.layout → 1 ≤ session → session ≤ g.sessions
    → Stepped g.book session call answer next → length g.book.log < length next.log
    → IsGuard (record {
      sessions = g.sessions;
      book = next;
      counts = slice_set g.counts (session - 1) (slice_index g.counts
          (session - 1) + 1);
      total = g.total + 1;
    })
guard_more g next session call None kept sound low high stepped more =
    let same : next ≡ g.book = grown g.book next session call None stepped in
    let l = ap (λ (h : History). length h.log) same in absurd (omega (arith, more, l))
guard_more g next session call (Some answer) kept sound low high (inl made) more =
    guard_grown g next session call answer kept sound low high made (grown g.book next session call (Some answer) (inl made))
guard_more g next session call (Some answer) kept sound low high (inr fails) more = absurd (grind rules)

-- the state behind a call whose log isn't
pub guard_same : (g : Guard) (next : History) (session : ℕ) (call : Call) (answer : Option Answer) → IsGuard g
    → Stepped g.book session call answer next → (length g.book.log < length next.log → ⊥)
    → IsGuard (record { sessions = g.sessions; book = next; counts = g.counts; total = g.total })
guard_same g next session call None kept stepped less =
    let same : next ≡ g.book = grown g.book next session call None stepped in
    subst (λ h. IsGuard (record { sessions = g.sessions; book = h; counts = g.counts; total = g.total })) (sym same) kept
guard_same g next session call (Some answer) kept stepped less =
    let grew : Grew g.book session call answer next = grown g.book next session call (Some answer) stepped in
    let l = ap length grew.log in
    let a = length-append g.book.log (record { session = session; call = call; answer = answer } ∷ []) in
    absurd (less (omega (arith, l, a)))

get_end : {X : Type 0} (xs : List X) (y : X) → slice_get (xs ++ y ∷ []) (length xs) ≡ Some y
get_end [] y = refl
get_end (z ∷ zs) y = get_end zs y

last_in_more : (log : List Logged) (c : Logged) (last : Option SeatCall) → IsLastIn log last → IsLastIn (log ++ c ∷ []) last
last_in_more log c None found = tt
last_in_more log c (Some k) found = get-push log c k.place k.logged found

last_below : (log : List Logged) (last : Option SeatCall) → IsLastIn log last → IsPastCall (length log) last
last_below log None found = tt
last_below log (Some k) found = slice_get_within log k.place k.logged found

-- the log has as many calls of the session as its own
pub counted : (g : Guard) (session : ℕ) (own : List SeatCall) → IsGuard g → Looked g session own
    → length (own_calls session g.book.log) ≡ length own
counted g session own kept look =
    let low = look.low in
    let high = look.high in
    let is : session - 1 + 1 ≡ session = omega (arith, low) in
    subst (λ s. length (own_calls s g.book.log) ≡ length own) is
    (sym (kept.counts.each (session - 1) (omega (arith, low, high))) ∙ look.count)

-- what a logged call tells of the log behind it
pub made_logged : (desk : Desk) (g : Guard) (next : History) (session place : ℕ) (call : Call) (answer : Option Answer)
    (own : List SeatCall)
    → IsGuard g → Fits desk g → IsSound g.book.layout → Looked g session own → Stepped g.book session call answer next
    → place ≡ length g.book.log → IfSome answer (EndsWith (on_base next.base desk) next
    (record { session = session; before = own; call = call; place = place }))
made_logged desk g next session place call None own kept fits sound look stepped at = tt
made_logged desk g next session place call (Some answer) own kept fits sound look (inr fails) at = absurd (grind rules)
made_logged desk g next session place call (Some answer) own kept fits sound look (inl made) at =
    let c : Logged = record { session = session; call = call; answer = answer } in
    let grew : Grew g.book session call answer next = grown g.book next session call (Some answer) (inl made) in
    let new = guard_grown g next session call answer kept sound look.low look.high made grew in
    record {
      legal = subst (λ n. IsLegal n (fresh next.base desk.limit) next.log next) fits.0
          (subst (λ l. IsLegal g.sessions (fresh next.base l) next.log next) (grew.limit ∙ fits.1) new.legal);
      last = subst (λ log. slice_get log place ≡ Some c) (sym grew.log)
          (subst (λ p. slice_get (g.book.log ++ c ∷ []) p ≡ Some c) (sym at) (get_end g.book.log c));
      whole = let l = ap length grew.log in let a = length-append g.book.log (c ∷ []) in omega (arith, l, a, at);
      count =
          let was = counted g session own kept look in
          let grown-by = length-own-push session 0 g.book.log c in
          let one = ones_same session session refl in
          let here = ap (λ log. length (own_calls session log)) grew.log in omega (arith, was, grown-by, one, here);
      earlier = subst (λ log. IsLastIn log (last_of own)) (sym grew.log) (last_in_more g.book.log c (last_of own) look.last);
      below = subst (λ p. IsPastCall p (last_of own)) (sym at) (last_below g.book.log (last_of own) look.last);
    }

-- the state behind a call
pub guard_after : (g : Guard) (next : History) (session : ℕ) (call : Call) (answer : Option Answer) (more : Bool) → IsGuard g
    → IsSound g.book.layout → 1 ≤ session
    → session ≤ g.sessions → Stepped g.book session call answer next → more ≡ nat_lt (length g.book.log) (length next.log)
    → IsGuard (record {
      sessions = g.sessions;
      book = next;
      counts = with_one_counted more g.counts (session - 1);
      total = g.total + ones more;
    })
guard_after g next session call answer true kept sound low high stepped is =
    let less : length g.book.log < length next.log = grind (arith, nat_tests) in
    guard_more g next session call answer kept sound low high stepped less
guard_after g next session call answer false kept sound low high stepped is =
    let e : g.total + 0 ≡ g.total = omega arith in
    subst (λ t. IsGuard (record { sessions = g.sessions; book = next; counts = g.counts; total = t })) (sym e)
    (guard_same g next session call answer kept stepped (λ less. grind (arith, nat_tests)))

-- the calls that are added are those that are logged
pub added_is : (h next : History) (session : ℕ) (call : Call) (answer : Option Answer) → Stepped h session call answer next
    → ones (nat_lt (length h.log) (length next.log)) ≡ calls_added answer
added_is h next session call None stepped =
    let same : next ≡ h = grown h next session call None stepped in
    let l = ap (λ (s : History). length s.log) same in
    let f : nat_lt (length h.log) (length next.log) ≡ false = grind (arith, nat_tests) in ap ones f
added_is h next session call (Some answer) stepped =
    let grew : Grew h session call answer next = grown h next session call (Some answer) stepped in
    let l = ap length grew.log in
    let a = length-append h.log (record { session = session; call = call; answer = answer } ∷ []) in
    let f : nat_lt (length h.log) (length next.log) ≡ true = grind (arith, nat_tests) in ap ones f

-- the same, as the fields have it
pub guard_called : (g : Guard) (next : History) (session : ℕ) (call : Call) (answer : Option Answer) (own : List SeatCall)
    (counts : List ℕ) (total : ℕ) (more : Bool)
    → IsGuard g → IsSound g.book.layout → Looked g session own → Stepped g.book session call answer next
    → more ≡ nat_lt (length g.book.log) (length next.log)
    → counts ≡ with_one_counted more g.counts (session - 1) → total ≡ g.total + ones more
    → IsGuard (record { sessions = g.sessions; book = next; counts = counts; total = total })
guard_called g next session call answer own counts total more kept sound look stepped is counts-are total-is =
    subst (λ cs. IsGuard (record { sessions = g.sessions; book = next; counts = cs; total = total })) (sym counts-are)
    (subst (λ t. IsGuard (record { sessions = g.sessions; book = next; counts = with_one_counted more g.counts (session - 1); total = t }))
    (sym total-is)
    (guard_after g next session call answer more kept sound look.low look.high stepped is))
