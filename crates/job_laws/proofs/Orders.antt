-- The lines of the order.
use Rattle.std.proofs.Common.{◌≡◌, ℕ, ◌+◌, true, List, [], ◌∷◌, length, refl, sym, ap, ◌∙◌, inl, inr}
use Rattle.std.specs.Prelude.{◌==◌, codes, count_by, if◌then◌else◌, Option, None, Some, Ok, Err}
use Rattle.std.specs.List.{AllByRecursion, list_all}
use Rattle.std.proofs.lemmas.Bool.{and_from, and_parts}
use Rattle.std.proofs.lemmas.Bool.Decides.{Decides-eqb}
use Rattle.session_steps.specs.declared.Step.{Step}
use Rattle.job_text.specs.declared.job.JobFault.TheVariants.{Line as FaultLine}
use Rattle.job_text.specs.Job.{are_counted, named_in, named_order, odd_line, one_by_one, order_at, order_fits, total_len, unless_odd}
use Rattle.byte_io.specs.Numbers.{is_number}
use Rattle.job_text.specs.Words.{words_of}
use Rattle.job_laws.specs.JobLines.{AreCounted, AreNumbers, IsOnly, IsOrder, JobLine, NamesOrder}
use Rattle.job_laws.proofs.Choices.{choose, not_err, ok_same}
use Rattle.job_laws.proofs.Sessions.{BeginsOrder}

counted_sound : (session : ℕ) (scripts : List (List Step)) (order : List ℕ) → are_counted session scripts order ≡ true →
    AreCounted session scripts order
counted_sound session [] order h = tt
counted_sound session (script ∷ scripts) order h =
    let count = count_by (λ n. n == session) order in
    let parts = and_parts (count == length script) (are_counted (session + 1) scripts order) h in
    ((Decides-eqb count (length script)).0 parts.0, counted_sound (session + 1) scripts order parts.1)

counted_complete : (session : ℕ) (scripts : List (List Step)) (order : List ℕ) → AreCounted session scripts order →
    are_counted session scripts order ≡ true
counted_complete session [] order h = refl
counted_complete session (script ∷ scripts) order h =
    let count = count_by (λ n. n == session) order in
    and_from (count == length script) (are_counted (session + 1) scripts order) ((Decides-eqb count (length script)).1 h.0)
    (counted_complete (session + 1) scripts order h.1)

pub fits_sound : (scripts : List (List Step)) (order : List ℕ) → order_fits scripts order ≡ true →
    (length order ≡ total_len scripts) × AreCounted 1 scripts order
unfolding order_fits
fits_sound scripts order h =
    let parts = and_parts (length order == total_len scripts) (are_counted 1 scripts order) h in
    ((Decides-eqb (length order) (total_len scripts)).0 parts.0, counted_sound 1 scripts order parts.1)

pub fits_complete : (scripts : List (List Step)) (order : List ℕ) → length order ≡ total_len scripts → AreCounted 1 scripts order →
    order_fits scripts order ≡ true
unfolding order_fits
fits_complete scripts order many counted =
    and_from (length order == total_len scripts) (are_counted 1 scripts order)
    ((Decides-eqb (length order) (total_len scripts)).1 many) (counted_complete 1 scripts order counted)

none_not_some : {P : Type 0} (m : ℕ) → ◌≡◌ {A = Option ℕ} (Some m) None → P
none_not_some m h = absurd (cc)

-- no line is odd
none_odd : (n : ℕ) (all : List JobLine) → odd_line n all ≡ None → AllByRecursion AreNumbers all
none_odd n [] h = tt
none_odd n (line ∷ more) h =
    choose (list_all is_number (words_of line)) (odd_line (n + 1) more) (Some n) None h
    (λ e same. (e, none_odd (n + 1) more same)) (λ e same. none_not_some n same)

all_even : (n : ℕ) (all : List JobLine) → AllByRecursion AreNumbers all → odd_line n all ≡ None
all_even n [] numbers = refl
all_even n (line ∷ more) numbers =
    ap (λ t. if t then odd_line (n + 1) more else Some n) numbers.0 ∙ all_even (n + 1) more numbers.1

named_sound : (scripts : List (List Step)) (head : JobLine) (body : List JobLine) (order : List ℕ) → IsOnly (codes "%order") head →
    order_fits scripts (named_in body) ≡ true → (o : Option ℕ) → unless_odd o (named_in body) ≡ Ok order →
    (o ≡ None → AllByRecursion AreNumbers body) → NamesOrder scripts (head ∷ body) order
named_sound scripts head body order names fit (Some n) h numbers = not_err order (FaultLine n) h
named_sound scripts head body order names fit None h numbers =
    let same = ok_same (named_in body) order h in
    let parts = fits_sound scripts (named_in body) fit in
    record {
      head = head;
      body = body;
      parts = refl;
      names = names;
      numbers = numbers refl;
      named = sym same;
      many = ap length (sym same) ∙ parts.0;
      counted = rw (← same) parts.1;
    }

pub order_sound : (scripts : List (List Step)) (n : ℕ) (last : List JobLine) (order : List ℕ) → BeginsOrder last →
    order_at scripts (n, last) ≡ Ok order → IsOrder scripts last order
unfolding order_at named_order
order_sound scripts n [] order begins h = inl (refl, sym (ok_same (one_by_one 1 scripts) order h))
order_sound scripts n (head ∷ body) order begins h =
    choose (order_fits scripts (named_in body)) (unless_odd (odd_line (n + 1) body) (named_in body)) (Err (FaultLine n)) (Ok order) h
    (λ fit same.
    inr (named_sound scripts head body order begins fit (odd_line (n + 1) body) same (none_odd (n + 1) body)))
    (λ e refused. not_err order (FaultLine n) refused)

named_complete : (scripts : List (List Step)) (n : ℕ) (head : JobLine) (body : List JobLine) → AllByRecursion AreNumbers body →
    length (named_in body) ≡ total_len scripts → AreCounted 1 scripts (named_in body) →
    order_at scripts (n, head ∷ body) ≡ Ok (named_in body)
unfolding order_at named_order
named_complete scripts n head body numbers many counted =
    ap (λ t. if t then unless_odd (odd_line (n + 1) body) (named_in body) else Err (FaultLine n))
    (fits_complete scripts (named_in body) many counted)
    ∙ ap (λ o. unless_odd o (named_in body)) (all_even (n + 1) body numbers)

by_default : (scripts : List (List Step)) (n : ℕ) → order_at scripts (n, []) ≡ Ok (one_by_one 1 scripts)
unfolding order_at
by_default scripts n = refl

pub order_complete : (scripts : List (List Step)) (n : ℕ) (last : List JobLine) (order : List ℕ) → IsOrder scripts last order →
    order_at scripts (n, last) ≡ Ok order
order_complete scripts n last order (inl none) =
    ap (λ l. order_at scripts (n, l)) none.0 ∙ by_default scripts n ∙ ap Ok (sym none.1)
order_complete scripts n last order (inr is) =
    ap (λ l. order_at scripts (n, l)) is.parts
    ∙ named_complete scripts n is.head is.body is.numbers (ap length (sym is.named) ∙ is.many)
    (rw is.named at is.counted) ∙ ap Ok (sym is.named)

head_same : (l h : JobLine) (ls body : List JobLine) → l ∷ ls ≡ h ∷ body → l ≡ h
head_same l h ls body same = cc

no_line : {P : Type 0} (l : JobLine) (ls : List JobLine) → l ∷ ls ≡ [] → P
no_line l ls h = absurd (cc)

pub begins_order : (scripts : List (List Step)) (last : List JobLine) (order : List ℕ) → IsOrder scripts last order → BeginsOrder last
begins_order scripts [] order is = tt
begins_order scripts (line ∷ more) order (inl none) = no_line line more none.0
begins_order scripts (line ∷ more) order (inr is) = ap words_of (head_same line is.head more is.body is.parts) ∙ is.names
