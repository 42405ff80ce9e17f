-- An order that fits scripts names each session as often as it has steps, and nothing else; so does each order of the same names.
use Rattle.std.proofs.Common.{◌≡◌, ℕ, ◌+◌, ◌<◌, zero, suc, Bool, true, false, ◌&&◌, cond, List, [], ◌∷◌, get_or, length, nat_eq, nat_le}
use Rattle.std.proofs.Common.{nat_lt, refl, ap, sym, ◌∙◌, arith, inl, inr}
use Rattle.std.specs.Prelude.{IsPermutation, count_by}
use Rattle.std.specs.List.{AllByRecursion}
use Rattle.std.proofs.lemmas.Bool.{and_from, and_left, and_parts, and_right, cases_eq, cases_lt, eq-eqb, eqb-true, ne_eqb}
use Rattle.std.proofs.lemmas.Bool.Decides.{nat_tests}
use Rattle.std.proofs.lemmas.List.Sorted.{length_permutation, sum_by-IsPermutation}
use Rattle.std.proofs.lemmas.List.Sums.{count_by-le-length, sum_by-cons}
use Rattle.session_steps.specs.declared.Step.{Step}
use Rattle.session_steps.specs.Turns.{in_turn}
use Rattle.job_text.specs.Job.{are_counted, order_fits, total_len}
use Rattle.session_laws.proofs.JobTurns.{AreTurns, Names, all_turns, times, times_more}

-- each session is counted
counted_at : (scripts : List (List Step)) (session : ℕ) (order : List ℕ) → are_counted session scripts order ≡ true →
    (number index : ℕ) → number ≡ session + index → index < length scripts → times number order ≡ length (get_or scripts index [])
counted_at [] session order counted number index is inside = absurd (omega arith)
counted_at (script ∷ scripts) session order counted number zero is inside =
    let parts = and_parts (nat_eq (times session order) (length script)) (are_counted (session + 1) scripts order) counted in
    let same : number ≡ session = omega arith in
    ap (λ n. times n order) same ∙ eqb-true (times session order) (length script) parts.0
counted_at (script ∷ scripts) session order counted number (suc index) is inside =
    let parts = and_parts (nat_eq (times session order) (length script)) (are_counted (session + 1) scripts order) counted in
    counted_at scripts (session + 1) order parts.1 number index (omega arith) (omega arith)

-- the session is one of so many, from this number on
abbrev is_inside : ℕ → ℕ → ℕ → Bool
is_inside session sessions name = nat_le session name && nat_lt name (session + sessions)

count_more : (p : ℕ → Bool) (name : ℕ) (order : List ℕ) → count_by p (name ∷ order) ≡ cond (p name) 1 0 + count_by p order
count_more p name order = sum_by-cons (λ n. cond (p n) 1 0) name order

outside : (session name : ℕ) → is_inside session 0 name ≡ false
outside session name = elim (cases_lt name session) [
  | inl below ↦
      let first : nat_le session name ≡ false = grind (arith, nat_tests) in
      and_left (nat_le session name) (nat_lt name (session + 0)) first
  | inr above ↦
      let second : nat_lt name (session + 0) ≡ false = grind (arith, nat_tests) in
      and_right (nat_le session name) (nat_lt name (session + 0)) second
]

none_inside : (session : ℕ) (order : List ℕ) → count_by (is_inside session 0) order ≡ 0
none_inside session [] = refl
none_inside session (name ∷ order) =
    count_more (is_inside session 0) name order ∙ ap (λ b. cond b 1 0 + count_by (is_inside session 0) order) (outside session name)
    ∙ ap (λ n. 0 + n) (none_inside session order)

-- a number is the first of so many, or one of the others
parts_are : (all first others a b c : Bool) → all ≡ a → first ≡ b → others ≡ c → cond {A = ℕ} a 1 0 ≡ cond b 1 0 + cond c 1 0 →
    cond {A = ℕ} all 1 0 ≡ cond first 1 0 + cond others 1 0
parts_are all first others a b c all_is first_is others_is same =
    ap (λ x. cond {A = ℕ} x 1 0) all_is ∙ same ∙ ap (λ x. cond x 1 0 + cond c 1 0) (sym first_is)
    ∙ ap (λ x. cond first 1 0 + cond x 1 0) (sym others_is)

one_inside : (session sessions name : ℕ) →
    cond (is_inside session (suc sessions) name) 1 0 ≡ cond (nat_eq name session) 1 0 + cond (is_inside (session + 1) sessions name) 1 0
one_inside session sessions name = elim (cases_lt name session) [
  | inl below ↦
      let a : nat_le session name ≡ false = grind (arith, nat_tests) in
      let b : nat_le (session + 1) name ≡ false = grind (arith, nat_tests) in
      parts_are _ _ _ false false false (and_left (nat_le session name) (nat_lt name (session + suc sessions)) a)
      (ne_eqb name session (λ e. omega arith)) (and_left (nat_le (session + 1) name) (nat_lt name ((session + 1) + sessions)) b) refl
  | inr above ↦ elim (cases_eq name session) [
    | inl same ↦
        let a : nat_le session name ≡ true = grind (arith, nat_tests) in
        let b : nat_lt name (session + suc sessions) ≡ true = grind (arith, nat_tests) in
        let c : nat_le (session + 1) name ≡ false = grind (arith, nat_tests) in
        parts_are _ _ _ true true false (and_from (nat_le session name) (nat_lt name (session + suc sessions)) a b)
        (eq-eqb name session same) (and_left (nat_le (session + 1) name) (nat_lt name ((session + 1) + sessions)) c) refl
    | inr differ ↦
        let a : nat_le session name ≡ true = grind (arith, nat_tests) in
        let c : nat_le (session + 1) name ≡ true = grind (arith, nat_tests) in
        let end : session + suc sessions ≡ (session + 1) + sessions = omega arith in
        let others = nat_lt name ((session + 1) + sessions) in
        parts_are _ _ _ others false others
        (ap (λ x. x && nat_lt name (session + suc sessions)) a ∙ ap (nat_lt name) end)
        (ne_eqb name session differ) (ap (λ x. x && others) c) (omega arith)
  ]
]

-- those of one number more are that number and the others
more_inside : (session sessions : ℕ) (order : List ℕ) →
    count_by (is_inside session (suc sessions)) order ≡ times session order + count_by (is_inside (session + 1) sessions) order
more_inside session sessions [] = refl
more_inside session sessions (name ∷ order) =
    let all = count_more (is_inside session (suc sessions)) name order in
    let his = times_more session name order in
    let others = count_more (is_inside (session + 1) sessions) name order in
    let one = one_inside session sessions name in
    let more = more_inside session sessions order in
    omega (arith, all, his, others, one, more)

-- the sessions from this number on have as many steps as the order names
total_is : (scripts : List (List Step)) (session : ℕ) (order : List ℕ) → are_counted session scripts order ≡ true →
    total_len scripts ≡ count_by (is_inside session (length scripts)) order
total_is [] session order counted = sym (none_inside session order)
total_is (script ∷ scripts) session order counted =
    let parts = and_parts (nat_eq (times session order) (length script)) (are_counted (session + 1) scripts order) counted in
    ap (λ n. n + total_len scripts) (sym (eqb-true (times session order) (length script) parts.0))
    ∙ ap (λ n. times session order + n) (total_is scripts (session + 1) order parts.1)
    ∙ sym (more_inside session (length scripts) order)

-- where all are counted, each passes
all_counted : (p : ℕ → Bool) (order : List ℕ) → length order ≡ count_by p order → AllByRecursion (λ name. p name ≡ true) order
all_counted p [] same = tt
all_counted p (name ∷ order) same = by (p name) refl (same ∙ count_more p name order) (all_counted p order) where
  by : (b : Bool) → p name ≡ b → suc (length order) ≡ cond b 1 0 + count_by p order →
      (length order ≡ count_by p order → AllByRecursion (λ n. p n ≡ true) order) → AllByRecursion (λ n. p n ≡ true) (name ∷ order)
  by true passes more behind = (passes, behind (omega arith))
  by false passes more behind =
      let most = count_by-le-length p order in
      absurd (omega arith)

named_so : (scripts : List (List Step)) (order : List ℕ) →
    AllByRecursion (λ name. is_inside 1 (length scripts) name ≡ true) order → Names scripts order
named_so scripts [] all = tt
named_so scripts (name ∷ order) all =
    let parts = and_parts (nat_le 1 name) (nat_lt name (1 + length scripts)) all.0 in
    let low = parts.0 in
    let high = parts.1 in
    ((grind (arith, nat_tests), grind (arith, nat_tests)), named_so scripts order all.1)

pub fitting_turns : (scripts : List (List Step)) (order : List ℕ) → order_fits scripts order ≡ true →
    AreTurns scripts order (in_turn order scripts)
unfolding order_fits
fitting_turns scripts order fitting =
    let parts = and_parts (nat_eq (length order) (total_len scripts)) (are_counted 1 scripts order) fitting in
    all_turns order scripts
    (named_so scripts order (all_counted (is_inside 1 (length scripts)) order
    (eqb-true (length order) (total_len scripts) parts.0 ∙ total_is scripts 1 order parts.1)))
    (λ index inside. counted_at scripts 1 order parts.1 (suc index) index (omega arith) inside)

-- so does each order of the same names
counted_again : (scripts : List (List Step)) (session : ℕ) (order new : List ℕ) → IsPermutation order new →
    are_counted session scripts new ≡ are_counted session scripts order
counted_again [] session order new same = refl
counted_again (script ∷ scripts) session order new same =
    ap (λ n. nat_eq n (length script) && are_counted (session + 1) scripts new)
    (sum_by-IsPermutation (λ n. cond (nat_eq n session) 1 0) order new same)
    ∙ ap (λ b. nat_eq (times session order) (length script) && b) (counted_again scripts (session + 1) order new same)

pub fits_again : (scripts : List (List Step)) (order new : List ℕ) → order_fits scripts order ≡ true → IsPermutation order new →
    order_fits scripts new ≡ true
unfolding order_fits
fits_again scripts order new fitting same =
    let parts = and_parts (nat_eq (length order) (total_len scripts)) (are_counted 1 scripts order) fitting in
    and_from (nat_eq (length new) (total_len scripts)) (are_counted 1 scripts new)
    (eq-eqb (length new) (total_len scripts) (length_permutation order new same ∙ eqb-true (length order) (total_len scripts) parts.0))
    (counted_again scripts 1 order new same ∙ parts.1)
