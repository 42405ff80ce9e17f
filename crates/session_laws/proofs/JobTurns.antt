-- Where an order names each session as often as its script has steps, each takes its script, and nothing else.
use Rattle.std.proofs.Common.{◌≡◌, ◌≢◌, ℕ, ◌+◌, ◌-◌, ◌<◌, ◌≤◌, suc, Bool, true, false, cond, List, [], ◌∷◌, get_or, length, nat_eq, set}
use Rattle.std.proofs.Common.{refl, ap, sym, subst, ◌∙◌, arith, inl, inr}
use Rattle.std.specs.Prelude.{count_by}
use Rattle.std.specs.List.{AllByRecursion}
use Rattle.std.proofs.lemmas.Bool.{cases_eq, eq-eqb, ne_eqb}
use Rattle.std.proofs.lemmas.List.{get_or-set_other, get_or-set_same, length-set, nil_from_length}
use Rattle.std.proofs.lemmas.List.Sums.{sum_by-cons}
use Rattle.session_steps.specs.declared.Step.{Step}
use Rattle.session_steps.specs.Turns.{in_turn, taken}
use Rattle.session_laws.specs.Rearranged.{names}
use Rattle.session_laws.proofs.Running.{IsOfOne}

-- the steps of one session
abbrev pub own_step : Bool → Step → List Step → List Step
own_step true step steps = step ∷ steps
own_step false step steps = steps

abbrev pub own_steps : ℕ → List (ℕ × Step) → List Step
own_steps session [] = []
own_steps session (turn ∷ turns) = own_step (nat_eq turn.0 session) turn.1 (own_steps session turns)

-- how often the order names the session
abbrev pub times : ℕ → List ℕ → ℕ
times session order = count_by (λ name. nat_eq name session) order

pub times_more : (session name : ℕ) (order : List ℕ) → times session (name ∷ order) ≡ cond (nat_eq name session) 1 0 + times session order
times_more session name order = sum_by-cons (λ n. cond (nat_eq n session) 1 0) name order

times_here : (session name : ℕ) (order : List ℕ) → name ≡ session → times session (name ∷ order) ≡ 1 + times session order
times_here session name order same =
    times_more session name order ∙ ap (λ b. cond b 1 0 + times session order) (eq-eqb name session same)

times_other : (session name : ℕ) (order : List ℕ) → name ≢ session → times session (name ∷ order) ≡ times session order
times_other session name order differ =
    times_more session name order ∙ ap (λ b. cond b 1 0 + times session order) (ne_eqb name session differ) ∙ omega arith

-- these turns are those of the order, and each session takes its script
pub record AreTurns (scripts : List (List Step)) (order : List ℕ) (turns : List (ℕ × Step)) : Type 0 where
  pub names_are : names turns ≡ order
  pub known : AllByRecursion (IsOfOne (length scripts)) turns
  pub scripts_are : (index : ℕ) → index < length scripts → get_or scripts index [] ≡ own_steps (suc index) turns

-- the order names the sessions of the scripts, each as often as it has steps
abbrev pub Names : List (List Step) → List ℕ → Type 0
Names scripts order = AllByRecursion (λ name. (1 ≤ name) × (name ≤ length scripts)) order

abbrev pub Counts : List (List Step) → List ℕ → Type 0
Counts scripts order = (index : ℕ) → index < length scripts → times (suc index) order ≡ length (get_or scripts index [])

-- a session that is named takes a step of its script
one_turn : (scripts : List (List Step)) (name : ℕ) (order : List ℕ) (step : Step) (left : List Step) → 1 ≤ name → name ≤ length scripts →
    get_or scripts (name - 1) [] ≡ step ∷ left →
    AreTurns (set scripts (name - 1) left) order (in_turn order (set scripts (name - 1) left)) →
    AreTurns scripts (name ∷ order) (in_turn (name ∷ order) scripts)
one_turn scripts name order step left low high found more =
    subst (AreTurns scripts (name ∷ order)) (sym (ap (λ s. taken name s scripts (λ rest. in_turn order rest)) found)) (record {
      names_are = ap (λ ns. name ∷ ns) more.names_are;
      known = ((low, high), subst (λ n. AllByRecursion (IsOfOne n) turns) len more.known);
      scripts_are = λ index inside. elim (cases_eq name (suc index)) [
        | inl same ↦
            let at : index ≡ name - 1 = omega arith in
            ap (λ i. get_or scripts i []) at ∙ found
            ∙ ap (λ s. step ∷ s) (sym (get_or-set_same scripts (name - 1) left [] (omega arith)) ∙ ap (λ i. get_or new i []) (sym at)
            ∙ more.scripts_are index (subst (λ n. index < n) (sym len) inside))
            ∙ ap (λ b. own_step b step (own_steps (suc index) turns)) (sym (eq-eqb name (suc index) same))
        | inr differ ↦
            let apart : index ≢ name - 1 = λ e. differ (omega arith) in
            sym (get_or-set_other scripts (name - 1) index left [] apart)
            ∙ more.scripts_are index (subst (λ n. index < n) (sym len) inside)
            ∙ ap (λ b. own_step b step (own_steps (suc index) turns)) (sym (ne_eqb name (suc index) differ))
      ];
    }) where
      new : List (List Step)
      new = set scripts (name - 1) left

      len : length (set scripts (name - 1) left) ≡ length scripts
      len = length-set scripts (name - 1) left

      turns : List (ℕ × Step)
      turns = in_turn order (set scripts (name - 1) left)

-- then as many are left
counts_left : (scripts : List (List Step)) (name : ℕ) (order : List ℕ) (step : Step) (left : List Step) → 1 ≤ name → name ≤ length scripts →
    get_or scripts (name - 1) [] ≡ step ∷ left → Counts scripts (name ∷ order) → Counts (set scripts (name - 1) left) order
counts_left scripts name order step left low high found counts index inside = elim (cases_eq name (suc index)) [
  | inl same ↦
      let at : index ≡ name - 1 = omega arith in
      let here = times_here (suc index) name order same in
      let all : times (suc index) (name ∷ order) ≡ suc (length left) =
      counts index (omega arith) ∙ ap (λ i. length (get_or scripts i [])) at ∙ ap length found in
      let behind : length (get_or (set scripts (name - 1) left) index []) ≡ length left =
      ap (λ i. length (get_or (set scripts (name - 1) left) i [])) at
      ∙ ap length (get_or-set_same scripts (name - 1) left [] (omega arith)) in
      omega (arith, here, all, behind)
  | inr differ ↦
      let apart : index ≢ name - 1 = λ e. differ (omega arith) in
      sym (times_other (suc index) name order differ)
      ∙ counts index (subst (λ n. index < n) (length-set scripts (name - 1) left) inside)
      ∙ ap length (sym (get_or-set_other scripts (name - 1) index left [] apart))
]

pub all_turns : (order : List ℕ) (scripts : List (List Step)) → Names scripts order → Counts scripts order →
    AreTurns scripts order (in_turn order scripts)
all_turns [] scripts all counts = record {
  names_are = refl;
  known = tt;
  scripts_are = λ index inside. nil_from_length (get_or scripts index []) (sym (counts index inside));
}
all_turns (name ∷ order) scripts all counts =
    by (get_or scripts (name - 1) []) refl (λ left. all_turns order (set scripts (name - 1) left)) where
      low : 1 ≤ name
      low = all.0.0

      high : name ≤ length scripts
      high = all.0.1

      by : (script : List Step) → get_or scripts (name - 1) [] ≡ script →
          ((left : List Step) → Names (set scripts (name - 1) left) order → Counts (set scripts (name - 1) left) order →
          AreTurns (set scripts (name - 1) left) order (in_turn order (set scripts (name - 1) left))) →
          AreTurns scripts (name ∷ order) (in_turn (name ∷ order) scripts)
      by [] none more =
          let above = low in
          let below = high in
          let at : name ≡ suc (name - 1) = omega arith in
          let here = times_here (suc (name - 1)) name order at in
          let all = counts (name - 1) (omega arith) ∙ ap length none in
          absurd (omega (arith, here, all))
      by (step ∷ left) found more = one_turn scripts name order step left low high found
          (more left (subst (λ n. AllByRecursion (λ name. (1 ≤ name) × (name ≤ n)) order) (sym (length-set scripts (name - 1) left)) all.1)
          (counts_left scripts name order step left low high found counts))
