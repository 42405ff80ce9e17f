-- Counts of the shapes that hold, and the answer where they do.
use Rattle.std.proofs.Common.{◌≡◌, ◌≢◌, ⊎_elim, ◌↔◌, ℕ, zero, suc, ◌+◌, ◌-◌, ◌^◌, ◌<◌, ◌≤◌, Bool, true, false, not, ◌&&◌, ◌||◌, cond}
use Rattle.std.proofs.Common.{List, [], ◌∷◌, Contains, refl, sym, ap, ap₂, subst, ◌∙◌, arith}
use Rattle.std.specs.List.{list_any}
use Rattle.std.proofs.lemmas.Bool.{cases_lt}
use Rattle.lay_point.specs.Parity.{xor}
use Rattle.lay_point.proofs.Members.{has}
use Rattle.lay_point.proofs.ListLaws.{any_true}
use Rattle.snap_chains.specs.declared.owner.Input.{Input}
use Rattle.snap_chains.specs.declared.owner.Input.TheVariants.{First, Second}
use Rattle.snap_chains.specs.declared.owner.Owner.{Owner}
use Rattle.snap_chains.specs.Owners.{input_eq, owner_eq}
use Rattle.face_rows.specs.Labels.{answer_on, some_of}
use Rattle.face_sweep.specs.declared.counts.Counts.{Counts}
use Rattle.face_rows.specs.declared.op.Op.{Op}
use Rattle.face_sweep.specs.Counts.{AreCounts, all_shapes, count, count_in}
use Rattle.face_rows.specs.Operations.{answer}
use Rattle.face_rows.proofs.Shapes.{input_itself, same_input, same_owner}
use Rattle.face_rows.proofs.OwnerLemmas.{owner_itself}

-- ---- counts
count_same : (f g : ℕ → Bool) (n : ℕ) → ((k : ℕ) → k < n → f k ≡ g k) → count f n ≡ count g n
count_same f g zero same = refl
count_same f g (suc n) same =
    let rest = count_same f g n (λ k less. same k (omega arith)) in
    λ i. cond (same n (omega arith) i) (suc (rest i)) (rest i)

-- one number more passes
count_more : (f g : ℕ → Bool) (s n : ℕ) → s < n → f s ≡ false → g s ≡ true → ((k : ℕ) → k ≢ s → f k ≡ g k)
    → count g n ≡ suc (count f n)
count_more f g s zero less out in_ same = absurd (omega arith)
count_more f g s (suc n) less out in_ same = ⊎_elim
    (λ (below : s < n).
    let rest = count_more f g s n below out in_ same in
    let here : f n ≡ g n = same n (λ e. let e' : n ≡ s = e in omega arith) in
    by_test (f n) (g n) here rest)
    (λ (le : n ≤ s).
    let at : s ≡ n = omega arith in
    let rest = count_same f g n (λ k lt. same k (λ e. let e' : k ≡ s = e in omega arith)) in
    let f_out : f n ≡ false = subst (λ k. f k ≡ false) at out in
    let g_in : g n ≡ true = subst (λ k. g k ≡ true) at in_ in
    (λ i. cond (g_in i) (suc (count g n)) (count g n)) ∙ ap suc (sym rest)
    ∙ sym (λ i. suc (cond (f_out i) (suc (count f n)) (count f n))))
    (cases_lt s n)
  where
    by_test : (a b : Bool) → a ≡ b → count g n ≡ suc (count f n)
        → cond b (suc (count g n)) (count g n) ≡ suc (cond a (suc (count f n)) (count f n))
    by_test true true e rest = ap suc rest
    by_test true false e rest = absurd cc
    by_test false true e rest = absurd cc
    by_test false false e rest = rest

pub count_le : (f : ℕ → Bool) (n : ℕ) → count f n ≤ n
count_le f zero = omega arith
count_le f (suc n) = by_test (f n) (count_le f n)
  where
    by_test : (b : Bool) → count f n ≤ n → cond b (suc (count f n)) (count f n) ≤ suc n
    by_test true le = omega arith
    by_test false le = omega arith

count_some : (f : ℕ → Bool) (s n : ℕ) → s < n → f s ≡ true → 0 < count f n
count_some f s zero less t = absurd (omega arith)
count_some f s (suc n) less t = ⊎_elim
    (λ (below : s < n). by_test (f n) (count_some f s n below t))
    (λ (le : n ≤ s).
    let at : s ≡ n = omega arith in
    by_true (f n) (subst (λ k. f k ≡ true) at t))
    (cases_lt s n)
  where
    by_test : (b : Bool) → 0 < count f n → 0 < cond b (suc (count f n)) (count f n)
    by_test true h = omega arith
    by_test false h = h

    by_true : (b : Bool) → b ≡ true → 0 < cond b (suc (count f n)) (count f n)
    by_true true e = omega arith
    by_true false e = absurd cc

counted : (f : ℕ → Bool) (n : ℕ) → 0 < count f n → (s : ℕ) × (f s ≡ true)
counted f zero h = absurd (omega arith)
counted f (suc n) h = by_test (f n) refl h (λ g. counted f n g)
  where
    by_test : (b : Bool) → f n ≡ b → 0 < cond b (suc (count f n)) (count f n) → (0 < count f n → (s : ℕ) × (f s ≡ true)) → (s : ℕ) ×
        (f s ≡ true)
    by_test true t g further = (n, t)
    by_test false t g further = further g

-- ---- a shape that is turned
abbrev pub of_input : Input → (Owner → Bool) → ℕ → Bool
of_input input holds shape = holds (record { input = input; shape = shape })

other_false : (o p : Owner) → (o ≡ p → ⊥) → owner_eq o p ≡ false
other_false o p apart = by_test (owner_eq o p) refl
  where
    by_test : (b : Bool) → owner_eq o p ≡ b → b ≡ false
    by_test true e = absurd (apart (same_owner o p e))
    by_test false e = refl

module _ (counts : Counts) (holds : Owner → Bool) (h : AreCounts counts holds) (o : Owner) (inside : o.shape < all_shapes) where
  abbrev turned : Owner → Bool
  turned p = xor (owner_eq o p) (holds p)

  -- its own input has one more, or one less
  pub one_more : holds o ≡ false → count_in o.input turned ≡ suc (count_in o.input holds)
  one_more out = count_more (of_input o.input holds) (of_input o.input turned) o.shape all_shapes inside out
      (ap (λ b. xor b (holds o)) (owner_itself o) ∙ ap not out)
      (λ k apart. sym (ap (λ b. xor b (of_input o.input holds k)) (other_false o (record { input = o.input; shape = k })
      (λ same. apart (sym (ap (λ (p : Owner). p.shape) same))))))

  pub one_less : holds o ≡ true → count_in o.input holds ≡ suc (count_in o.input turned)
  one_less in_ = count_more (of_input o.input turned) (of_input o.input holds) o.shape all_shapes inside
      (ap (λ b. xor b (holds o)) (owner_itself o) ∙ ap not in_) in_
      (λ k apart. ap (λ b. xor b (of_input o.input holds k)) (other_false o (record { input = o.input; shape = k })
      (λ same. apart (sym (ap (λ (p : Owner). p.shape) same)))))

  -- the other input has as many
  pub other_same : (input : Input) → (o.input ≡ input → ⊥) → count_in input turned ≡ count_in input holds
  other_same input apart = count_same (of_input input turned) (of_input input holds) all_shapes
      (λ k less. ap (λ b. xor b (of_input input holds k)) (other_false o (record { input = input; shape = k })
      (λ same. apart (ap (λ (p : Owner). p.input) same))))

  pub still_bounded : (p : Owner) → turned p ≡ true → p.shape < all_shapes
  still_bounded p t = by_test (owner_eq o p) refl t
    where
      by_test : (b : Bool) → owner_eq o p ≡ b → xor b (holds p) ≡ true → p.shape < all_shapes
      by_test true e g = subst (λ (q : Owner). q.shape < all_shapes) (same_owner o p e) inside
      by_test false e g = h.bounded p g

pub some_counted : (holds : Owner → Bool) (o : Owner) → o.shape < all_shapes → holds o ≡ true → 0 < count_in o.input holds
some_counted holds o less t = count_some (of_input o.input holds) o.shape all_shapes less t

-- as code turns a count
pub record IsTurned (count : ℕ) (inside : Bool) (result : ℕ) : Type 0 where
  pub is : result ≡ cond inside (count - 1) (count + 1)

pub turned_first : (counts : Counts) (holds : Owner → Bool) (o : Owner) (inside : Bool) (result : ℕ) → o.shape < all_shapes
    → AreCounts counts holds → holds o ≡ inside → o.input ≡ First → result ≡ cond inside (counts.first - 1) (counts.first + 1)
    → AreCounts (record { first = result; second = counts.second }) (λ p. xor (owner_eq o p) (holds p))
turned_first counts holds o inside result less h is first e = record {
  first = e ∙ by_test inside is;
  second = h.second ∙ sym (other_same counts holds h o less Second (λ same. let g = sym first ∙ same in absurd cc));
  bounded = still_bounded counts holds h o less;
}
  where
    after : ℕ
    after = count_in First (λ p. xor (owner_eq o p) (holds p))

    by_test : (b : Bool) → holds o ≡ b → cond b (counts.first - 1) (counts.first + 1) ≡ after
    by_test true t =
        let own : count_in First holds ≡ suc after =
        subst (λ i. count_in i holds ≡ suc (count_in i (λ p. xor (owner_eq o p) (holds p)))) first (one_less counts holds h o less t) in
        omega (arith, h.first)
    by_test false t =
        let own : after ≡ suc (count_in First holds) =
        subst (λ i. count_in i (λ p. xor (owner_eq o p) (holds p)) ≡ suc (count_in i holds)) first (one_more counts holds h o less t) in
        omega (arith, h.first)

pub turned_second : (counts : Counts) (holds : Owner → Bool) (o : Owner) (inside : Bool) (result : ℕ) → o.shape < all_shapes
    → AreCounts counts holds → holds o ≡ inside → o.input ≡ Second → result ≡ cond inside (counts.second - 1) (counts.second + 1)
    → AreCounts (record { first = counts.first; second = result }) (λ p. xor (owner_eq o p) (holds p))
turned_second counts holds o inside result less h is second e = record {
  first = h.first ∙ sym (other_same counts holds h o less First (λ same. let g = sym second ∙ same in absurd cc));
  second = e ∙ by_test inside is;
  bounded = still_bounded counts holds h o less;
}
  where
    after : ℕ
    after = count_in Second (λ p. xor (owner_eq o p) (holds p))

    by_test : (b : Bool) → holds o ≡ b → cond b (counts.second - 1) (counts.second + 1) ≡ after
    by_test true t =
        let own : count_in Second holds ≡ suc after =
        subst (λ i. count_in i holds ≡ suc (count_in i (λ p. xor (owner_eq o p) (holds p)))) second (one_less counts holds h o less t) in
        omega (arith, h.second)
    by_test false t =
        let own : after ≡ suc (count_in Second holds) =
        subst (λ i. count_in i (λ p. xor (owner_eq o p) (holds p)) ≡ suc (count_in i holds)) second (one_more counts holds h o less t) in
        omega (arith, h.second)

-- ---- no shape
pub none_counted : (n : ℕ) → count (λ k. false) n ≡ 0
none_counted zero = refl
none_counted (suc n) = none_counted n

-- ---- the answer
any_none : {A : Type 0} (test : A → Bool) (xs : List A) → ((x : A) → test x ≡ false) → list_any test xs ≡ false
any_none test [] none = refl
any_none test (x ∷ xs) none = ap₂ (λ a b. a || b) (none x) (any_none test xs none)

-- some shape of the input holds exactly where there is one to count
some_of_count : (input : Input) (n : ℕ) (holds : Owner → Bool) (shapes : List Owner) → n ≡ count_in input holds
    → ((o : Owner) → holds o ≡ true → o.shape < all_shapes) → ((o : Owner) → holds o ≡ true → Contains shapes o)
    → (b : Bool) → (b ≡ true) ↔ (0 < n) → b ≡ some_of input shapes holds
some_of_count input n holds shapes is bounded among true test =
    let s = counted (of_input input holds) all_shapes (subst (λ k. 0 < k) is (test.0 refl)) in
    let o : Owner = record { input = input; shape = s.0 } in
    sym (any_true (λ q. input_eq q.input input && holds q) shapes o (has shapes o (among o s.1))
    (ap (λ b. b && holds o) (input_itself input) ∙ s.1))
some_of_count input n holds shapes is bounded among false test =
    sym (any_none (λ o. input_eq o.input input && holds o) shapes (λ o. by_input o (input_eq o.input input) refl (holds o) refl))
  where
    not_true : false ≡ true → ⊥
    not_true e = absurd cc

    by_input : (o : Owner) (b : Bool) → input_eq o.input input ≡ b → (t : Bool) → holds o ≡ t → (b && t) ≡ false
    by_input o true e true t =
        let some = some_counted holds o (bounded o t) t in
        absurd (not_true (test.1 (subst (λ k. 0 < k) (sym is)
        (subst (λ i. 0 < count_in i holds) (same_input o.input input e) some))))
    by_input o true e false t = refl
    by_input o false e t' t = refl

pub answer_of_counts : (op : Op) (counts : Counts) (holds : Owner → Bool) (shapes : List Owner) (a b : Bool) → AreCounts counts holds
    → ((o : Owner) → holds o ≡ true → Contains shapes o) → (a ≡ true) ↔ (0 < counts.first) → (b ≡ true) ↔ (0 < counts.second)
    → answer op a b ≡ answer_on (answer op) shapes holds
answer_of_counts op counts holds shapes a b h among first second =
    ap₂ (answer op) (some_of_count First counts.first holds shapes h.first h.bounded among a first)
    (some_of_count Second counts.second holds shapes h.second h.bounded among b second)

-- ---- as code has them
pub in_range : (n : ℕ) → n < 2 ^ 32 → n < all_shapes
unfolding all_shapes
in_range n less = less

below_few : (n : ℕ) → n ≤ all_shapes → n ≤ 2 ^ 32
unfolding all_shapes
below_few n le = le

pub few : (counts : Counts) (holds : Owner → Bool) → AreCounts counts holds → (counts.first ≤ 2 ^ 32) × (counts.second ≤ 2 ^ 32)
few counts holds h = (
  below_few counts.first (subst (λ n. n ≤ all_shapes) (sym h.first) (count_le (of_input First holds) all_shapes)),
  below_few counts.second (subst (λ n. n ≤ all_shapes) (sym h.second) (count_le (of_input Second holds) all_shapes)),
)

pub some_first : (counts : Counts) (holds : Owner → Bool) (o : Owner) → AreCounts counts holds → o.input ≡ First → holds o ≡ true
    → 0 < counts.first
some_first counts holds o h first t =
    subst (λ n. 0 < n) (sym h.first) (subst (λ i. 0 < count_in i holds) first (some_counted holds o (h.bounded o t) t))

pub some_second : (counts : Counts) (holds : Owner → Bool) (o : Owner) → AreCounts counts holds → o.input ≡ Second → holds o ≡ true
    → 0 < counts.second
some_second counts holds o h second t =
    subst (λ n. 0 < n) (sym h.second) (subst (λ i. 0 < count_in i holds) second (some_counted holds o (h.bounded o t) t))
