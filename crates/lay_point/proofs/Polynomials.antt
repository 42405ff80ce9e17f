-- Identities of polynomials over the whole numbers, each proved by computing. Both sides are written as expressions over
-- numbered variables; their difference is brought to a sum of terms, a coefficient times a sorted list of variables,
-- in which like terms are added and terms with coefficient 0 are left out. Nothing is left exactly of an identity, so
--     identity (x ∷ y ∷ []) ((# 0 ⊕ # 1) ⊗ (# 0 ⊖ # 1)) (# 0 ⊗ # 0 ⊖ # 1 ⊗ # 1) refl
-- proves (x + y) * (x - y) ≡ x * x - y * y. Any number may stand for a variable, an area too.
--     Expr, #, lit, ⊕, ⊖, ⊗, ⊝   expressions       value vs e   what e is, its variables being the numbers vs
--     normal e   the terms of e                      identity     equal expressions have equal values
use Rattle.std.proofs.Common.{◌≡◌, ℕ, zero, suc, Bool, true, false, cond, List, [], ◌∷◌, ltb, eqb, eqb→eq, T, ℤ, pos, negsuc, ◌+ℤ◌}
use Rattle.std.proofs.Common.{◌-ℤ◌, ◌*ℤ◌, neg_ℤ, refl, sym, ap, ap₂, ◌∙◌, subst, arith}
use borrow.Author.Differences.{up, down, same_in, sum_is_lem, neg_is}
use Rattle.lay_point.proofs.Products.{*ℤ_comm, *ℤ_assoc, *ℤ-+ℤ, +ℤ-*ℤ, neg_ℤ-*ℤ, one-*ℤ, zero-*ℤ, +ℤ_assoc, +ℤ_comm, zero-+ℤ}

infixl 6 ◌⊕◌
infixl 6 ◌⊖◌
infixl 7 ◌⊗◌
pub data Expr : Type 0 where
  # : ℕ → Expr
  lit : ℤ → Expr
  ◌⊕◌ : Expr → Expr → Expr
  ◌⊖◌ : Expr → Expr → Expr
  ◌⊗◌ : Expr → Expr → Expr
  ⊝ : Expr → Expr

-- the number of this index, 0 beyond the last
abbrev pub variable : List ℤ → ℕ → ℤ
variable [] i = pos 0
variable (v ∷ vs) zero = v
variable (v ∷ vs) (suc i) = variable vs i

abbrev pub value : List ℤ → Expr → ℤ
value vs (# i) = variable vs i
value vs (lit c) = c
value vs (a ⊕ b) = value vs a +ℤ value vs b
value vs (a ⊖ b) = value vs a -ℤ value vs b
value vs (a ⊗ b) = value vs a *ℤ value vs b
value vs (⊝ a) = neg_ℤ (value vs a)

-- a sum of terms: a list of variables, its coefficient, and the terms that follow
pub data Sum : Type 0 where
  nothing : Sum
  term : List ℕ → ℤ → Sum → Sum

pub data Order : Type 0 where
  before same behind : Order

abbrev pub order : List ℕ → List ℕ → Order
order [] [] = same
order [] (j ∷ js) = before
order (i ∷ is) [] = behind
order (i ∷ is) (j ∷ js) =
    let next = order is js in
    cond (eqb i j) next (cond (ltb i j) before behind)

abbrev pub is_zero : ℤ → Bool
is_zero (pos zero) = true
is_zero (pos (suc n)) = false
is_zero (negsuc n) = false

abbrev pub kept : List ℕ → ℤ → Sum → Sum
kept m c s = cond (is_zero c) s (term m c s)

abbrev pub placed : Order → List ℕ → ℤ → List ℕ → ℤ → Sum → Sum → Sum
placed before m c n d s further = term m c (term n d s)
placed same m c n d s further = kept m (c +ℤ d) s
placed behind m c n d s further = term n d further

-- one term more
abbrev pub add_term : List ℕ → ℤ → Sum → Sum
add_term m c nothing = kept m c nothing
add_term m c (term n d s) =
    let further = add_term m c s in
    placed (order m n) m c n d s further

abbrev pub add_sums : Sum → Sum → Sum
add_sums nothing t = t
add_sums (term m c s) t = add_term m c (add_sums s t)

-- one variable more, in its place
abbrev pub add_variable : ℕ → List ℕ → List ℕ
add_variable i [] = i ∷ []
add_variable i (j ∷ js) =
    let further = add_variable i js in
    cond (ltb i j) (i ∷ j ∷ js) (j ∷ further)

abbrev pub all_variables : List ℕ → List ℕ → List ℕ
all_variables [] n = n
all_variables (i ∷ is) n = add_variable i (all_variables is n)

abbrev pub add_multiple : List ℕ → ℤ → Sum → Sum → Sum
add_multiple m c nothing t = t
add_multiple m c (term n d s) t = add_term (all_variables m n) (c *ℤ d) (add_multiple m c s t)

abbrev pub product : Sum → Sum → Sum
product nothing t = nothing
product (term m c s) t = add_multiple m c t (product s t)

abbrev pub normal : Expr → Sum
normal (# i) = term (i ∷ []) (pos 1) nothing
normal (lit c) = kept [] c nothing
normal (a ⊕ b) = add_sums (normal a) (normal b)
normal (a ⊖ b) = add_multiple [] (negsuc 0) (normal b) (normal a)
normal (a ⊗ b) = product (normal a) (normal b)
normal (⊝ a) = add_multiple [] (negsuc 0) (normal a) nothing

-- what variables and sums of terms are
multiplied : List ℤ → List ℕ → ℤ
multiplied vs [] = pos 1
multiplied vs (i ∷ is) = variable vs i *ℤ multiplied vs is

summed : List ℤ → Sum → ℤ
summed vs nothing = pos 0
summed vs (term m c s) = (c *ℤ multiplied vs m) +ℤ summed vs s

IsSame : Order → Type 0
IsSame before = ⊥
IsSame same = Unit {0}
IsSame behind = ⊥

order_by : (vs : List ℤ) (i j : ℕ) (is js : List ℕ) (e l : Bool) → eqb i j ≡ e
    → (IsSame (order is js) → multiplied vs is ≡ multiplied vs js) → IsSame (cond e (order is js) (cond l before behind))
    → multiplied vs (i ∷ is) ≡ multiplied vs (j ∷ js)
unfolding IsSame multiplied
order_by vs i j is js true l e rest h = ap₂ (λ x y. variable vs x *ℤ y) (eqb→eq i j (subst T (sym e) tt)) (rest h)
order_by vs i j is js false true e rest h = absurd h
order_by vs i j is js false false e rest h = absurd h

order_same : (vs : List ℤ) (m n : List ℕ) → IsSame (order m n) → multiplied vs m ≡ multiplied vs n
unfolding IsSame
order_same vs [] [] h = refl
order_same vs [] (j ∷ js) h = absurd h
order_same vs (i ∷ is) [] h = absurd h
order_same vs (i ∷ is) (j ∷ js) h = order_by vs i j is js (eqb i j) (ltb i j) refl (order_same vs is js) h

kept-value : (vs : List ℤ) (m : List ℕ) (c : ℤ) (s : Sum) → summed vs (kept m c s) ≡ (c *ℤ multiplied vs m) +ℤ summed vs s
unfolding summed
kept-value vs m (pos zero) s = sym (ap (λ x. x +ℤ summed vs s) (zero-*ℤ (multiplied vs m)) ∙ zero-+ℤ (summed vs s))
kept-value vs m (pos (suc n)) s = refl
kept-value vs m (negsuc n) s = refl

-- x + (y + z) = y + (x + z)
swap_sum : (x y z : ℤ) → x +ℤ (y +ℤ z) ≡ y +ℤ (x +ℤ z)
swap_sum x y z = sym (+ℤ_assoc x y z) ∙ ap (λ w. w +ℤ z) (+ℤ_comm x y) ∙ +ℤ_assoc y x z

pub swap_product : (x y z : ℤ) → x *ℤ (y *ℤ z) ≡ y *ℤ (x *ℤ z)
swap_product x y z = sym (*ℤ_assoc x y z) ∙ ap (λ w. w *ℤ z) (*ℤ_comm x y) ∙ *ℤ_assoc y x z

placed-value : (vs : List ℤ) (o : Order) (m : List ℕ) (c : ℤ) (n : List ℕ) (d : ℤ) (s further : Sum)
    → (IsSame o → multiplied vs m ≡ multiplied vs n) → summed vs further ≡ (c *ℤ multiplied vs m) +ℤ summed vs s
    → summed vs (placed o m c n d s further) ≡ (c *ℤ multiplied vs m) +ℤ ((d *ℤ multiplied vs n) +ℤ summed vs s)
unfolding summed IsSame
placed-value vs before m c n d s further e h = refl
placed-value vs same m c n d s further e h =
    kept-value vs m (c +ℤ d) s
    ∙ ap (λ x. x +ℤ summed vs s) (+ℤ-*ℤ c d (multiplied vs m) ∙ ap (λ x. (c *ℤ multiplied vs m) +ℤ (d *ℤ x)) (e tt))
    ∙ +ℤ_assoc (c *ℤ multiplied vs m) (d *ℤ multiplied vs n) (summed vs s)
placed-value vs behind m c n d s further e h =
    ap (λ x. (d *ℤ multiplied vs n) +ℤ x) h ∙ swap_sum (d *ℤ multiplied vs n) (c *ℤ multiplied vs m) (summed vs s)

add_term-value : (vs : List ℤ) (m : List ℕ) (c : ℤ) (s : Sum) → summed vs (add_term m c s) ≡ (c *ℤ multiplied vs m) +ℤ summed vs s
unfolding summed
add_term-value vs m c nothing = kept-value vs m c nothing
add_term-value vs m c (term n d s) = placed-value vs (order m n) m c n d s (add_term m c s) (order_same vs m n) (add_term-value vs m c s)

add_sums-value : (vs : List ℤ) (s t : Sum) → summed vs (add_sums s t) ≡ summed vs s +ℤ summed vs t
unfolding summed
add_sums-value vs nothing t = sym (zero-+ℤ (summed vs t))
add_sums-value vs (term m c s) t =
    add_term-value vs m c (add_sums s t)
    ∙ ap (λ x. (c *ℤ multiplied vs m) +ℤ x) (add_sums-value vs s t)
    ∙ sym (+ℤ_assoc (c *ℤ multiplied vs m) (summed vs s) (summed vs t))

placed_variable : (vs : List ℤ) (i j : ℕ) (js further : List ℕ) (b : Bool)
    → multiplied vs further ≡ variable vs i *ℤ multiplied vs js
    → multiplied vs (cond b (i ∷ j ∷ js) (j ∷ further)) ≡ variable vs i *ℤ (variable vs j *ℤ multiplied vs js)
unfolding multiplied
placed_variable vs i j js further true h = refl
placed_variable vs i j js further false h = ap (λ x. variable vs j *ℤ x) h ∙ swap_product (variable vs j) (variable vs i) (multiplied vs js)

add_variable-value : (vs : List ℤ) (i : ℕ) (m : List ℕ) → multiplied vs (add_variable i m) ≡ variable vs i *ℤ multiplied vs m
unfolding multiplied
add_variable-value vs i [] = refl
add_variable-value vs i (j ∷ js) = placed_variable vs i j js (add_variable i js) (ltb i j) (add_variable-value vs i js)

all_variables-value : (vs : List ℤ) (m n : List ℕ) → multiplied vs (all_variables m n) ≡ multiplied vs m *ℤ multiplied vs n
unfolding multiplied
all_variables-value vs [] n = sym (one-*ℤ (multiplied vs n))
all_variables-value vs (i ∷ is) n =
    add_variable-value vs i (all_variables is n)
    ∙ ap (λ x. variable vs i *ℤ x) (all_variables-value vs is n)
    ∙ sym (*ℤ_assoc (variable vs i) (multiplied vs is) (multiplied vs n))

-- (c * d) * (m * n) = (c * m) * (d * n)
swap_factors : (c d m n : ℤ) → (c *ℤ d) *ℤ (m *ℤ n) ≡ (c *ℤ m) *ℤ (d *ℤ n)
swap_factors c d m n =
    *ℤ_assoc c d (m *ℤ n) ∙ ap (λ x. c *ℤ x) (swap_product d m n) ∙ sym (*ℤ_assoc c m (d *ℤ n))

add_multiple-value : (vs : List ℤ) (m : List ℕ) (c : ℤ) (s t : Sum)
    → summed vs (add_multiple m c s t) ≡ ((c *ℤ multiplied vs m) *ℤ summed vs s) +ℤ summed vs t
unfolding summed
add_multiple-value vs m c nothing t =
    sym (ap (λ x. x +ℤ summed vs t) (*ℤ_comm (c *ℤ multiplied vs m) (pos 0) ∙ zero-*ℤ (c *ℤ multiplied vs m)) ∙ zero-+ℤ (summed vs t))
add_multiple-value vs m c (term n d s) t =
    let cm : ℤ = c *ℤ multiplied vs m in
    let dn : ℤ = d *ℤ multiplied vs n in
    add_term-value vs (all_variables m n) (c *ℤ d) (add_multiple m c s t)
    ∙ ap₂ (λ x y. x +ℤ y)
    (ap (λ x. (c *ℤ d) *ℤ x) (all_variables-value vs m n) ∙ swap_factors c d (multiplied vs m) (multiplied vs n))
    (add_multiple-value vs m c s t)
    ∙ sym (+ℤ_assoc (cm *ℤ dn) (cm *ℤ summed vs s) (summed vs t))
    ∙ ap (λ x. x +ℤ summed vs t) (sym (*ℤ-+ℤ cm dn (summed vs s)))

product-value : (vs : List ℤ) (s t : Sum) → summed vs (product s t) ≡ summed vs s *ℤ summed vs t
unfolding summed
product-value vs nothing t = sym (zero-*ℤ (summed vs t))
product-value vs (term m c s) t =
    add_multiple-value vs m c t (product s t)
    ∙ ap (λ x. ((c *ℤ multiplied vs m) *ℤ summed vs t) +ℤ x) (product-value vs s t)
    ∙ sym (+ℤ-*ℤ (c *ℤ multiplied vs m) (summed vs s) (summed vs t))

-- minus 1 times a number, and another
minus : (x y : ℤ) → ((negsuc 0 *ℤ pos 1) *ℤ x) +ℤ y ≡ y -ℤ x
minus x y = ap (λ z. z +ℤ y) (neg_ℤ-*ℤ (pos 1) x ∙ ap neg_ℤ (one-*ℤ x)) ∙ +ℤ_comm (neg_ℤ x) y

plus-zero : (x : ℤ) → x +ℤ pos 0 ≡ x
plus-zero x = +ℤ_comm x (pos 0) ∙ zero-+ℤ x

times-one : (x : ℤ) → x *ℤ pos 1 ≡ x
times-one x = *ℤ_comm x (pos 1) ∙ one-*ℤ x

-- the terms of an expression sum up to its value
normal-value : (vs : List ℤ) (e : Expr) → summed vs (normal e) ≡ value vs e
unfolding summed multiplied
normal-value vs (# i) = plus-zero (pos 1 *ℤ (variable vs i *ℤ pos 1)) ∙ one-*ℤ (variable vs i *ℤ pos 1) ∙ times-one (variable vs i)
normal-value vs (lit c) = kept-value vs [] c nothing ∙ plus-zero (c *ℤ pos 1) ∙ times-one c
normal-value vs (a ⊕ b) = add_sums-value vs (normal a) (normal b) ∙ ap₂ (λ x y. x +ℤ y) (normal-value vs a) (normal-value vs b)
normal-value vs (a ⊖ b) =
    add_multiple-value vs [] (negsuc 0) (normal b) (normal a)
    ∙ ap₂ (λ x y. ((negsuc 0 *ℤ pos 1) *ℤ x) +ℤ y) (normal-value vs b) (normal-value vs a)
    ∙ minus (value vs b) (value vs a)
normal-value vs (a ⊗ b) = product-value vs (normal a) (normal b) ∙ ap₂ (λ x y. x *ℤ y) (normal-value vs a) (normal-value vs b)
normal-value vs (⊝ a) =
    add_multiple-value vs [] (negsuc 0) (normal a) nothing
    ∙ ap (λ x. ((negsuc 0 *ℤ pos 1) *ℤ x) +ℤ pos 0) (normal-value vs a)
    ∙ minus (value vs a) (pos 0) ∙ zero-+ℤ (neg_ℤ (value vs a))

equal_of_difference : (x y : ℤ) → pos 0 ≡ x -ℤ y → x ≡ y
equal_of_difference x y e = same_in x y (omega (arith, sum_is_lem x (neg_ℤ y), neg_is y, ap up e, ap down e))

-- expressions with the same terms have the same value
pub identity : (vs : List ℤ) (a b : Expr) → normal (a ⊖ b) ≡ nothing → value vs a ≡ value vs b
unfolding summed
identity vs a b e = equal_of_difference (value vs a) (value vs b) (sym (ap (λ s. summed vs s) e) ∙ normal-value vs (a ⊖ b))
