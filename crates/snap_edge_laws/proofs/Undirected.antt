-- Undirected edges: each comes from a pair of neighbours, with the same ends.
use Rattle.std.proofs.Common.{◌≡◌, ◌⊎◌, inl, inr, Bool, true, false, cond, List, [], ◌∷◌, map, refl, sym, ap, subst, ◌∙◌}
use Rattle.std.proofs.Common.{⊎_elim}
use Rattle.lay_point.specs.declared.point.Point.{Point}
use Rattle.snap_edge_laws.specs.Edges.{AreOneEdge}
use Rattle.lay_point.specs.Rising.{pairs}
use Rattle.lay_point.specs.Parity.{xor}
use Rattle.snap_edge_laws.specs.Undirected.{walked_edges}
use Rattle.lay_point.specs.Edges.{is_before, undirected}
use Rattle.lay_point.proofs.Members.{Has, has-append, has-append_left, has-append_right}
use Rattle.lay_point.proofs.EdgeOrder.{before_is_strict, before_total}
use Rattle.lay_point.proofs.Parity.{xor_comm}
use Rattle.lay_point.proofs.EdgeOrder.{before_by_test, test_by_before}

-- ---- the same ends
-- e is p, or p turned
unfoldable pub HasEndsOf : Point × Point → Point × Point → Type 0
HasEndsOf e p = ((e.0 ≡ p.0) × (e.1 ≡ p.1)) ⊎ ((e.0 ≡ p.1) × (e.1 ≡ p.0))

pub undirected_ends : (p : Point × Point) → HasEndsOf (undirected p) p
unfolding HasEndsOf
undirected_ends p = by_test (is_before p.0 p.1)
  where
    by_test : (b : Bool) → HasEndsOf (cond b p (p.1, p.0)) p
    by_test true = inl (refl, refl)
    by_test false = inr (refl, refl)

-- what doesn't depend on the order of the ends
pub undirected_xor : (f : Point → Bool) (p : Point × Point) → xor (f (undirected p).0) (f (undirected p).1) ≡ xor (f p.0) (f p.1)
undirected_xor f p = by_test (is_before p.0 p.1)
  where
    by_test : (b : Bool) → xor (f (cond b p (p.1, p.0)).0) (f (cond b p (p.1, p.0)).1) ≡ xor (f p.0) (f p.1)
    by_test true = refl
    by_test false = xor_comm (f p.1) (f p.0)

-- pairs with the same two different ends go one undirected edge
undirected_turned : (a b : Point) → ¬ (a ≡ b) → undirected (a, b) ≡ undirected (b, a)
undirected_turned a b differ = by_tests (a, b) (b, a) (is_before a b) (is_before b a)
    (λ e g. before_is_strict.irreflexive a (before_is_strict.transitive a b a (before_by_test a b e) (before_by_test b a g)))
    (λ e g. ⊎_elim differ (λ order. ⊎_elim
    (λ less. absurd (true_and_false (is_before a b) (test_by_before a b less) e))
    (λ more. absurd (true_and_false (is_before b a) (test_by_before b a more) g)) order) (before_total a b))
  where
    true_and_false : (c : Bool) → c ≡ true → c ≡ false → ⊥
    true_and_false c e g = absurd cc

    by_tests : (e f : Point × Point) (c d : Bool) → (c ≡ true → d ≡ true → ⊥) → (c ≡ false → d ≡ false → ⊥) → cond c e f ≡ cond d f e
    by_tests e f true true both none = absurd (both refl refl)
    by_tests e f true false both none = refl
    by_tests e f false true both none = refl
    by_tests e f false false both none = absurd (none refl refl)

pub one_undirected : (p q : Point × Point) → ¬ (p.0 ≡ p.1) → AreOneEdge p.0 p.1 q.0 q.1 → undirected p ≡ undirected q
one_undirected p q differ (inl e) = ap undirected (λ i. (e.0 i, e.1 i))
one_undirected p q differ (inr e) = undirected_turned p.0 p.1 differ ∙ ap undirected (λ i. (e.1 i, e.0 i))

-- ---- where an edge comes from
pub record IsGone {A E : Type 0} (u : A × A → E) (walks : List (List A)) (e : E) : Type 0 where
  pub walk : List A
  pub pair : A × A
  pub given : Has walks walk
  pub neighbours : Has (pairs walk) pair
  pub goes : u pair ≡ e

has-map : {A E : Type 0} (u : A → E) (xs : List A) (e : E) → Has (map u xs) e → (x : A) × Has xs x × (u x ≡ e)
has-map u [] e m = absurd m
has-map u (x ∷ xs) e (inl g) = (x, inl refl, g)
has-map u (x ∷ xs) e (inr m) = let r = has-map u xs e m in (r.0, inr r.1, r.2)

map-has : {A E : Type 0} (u : A → E) (xs : List A) (x : A) → Has xs x → Has (map u xs) (u x)
map-has u [] x m = absurd m
map-has u (y ∷ xs) x (inl g) = inl (ap u g)
map-has u (y ∷ xs) x (inr m) = inr (map-has u xs x m)

pub gone : {A E : Type 0} (u : A × A → E) (walks : List (List A)) (e : E) → Has (walked_edges u walks) e → IsGone u walks e
gone u [] e m = absurd m
gone u (w ∷ ws) e m = ⊎_elim
    (λ (here : Has (map u (pairs w)) e). let r = has-map u (pairs w) e here in
    record { walk = w; pair = r.0; given = inl refl; neighbours = r.1; goes = r.2 })
    (λ (there : Has (walked_edges u ws) e). let r = gone u ws e there in
    record { walk = r.walk; pair = r.pair; given = inr r.given; neighbours = r.neighbours; goes = r.goes })
    (has-append (map u (pairs w)) (walked_edges u ws) e m)

goes_edge : {A E : Type 0} (u : A × A → E) (walks : List (List A)) (w : List A) (p : A × A) → Has walks w → Has (pairs w) p
    → Has (walked_edges u walks) (u p)
goes_edge u [] w p m g = absurd m
goes_edge u (v ∷ ws) w p (inl e) g =
    has-append_left (map u (pairs v)) (walked_edges u ws) (u p) (map-has u (pairs v) p (subst (λ z. Has (pairs z) p) (sym e) g))
goes_edge u (v ∷ ws) w p (inr m) g = has-append_right (map u (pairs v)) (walked_edges u ws) (u p) (goes_edge u ws w p m g)

-- more walks go more edges
pub edges_of_more : {A E : Type 0} (u : A × A → E) (some walks : List (List A)) → ((w : List A) → Has some w → Has walks w)
    → (e : E) → Has (walked_edges u some) e → Has (walked_edges u walks) e
edges_of_more u some walks inside e m =
    let r = gone u some e m in
    subst (Has (walked_edges u walks)) r.goes (goes_edge u walks r.walk r.pair (inside r.walk r.given) r.neighbours)
