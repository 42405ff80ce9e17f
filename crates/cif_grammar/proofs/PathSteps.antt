-- Reading of a path goes on vertex by vertex, and the count of its steps never runs out.
use Rattle.std.proofs.Common.{◌≡◌, ℕ, zero, suc, ◌+◌, ◌<◌, true, false, List, [], ◌∷◌, ◌++◌, length, Some, None, refl, ap, arith, add-one}
use Rattle.std.proofs.Common.{Option, Bool, cond}
use Rattle.std.specs.List.{list_all}
use Rattle.cif_grammar.specs.Bytes.{is_blank}
use Rattle.byte_io.specs.Steps.{◌>>=◌}
use Rattle.cif_grammar.specs.declared.paths.Vertex.{Vertex}
use Rattle.cif_grammar.specs.Paths.{next_vertex_at, path_of, vertex_at, vertices_from}
use Rattle.cif_grammar.proofs.PathGrammar.{next_takes, next_length}

-- steps that are alike where there is something lead to the same
pub alike : {A B : Type 0} (o : Option A) (f g : A → Option B) → ((x : A) → o ≡ Some x → f x ≡ g x) → (o >>= f) ≡ (o >>= g)
alike None f g same = refl
alike (Some x) f g same = same x refl

choice : {A : Type 0} (b : Bool) (x y z : A) → (b ≡ false → y ≡ z) → cond b x y ≡ cond b x z
choice true x y z same = refl
choice false x y z same = same refl

pub next_shorter : (bytes : List ℕ) (v : Vertex) (rest : List ℕ) → next_vertex_at bytes ≡ Some (v, rest) → length rest < length bytes
next_shorter bytes v rest e =
    let found = next_takes bytes v rest e in
    let shorter = next_length bytes v found.0 in
    omega (arith, ap length found.1)

-- more steps than there are bytes are all as good
enough : (n m : ℕ) (found : List Vertex) (bytes : List ℕ) → length bytes < n → length bytes < m
    → vertices_from n found bytes ≡ vertices_from m found bytes
unfolding vertices_from
enough zero m found bytes h k = absurd (omega arith)
enough (suc n) zero found bytes h k = absurd (omega arith)
enough (suc n) (suc m) found bytes h k =
    choice (list_all is_blank bytes) _ _ _ (λ _. alike (next_vertex_at bytes) _ _ (λ next e.
    let shorter = next_shorter bytes next.0 next.1 e in
    enough n m (found ++ next.0 ∷ []) next.1 (omega arith) (omega arith)))

pub vertices_done : (found : List Vertex) (bytes : List ℕ) → list_all is_blank bytes ≡ true
    → vertices_from (length bytes + 1) found bytes ≡ Some found
unfolding vertices_from
vertices_done found bytes blank = rw (add-one, blank) refl

pub vertices_none : (found : List Vertex) (bytes : List ℕ) → list_all is_blank bytes ≡ false → next_vertex_at bytes ≡ None
    → vertices_from (length bytes + 1) found bytes ≡ None
unfolding vertices_from
vertices_none found bytes blank none = rw (add-one, blank, none) refl

pub vertices_step : (found : List Vertex) (bytes : List ℕ) (v : Vertex) (rest : List ℕ) → list_all is_blank bytes ≡ false
    → next_vertex_at bytes ≡ Some (v, rest)
    → vertices_from (length bytes + 1) found bytes ≡ vertices_from (length rest + 1) (found ++ v ∷ []) rest
unfolding vertices_from
vertices_step found bytes v rest blank next =
    let shorter = next_shorter bytes v rest next in
    rw (add-one, blank, next) (enough (length bytes) (length rest + 1) (found ++ v ∷ []) rest (omega arith) (omega arith))

pub path_none : (bytes : List ℕ) → vertex_at bytes ≡ None → path_of bytes ≡ None
unfolding path_of
path_none bytes none = rw none refl

pub path_begun : (bytes : List ℕ) (v : Vertex) (rest : List ℕ) → vertex_at bytes ≡ Some (v, rest)
    → vertices_from (length rest + 1) (v ∷ []) rest ≡ path_of bytes
unfolding path_of
path_begun bytes v rest first = rw first refl
