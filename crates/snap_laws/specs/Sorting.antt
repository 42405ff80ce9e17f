-- Lists sorted by insertion, each element once, and the orders that rounding sorts by.
use Rattle.std.specs.Prelude.{List, [], ◌∷◌}
use Rattle.std.specs.declared.cmp.Ordering.{Ordering}
use Rattle.std.specs.declared.cmp.Ordering.TheVariants.{Less, Equal, Greater}
use Rattle.std.specs.Ordering.{int_cmp, nat_cmp, on, then_cmp}
use Rattle.lay_point.specs.declared.point.Point.{Point}
use Rattle.snap_chains.specs.declared.owner.Input.{Input}
use Rattle.snap_chains.specs.declared.owner.Input.TheVariants.{First, Second}
use Rattle.snap_chains.specs.declared.owner.Owner.{Owner}

-- one of three, by what an order answers
abbrev pub by_order : {A : Type 0} → Ordering → A → A → A → A
by_order Less less same more = less
by_order Equal less same more = same
by_order Greater less same more = more

-- x in its place of a list that rises, unless it is there
abbrev pub inserted : {A : Type 0} → (A → A → Ordering) → A → List A → List A
inserted cmp x [] = x ∷ []
inserted cmp x (y ∷ ys) = by_order (cmp x y) (x ∷ y ∷ ys) (y ∷ ys) (y ∷ inserted cmp x ys)

-- the elements of the list, each once, rising
abbrev pub sorted_once : {A : Type 0} → (A → A → Ordering) → List A → List A
sorted_once cmp [] = []
sorted_once cmp (x ∷ xs) = inserted cmp x (sorted_once cmp xs)

-- points by x, then by y
abbrev pub point_order : Point → Point → Ordering
point_order = then_cmp (on (λ p. p.x) int_cmp) (on (λ p. p.y) int_cmp)

-- edges by their first ends, then by their second
abbrev pub edge_order : Point × Point → Point × Point → Ordering
edge_order = then_cmp (on (λ e. e.0) point_order) (on (λ e. e.1) point_order)

abbrev pub input_order : Input → Input → Ordering
input_order First First = Equal
input_order First Second = Less
input_order Second First = Greater
input_order Second Second = Equal

-- owners by input, then by number
abbrev pub owner_order : Owner → Owner → Ordering
owner_order = then_cmp (on (λ o. o.input) input_order) (on (λ o. o.shape) nat_cmp)
