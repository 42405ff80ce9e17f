-- Without a cycle no walk has more calls than the graph.
use Rattle.std.proofs.Common.{◌≡◌, ◌∙◌, ◌≤◌, ◌<◌, ◌&&◌, ℕ, zero, suc, inl, inr, Bool, true, false}
use Rattle.std.proofs.Common.{not, List, [], ◌∷◌, length, refl, ap, sym, subst, arith, nat_eq, Contains}
use Rattle.std.specs.Prelude.{filter}
use Rattle.std.specs.Bool.{Decides}
use Rattle.std.proofs.lemmas.Bool.Decides.{Decides-and, Decides-eqb}
use Rattle.lay_cells.specs.declared.cell_id.CellId.{CellId}
use Rattle.lay_cells.specs.declared.cell_id.CellId.TheVariants.{Symbol}
use Rattle.lay_cells.specs.SameCell.{cell_eq, cell_eq-Decides}
use Rattle.lay_cells.specs.WalkLists.{AreAllWalks, IsWalk, called_symbol, calls_standing_in, longest, walks_from, walks_within}
use Rattle.lay_cells.specs.Walks.{IsAcyclic, Walks}
use Rattle.lay_cells.specs.Walks.Walks.{goes, stays}
use Rattle.lay_cells.proofs.FewerCalls.{AreAmong, IsAcyclic-fewer}
use Rattle.lay_cells.proofs.MemberLemmas.{contains_behind, contains_cases, contains_filtered}
use Rattle.lay_cells.proofs.MemberLemmas.{contains_first, contains_none, filtered_contains, length-filter_drops}
use Rattle.lay_cells.proofs.WalkListLemmas.{listed, longest-le, only_walks}

abbrev Call : Type 0
Call = CellId × ℕ

abbrev IsWalkOf : List Call → CellId → List Call → Type 0
IsWalkOf calls = IsWalk (calls_standing_in calls) called_symbol

-- a call that stands in a cell is one of the calls, and its first part is the cell
pub stands : (calls : List Call) (cell : CellId) (call : Call) → Contains (calls_standing_in calls cell) call
    → Contains calls call × (call.0 ≡ cell)
stands calls cell call h =
    let both = filtered_contains (λ (c : Call). cell_eq c.0 cell) calls call h in
    (both.0, (cell_eq-Decides call.0 cell).0 both.1)

pub stands_in : (calls : List Call) (cell : CellId) (call : Call) → Contains calls call → call.0 ≡ cell
    → Contains (calls_standing_in calls cell) call
stands_in calls cell call h e = contains_filtered (λ (c : Call). cell_eq c.0 cell) calls call h ((cell_eq-Decides call.0 cell).1 e)

-- a walk leads to each cell in which one of its calls stands
leads_to : (calls : List Call) (cell : CellId) (walk : List Call) (call : Call) → IsWalkOf calls cell walk → Contains walk call
    → Walks calls cell call.0
leads_to calls cell [] call is h = absurd (contains_none call h)
leads_to calls cell (first ∷ walk) call is h =
    let at = stands calls cell first is.0 in
    elim (contains_cases first walk call h) [
      | inl same ↦ subst (λ (c : CellId). Walks calls cell c) (sym at.1 ∙ ap (λ (c : Call). c.0) same) stays
      | inr behind ↦
          goes (subst (λ (c : CellId). Contains calls (c, first.1)) at.1 at.0)
          (leads_to calls (Symbol first.1) walk call is.1 behind)
    ]

call_eq : Call → Call → Bool
call_eq a b = cell_eq a.0 b.0 && nat_eq a.1 b.1

call_eq-Decides : (a b : Call) → Decides (call_eq a b) ((a.0 ≡ b.0) × (a.1 ≡ b.1))
unfolding call_eq
call_eq-Decides a b = Decides-and _ _ (cell_eq-Decides a.0 b.0) (Decides-eqb a.1 b.1)

-- the calls but this one
others : Call → List Call → List Call
others call calls = filter (λ (c : Call). not (call_eq c call)) calls

other : (a b : Call) → (a ≡ b → ⊥) → not (call_eq a b) ≡ true
other a b ne = by_test (call_eq a b) refl where
  by_test : (t : Bool) → call_eq a b ≡ t → not t ≡ true
  by_test true is = let same = (call_eq-Decides a b).0 is in absurd (ne (λ i. (same.0 i, same.1 i)))
  by_test false is = refl

itself : (a : Call) → not (call_eq a a) ≡ false
itself a = ap not ((call_eq-Decides a a).1 (refl, refl))

-- a walk without a call is one by the others
without : (calls : List Call) (call : Call) (cell : CellId) (walk : List Call) → IsWalkOf calls cell walk → (Contains walk call → ⊥)
    → IsWalkOf (others call calls) cell walk
unfolding others
without calls call cell [] is never = tt
without calls call cell (first ∷ walk) is never =
    let at = stands calls cell first is.0 in
    let kept : Contains (filter (λ (c : Call). not (call_eq c call)) calls) first =
    contains_filtered (λ (c : Call). not (call_eq c call)) calls first at.0
    (other first call (λ e. never (subst (λ (c : Call). Contains (first ∷ walk) c) e (contains_first first walk)))) in (
      stands_in (filter (λ (c : Call). not (call_eq c call)) calls) cell first kept at.1,
      without calls call (Symbol first.1) walk is.1 (λ h. never (contains_behind first walk call h)),
    )

others-among : (call : Call) (calls : List Call) → AreAmong (others call calls) calls
unfolding others
others-among call calls c h = (filtered_contains (λ (c : Call). not (call_eq c call)) calls c h).0

others-fewer : (call : Call) (calls : List Call) → Contains calls call → length (others call calls) < length calls
unfolding others
others-fewer call calls h = length-filter_drops (λ (c : Call). not (call_eq c call)) calls call h (itself call)

-- each call is in a walk once, so a walk has at most as many as there are
few_calls : (n : ℕ) (calls : List Call) → length calls ≤ n → IsAcyclic calls → (cell : CellId) (walk : List Call)
    → IsWalkOf calls cell walk → length walk ≤ length calls
few_calls n calls le acyclic cell [] is = omega arith
few_calls zero calls le acyclic cell (call ∷ walk) is =
    let at = stands calls cell call is.0 in absurd (omega (arith, le, at.0.1))
few_calls (suc n) calls le acyclic cell (call ∷ walk) is =
    let at = stands calls cell call is.0 in
    let less = others-fewer call calls at.0 in
    let never : Contains walk call → ⊥ = λ h. acyclic call.0 call.1 at.0 (leads_to calls (Symbol call.1) walk call is.1 h) in
    let rest : length walk ≤ length (others call calls) =
    few_calls n (others call calls) (omega (arith, less, le)) (IsAcyclic-fewer (others call calls) calls (others-among call calls) acyclic)
    (Symbol call.1) walk (without calls call (Symbol call.1) walk is.1 never) in
    omega (arith, rest, less)

-- so all walks are listed, and the walks with one call more are no others
pub all_walks : (calls : List Call) (cell : CellId) → IsAcyclic calls → AreAllWalks calls cell (walks_from calls cell)
unfolding walks_from
all_walks calls cell acyclic walk = (
  λ h. (only_walks (calls_standing_in calls) called_symbol (length calls) cell walk h).0,
  λ is. listed (calls_standing_in calls) called_symbol (length calls) cell walk is
      (few_calls (length calls) calls (omega arith) acyclic cell walk is),
)

pub few_in_all : (calls : List Call) (n : ℕ) (cell : CellId) → IsAcyclic calls
    → longest (walks_within (calls_standing_in calls) called_symbol n cell) ≤ length calls
few_in_all calls n cell acyclic =
    longest-le _ (length calls) (λ walk h. few_calls (length calls) calls (omega arith) acyclic cell walk
    (only_walks (calls_standing_in calls) called_symbol n cell walk h).0)
