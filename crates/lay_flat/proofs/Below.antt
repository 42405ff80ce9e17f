-- Walks, their ends and what is drawn there are the same where the calls and the shapes at the ends of walks are.
use Rattle.std.proofs.Common.{◌≡◌, inl, inr, ℕ, zero, suc, ◌+◌, ◌≤◌, Bool, List, [], ◌∷◌, ◌++◌, length, map, refl, sym, ap, ◌∙◌, arith}
use Rattle.std.specs.Prelude.{Some, Result, Ok, Err, if◌then◌else◌, flat_map, nat_lt, unwrap_or}
use Rattle.lay_point.proofs.Members.{Has, contains}
use Rattle.lay_cells.specs.declared.cell_id.CellId.{CellId}
use Rattle.lay_cells.specs.declared.cell_id.CellId.TheVariants.{Symbol}
use Rattle.lay_cells.specs.WalkLists.{IsWalk, longest, walks_within}
use Rattle.lay_layouts.specs.Layout.{Layout, is_cell}
use Rattle.lay_layouts.specs.Lent.{LentCall, calls_in}
use Rattle.lay_layouts.specs.Sound.{IsSound}
use Rattle.lay_flat.specs.declared.ends.End.{End}
use Rattle.lay_point.specs.Turns.{unturned}
use Rattle.lay_flat.specs.declared.fault.FlatFault.{FlatFault}
use Rattle.lay_flat.specs.declared.fault.FlatFault.TheVariants.{NoCell, TooDeep, TooMany}
use Rattle.lay_flat.specs.declared.flat.TheConstants.{MAX_DEPTH, MAX_RINGS}
use Rattle.lay_flat.specs.Flat.{FlatRing}
use Rattle.lay_flat.specs.Ends.{end_along, end_of, target_of, turn_along, walks_of}
use Rattle.lay_flat.specs.Flattening.{drawn_at, ends_of, flat_at, flat_of, on_success, rings_at, rings_from, tested}
use Rattle.lay_flat.proofs.LayoutWalks.{all_walks, walks_at}
use Rattle.lay_flat.specs.Laws.{HaveSameBelow}

-- lists made of the same lists, element by element
same_flat : {A B : Type 0} (f g : A → List B) (xs : List A) → ((x : A) → Has xs x → f x ≡ g x) → flat_map f xs ≡ flat_map g xs
same_flat f g [] same = refl
same_flat f g (x ∷ xs) same =
    ap (λ ys. ys ++ flat_map f xs) (same x (inl refl)) ∙ ap (λ ys. g x ++ ys) (same_flat f g xs (λ y h. same y (inr h)))

-- the calls at the ends of walks from the cell are the same
abbrev pub SameCalls : Layout → Layout → CellId → Type 0
SameCalls l m cell = (walk : List LentCall) → IsWalk (calls_in l) target_of cell walk
    → calls_in l (end_of cell walk) ≡ calls_in m (end_of cell walk)

abbrev walks : Layout → ℕ → CellId → List (List LentCall)
walks l n cell = walks_within (calls_in l) target_of n cell

-- then so are the walks of at most so many calls
pub same_walks : (l m : Layout) (n : ℕ) (cell : CellId) → SameCalls l m cell → walks l n cell ≡ walks m n cell
unfolding walks_within
same_walks l m zero cell same = refl
same_walks l m (suc n) cell same =
    let here : calls_in l cell ≡ calls_in m cell = same [] tt in
    ap (λ ws. [] ∷ ws)
    (same_flat (further l) (further m) (calls_in l cell) (λ call h. ap (map (λ walk. call ∷ walk)) (same_walks l m n (Symbol call.1)
    (λ walk is. same (call ∷ walk) (contains (calls_in l cell) call h, is))))
    ∙ ap (flat_map (further m)) here) where
      further : Layout → LentCall → List (List LentCall)
      further k call = map (λ walk. call ∷ walk) (walks k n (Symbol call.1))

-- a layout's walks are those of at most so many calls as both layouts have
all_of : (l : Layout) → IsSound l → (cell : CellId) (n : ℕ) → longest (walks_of l cell) ≤ n → walks l n cell ≡ walks_of l cell
all_of l sound cell n few = walks_at l sound.acyclic n cell few

pub same_walks_of : (l m : Layout) → IsSound l → IsSound m → (cell : CellId) → SameCalls l m cell → walks_of l cell ≡ walks_of m cell
same_walks_of l m one other cell same =
    let n = longest (walks_of l cell) + longest (walks_of m cell) in
    sym (all_of l one cell n (omega arith)) ∙ same_walks l m n cell same ∙ all_of m other cell n (omega arith)

-- what is drawn at an end of a walk
pub same_drawn : (l m : Layout) → IsSound l → (cell : CellId) (layer : List ℕ) → HaveSameBelow l m cell layer →
    (ws : List (List LentCall)) → ((walk : List LentCall) → Has ws walk → IsWalk (calls_in l) target_of cell walk) →
    flat_map (drawn_at l layer) (map (end_along cell (Some unturned)) ws) ≡ flat_map (drawn_at m layer)
    (map (end_along cell (Some unturned)) ws)
same_drawn l m sound cell layer same [] all = refl
same_drawn l m sound cell layer same (walk ∷ ws) all =
    let here : drawn_at l layer (end_along cell (Some unturned) walk) ≡ drawn_at m layer (end_along cell (Some unturned) walk) =
    ap (map (λ shape. (unwrap_or (turn_along (Some unturned) walk) unturned, shape.1))) (same.shapes walk (all walk (inl refl))) in
    ap (λ drawn. drawn ++ flat_map (drawn_at l layer) (map (end_along cell (Some unturned)) ws)) here
    ∙ ap (λ drawn. drawn_at m layer (end_along cell (Some unturned) walk) ++ drawn)
    (same_drawn l m sound cell layer same ws (λ other h. all other (inr h)))

same_tested : (l m : Layout) (cell : CellId) → walks_of l cell ≡ walks_of m cell → tested l cell ≡ tested m cell
unfolding tested
same_tested l m cell same =
    ap (λ ws. if nat_lt MAX_DEPTH (longest ws) then Err TooDeep else (if nat_lt MAX_RINGS (length ws) then Err TooMany else Ok tt)) same

same_ends : (l m : Layout) (cell : CellId) → walks_of l cell ≡ walks_of m cell → ends_of l cell ≡ ends_of m cell
unfolding ends_of
same_ends l m cell same = ap (map (end_along cell (Some unturned))) same

same_rings : (l m : Layout) → IsSound l → (cell : CellId) (layer : List ℕ) → HaveSameBelow l m cell layer →
    walks_of l cell ≡ walks_of m cell →
    rings_at l layer (ends_of l cell) ≡ rings_at m layer (ends_of m cell)
unfolding ends_of
same_rings l m sound cell layer same walks =
    ap (rings_from 0) (same_drawn l m sound cell layer same (walks_of l cell) (λ walk h. (all_walks l sound.acyclic cell walk).0
    (contains (walks_of l cell) walk h)))
    ∙ ap (λ ws. rings_at m layer (map (end_along cell (Some unturned)) ws)) walks

-- what two layouts flatten to, where the tests, the ends and the rings are the same
same_answer : (b : Bool) (t u : Result (Unit {0}) FlatFault) (ends others : List End) (rings drawn : List FlatRing) →
    t ≡ u → ends ≡ others → rings ≡ drawn →
    (if b then on_success t (λ _. flat_at ends rings) else Err NoCell)
    ≡ (if b then on_success u (λ _. flat_at others drawn) else Err NoCell)
same_answer b t u ends others rings drawn tests same_end same_ring =
    ap (λ r. if b then on_success r (λ _. flat_at ends rings) else Err NoCell) tests
    ∙ ap (λ es. if b then on_success u (λ _. flat_at es rings) else Err NoCell) same_end
    ∙ ap (λ rs. if b then on_success u (λ _. flat_at others rs) else Err NoCell) same_ring

pub same_flattening : (l m : Layout) → IsSound l → IsSound m → (cell : CellId) (layer : List ℕ) → HaveSameBelow l m cell layer →
    flat_of l cell layer ≡ flat_of m cell layer
unfolding flat_of
same_flattening l m one other cell layer same =
    let walks = same_walks_of l m one other cell same.calls in
    same_answer (is_cell l cell) (tested l cell) (tested m cell) (ends_of l cell) (ends_of m cell)
    (rings_at l layer (ends_of l cell)) (rings_at m layer (ends_of m cell))
    (same_tested l m cell walks) (same_ends l m cell walks) (same_rings l m one cell layer same walks)
    ∙ ap (λ b. if b then on_success (tested m cell) (λ _. flat_at (ends_of m cell)
    (rings_at m layer (ends_of m cell))) else Err NoCell) same.there
