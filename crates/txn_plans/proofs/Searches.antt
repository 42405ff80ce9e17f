-- The search for symbols finds what is reached.
use Rattle.std.proofs.Common.{◌≡◌, ℕ, zero, suc, ◌+◌, Bool, true, false, ◌||◌, cond, nat_eq, List, [], ◌∷◌, ◌++◌, length, map}
use Rattle.std.proofs.Common.{reverse, None, Some, unwrap_or, refl, ap, sym, subst, ◌∙◌, arith, length-append, append_assoc}
use Rattle.std.proofs.lemmas.List.{append-nil, length-map, length-reverse, map-append, reverse-append, reverse-reverse}
use Rattle.std.specs.List.{cons_option}
use Rattle.std.specs.FinMap.{entries}
use Rattle.lay_cells.specs.declared.cell_id.CellId.{CellId}
use Rattle.lay_cells.specs.declared.cell_id.CellId.TheVariants.{Symbol, Top}
use Rattle.lay_cells.specs.SameCell.{cell_eq}
use Rattle.lay_cells.specs.Symbols.{has_symbol}
use Rattle.lay_cells.proofs.GraphLemmas.{cells_swapped, has_more}
use Rattle.lay_layouts.specs.declared.id.ItemId.{ItemId}
use Rattle.lay_layouts.specs.declared.item.Item.{Item}
use Rattle.lay_layouts.specs.declared.item.Item.TheVariants.{Placed, Shape}
use Rattle.lay_layouts.specs.Calls.{Call, calls_among, calls_of}
use Rattle.lay_layouts.specs.Items.{items_in, standing_in}
use Rattle.lay_layouts.specs.Layout.{Layout}
use Rattle.lay_layouts.specs.Lent.{calls_in, calls_lent}
use Rattle.txn_commands.specs.Reach.{explored, is_among, reached, targets}
use Rattle.txn_rules.proofs.Reach.{Goes, among-append, calls_left, calls_left-entered, calls_left-none}
use Rattle.txn_rules.proofs.Reach.{ends, goes_on, one_answer, reached-found}
use Rattle.txn_rules.proofs.Reach.Goes.{entered, passed}
use Rattle.txn_plans.specs.Searching.{called_by, called_in, cells_from, first_in, search_target, searched, symbols_from}

-- the symbols called in a cell are the targets of the calls that are lent
targets-lent : (c : CellId) (es : List (ItemId × Item))
    → targets (calls_among es) c ≡ map Symbol (map search_target (calls_lent (standing_in c es)))
targets-lent c [] = refl
targets-lent c ((id, Shape cell layer rings) ∷ es) = targets-lent c es ∙ by_cell (cell_eq cell c) where
  by_cell : (b : Bool) → map Symbol (map search_target (calls_lent (standing_in c es)))
      ≡ map Symbol (map search_target (calls_lent (cond b ((id, Shape cell layer rings) ∷ standing_in c es) (standing_in c es))))
  by_cell true = refl
  by_cell false = refl
targets-lent c ((id, Placed cell target turn) ∷ es) =
    ap (λ b. cons_option (cond b (Some (Symbol target)) None) (targets (calls_among es) c)) (cells_swapped c cell)
    ∙ by_cell (cell_eq cell c) (targets-lent c es) where
      by_cell : (b : Bool) → targets (calls_among es) c ≡ map Symbol (map search_target (calls_lent (standing_in c es))) →
          cons_option (cond b (Some (Symbol target)) None) (targets (calls_among es) c)
          ≡ map Symbol (map search_target (calls_lent (cond b ((id, Placed cell target turn) ∷ standing_in c es) (standing_in c es))))
      by_cell true rest = ap (λ xs. Symbol target ∷ xs) rest
      by_cell false rest = rest

targets-called : (l : Layout) (c : CellId) → targets (calls_of l) c ≡ map Symbol (called_in l c)
unfolding calls_of calls_in items_in
targets-called l c = targets-lent c (entries l.items)

-- a symbol is among others by its number
pub among-symbols : (n : ℕ) (ns : List ℕ) → is_among (Symbol n) (map Symbol ns) ≡ has_symbol ns n
among-symbols n [] = refl
among-symbols n (m ∷ ns) = ap (λ b. nat_eq n m || b) (among-symbols n ns)

-- what the search by cells finds, the search by numbers finds
record FindsSame (l : Layout) (k : ℕ) (pending found : List ℕ) (rest : List CellId) : Type 0 where
  more : List ℕ
  same : map Symbol more ≡ rest
  finds : searched (called_by l) k pending found ≡ Some (found ++ more)

same_search : (l : Layout) (k : ℕ) (pending found : List ℕ) (seen rest : List CellId) →
    ((n : ℕ) → is_among (Symbol n) seen ≡ has_symbol found n) →
    explored (targets (calls_of l)) k (map Symbol pending) seen ≡ Some rest → FindsSame l k pending found rest
same_search l k [] found seen rest h e = record { more = []; same = cc; finds = ap Some (sym (append-nil found)) }
same_search l zero (n ∷ pending) found seen rest h e = absurd cc
same_search l (suc k) (n ∷ pending) found seen rest h e =
    by_seen (goes_on (targets (calls_of l)) k (Symbol n) (map Symbol pending) seen rest e)
    (λ g. same_search l k pending found seen rest h g)
    (λ later g. same_search l k (called_by l n ++ pending) (found ++ n ∷ []) (Symbol n ∷ seen) later (entered_too) g) where
      entered_too : (m : ℕ) → is_among (Symbol m) (Symbol n ∷ seen) ≡ has_symbol (found ++ n ∷ []) m
      entered_too m = ap (λ b. nat_eq m n || b) (h m) ∙ sym (has_more found n m)

      by_seen : Goes (targets (calls_of l)) k (Symbol n) (map Symbol pending) seen rest →
          (explored (targets (calls_of l)) k (map Symbol pending) seen ≡ Some rest → FindsSame l k pending found rest) →
          ((later : List CellId) → explored (targets (calls_of l)) k (map Symbol (called_by l n ++ pending)) (Symbol n ∷ seen)
          ≡ Some later →
          FindsSame l k (called_by l n ++ pending) (found ++ n ∷ []) later) →
          FindsSame l (suc k) (n ∷ pending) found rest
      by_seen (passed is g) same new =
          let s = same g in
          let here : has_symbol found n ≡ true = sym (h n) ∙ is in
          record { more = s.more; same = s.same; finds = rw here s.finds }
      by_seen (entered later is g j) same new =
          let steps : targets (calls_of l) (Symbol n) ++ map Symbol pending ≡ map Symbol (called_by l n ++ pending) =
          ap (λ xs. xs ++ map Symbol pending) (targets-called l (Symbol n)) ∙ sym (map-append Symbol (called_by l n) pending) in
          let s = new later (subst (λ (p : List CellId). explored (targets (calls_of l)) k p (Symbol n ∷ seen) ≡ Some later) steps g) in
          let here : has_symbol found n ≡ false = sym (h n) ∙ is in
          record {
            more = n ∷ s.more;
            same = ap (λ xs. Symbol n ∷ xs) s.same ∙ j;
            finds = rw here (s.finds ∙ ap Some (append_assoc found (n ∷ []) s.more));
          }

-- so it ends with the cells that are reached
abbrev EndsReached : Layout → CellId → Type 0
EndsReached l from =
    (searched (called_by l) (length (first_in l from) + length (calls_of l)) (first_in l from) [] ≡ Some (symbols_from l from))
    × (cells_from l from ≡ reached l from)

symbol_ends : (l : Layout) (from : ℕ) → EndsReached l (Symbol from)
unfolding symbols_from
symbol_ends l from =
    let s = same_search l (1 + length (calls_of l)) (from ∷ []) [] [] (reached l (Symbol from)) (λ n. refl)
    (reached-found (calls_of l) (Symbol from)) in
    let is : unwrap_or (searched (called_by l) (1 + length (calls_of l)) (from ∷ []) []) [] ≡ s.more = ap (λ o. unwrap_or o []) s.finds in
    (s.finds ∙ ap Some (sym is), ap (map Symbol) is ∙ s.same)

-- behind the top cell what its calls lead to is found
behind_top : (l : Layout) → (rest : List CellId) × (Top ∷ rest ≡ reached l Top)
    × (explored (targets (calls_of l)) (length (calls_of l)) (targets (calls_of l) Top ++ []) (Top ∷ []) ≡ Some rest)
behind_top l =
    let steps : 1 + length (calls_of l) ≡ suc (length (calls_of l)) = omega arith in
    by_seen (goes_on (targets (calls_of l)) (length (calls_of l)) Top [] [] (reached l Top)
    (ap (λ k. explored (targets (calls_of l)) k (Top ∷ []) []) (sym steps) ∙ reached-found (calls_of l) Top)) where
      by_seen : Goes (targets (calls_of l)) (length (calls_of l)) Top [] [] (reached l Top)
          → (rest : List CellId) × (Top ∷ rest ≡ reached l Top)
          × (explored (targets (calls_of l)) (length (calls_of l)) (targets (calls_of l) Top ++ []) (Top ∷ []) ≡ Some rest)
      by_seen (passed is g) = absurd cc
      by_seen (entered later is g j) = (later, j, g)

top_ends : (l : Layout) → EndsReached l Top
unfolding symbols_from
top_ends l =
    let calls = calls_of l in
    let called = called_in l Top in
    let steps = length called + length calls in
    let pending : targets calls Top ≡ map Symbol called = targets-called l Top in
    let count : length (targets calls Top) ≡ length called = ap length pending ∙ length-map called Symbol in
    let entered = calls_left-entered calls Top [] refl in
    let none = calls_left-none calls in
    let found = ends calls steps (targets calls Top) (Top ∷ []) (omega (arith, count, entered, none)) in
    let behind = behind_top l in
    let again : explored (targets calls) (length calls) (targets calls Top) (Top ∷ []) ≡ Some behind.0 =
    ap (λ p. explored (targets calls) (length calls) p (Top ∷ [])) (sym (append-nil (targets calls Top))) ∙ behind.2 in
    let same : found.0 ≡ behind.0 =
    one_answer (targets calls) steps (length calls) (targets calls Top) (Top ∷ []) found.0 behind.0 found.1 again in
    let s = same_search l steps called [] (Top ∷ []) found.0 (λ n. refl)
    (ap (λ p. explored (targets calls) steps p (Top ∷ [])) (sym pending) ∙ found.1) in
    let is : unwrap_or (searched (called_by l) steps called []) [] ≡ s.more = ap (λ o. unwrap_or o []) s.finds in
    (s.finds ∙ ap Some (sym is), ap (λ ns. Top ∷ map Symbol ns) is ∙ ap (λ cs. Top ∷ cs) (s.same ∙ same) ∙ behind.1)

pub ends_reached : (l : Layout) (from : CellId) → EndsReached l from
ends_reached l Top = top_ends l
ends_reached l (Symbol from) = symbol_ends l from

-- how many calls stand in symbols that weren't found
abbrev pub left : Layout → List ℕ → ℕ
left l found = calls_left (calls_of l) (map Symbol found)

left_same : (calls : List Call) (s t : List CellId) → ((c : CellId) → is_among c s ≡ is_among c t) → calls_left calls s ≡ calls_left calls t
left_same [] s t h = refl
left_same (call ∷ calls) s t h = rw (h call.0, left_same calls s t h) refl

turned_round : (a b : Bool) → (a || (b || false)) ≡ (b || a)
turned_round true true = refl
turned_round true false = refl
turned_round false true = refl
turned_round false false = refl

among_pushed : (c d : CellId) (s : List CellId) → is_among c (s ++ d ∷ []) ≡ is_among c (d ∷ s)
among_pushed c d s = among-append c s (d ∷ []) ∙ turned_round (is_among c s) (cell_eq c d)

left_entered : (l : Layout) (n : ℕ) (found : List ℕ) → has_symbol found n ≡ false →
    length (called_by l n) + left l (found ++ n ∷ []) ≡ left l found
left_entered l n found new =
    let unseen : is_among (Symbol n) (map Symbol found) ≡ false = among-symbols n found ∙ new in
    let lens : length (targets (calls_of l) (Symbol n)) ≡ length (called_by l n) =
    ap length (targets-called l (Symbol n)) ∙ length-map (called_by l n) Symbol in
    let same : left l (found ++ n ∷ []) ≡ calls_left (calls_of l) (Symbol n ∷ map Symbol found) =
    ap (calls_left (calls_of l)) (map-append Symbol found (n ∷ []))
    ∙ left_same (calls_of l) (map Symbol found ++ Symbol n ∷ []) (Symbol n ∷ map Symbol found)
    (λ c. among_pushed c (Symbol n) (map Symbol found)) in
    let entered = calls_left-entered (calls_of l) (Symbol n) (map Symbol found) unseen in
    omega (arith, lens, same, entered)

-- the search as far as it has come: what is pending, the last first, is searched within as many steps as it may take
abbrev pub Searches : Layout → List ℕ → List ℕ → List ℕ → Type 0
Searches l pending found all = searched (called_by l) (length pending + left l found) (reverse pending) found ≡ Some all

popped : (l : Layout) (pending rest found all : List ℕ) (n : ℕ) → pending ≡ rest ++ n ∷ [] → Searches l pending found all →
    searched (called_by l) (suc (length rest + left l found)) (n ∷ reverse rest) found ≡ Some all
popped l pending rest found all n e s =
    let back : reverse pending ≡ n ∷ reverse rest = ap reverse e ∙ reverse-append rest (n ∷ []) in
    let len : length pending + left l found ≡ suc (length rest + left l found) =
    ap (λ xs. length xs + left l found) e ∙ ap (λ k. k + left l found) (length-append rest (n ∷ [])) ∙ (omega arith) in
    sym (ap (λ k. searched (called_by l) k (reverse pending) found) len
    ∙ ap (λ p. searched (called_by l) (suc (length rest + left l found)) p found) back) ∙ s

pub goes_in : (l : Layout) (pending rest next found all : List ℕ) (n : ℕ) → pending ≡ rest ++ n ∷ [] → has_symbol found n ≡ false →
    next ≡ rest ++ reverse (called_by l n) → Searches l pending found all → Searches l next (found ++ n ∷ []) all
goes_in l pending rest next found all n e new f s =
    let back : reverse next ≡ called_by l n ++ reverse rest =
    ap reverse f ∙ reverse-append rest (reverse (called_by l n)) ∙ ap (λ xs. xs ++ reverse rest) (reverse-reverse (called_by l n)) in
    let lens : length next ≡ length rest + length (called_by l n) =
    ap length f ∙ length-append rest (reverse (called_by l n)) ∙ ap (λ k. length rest + k) (length-reverse (called_by l n)) in
    let count : length next + left l (found ++ n ∷ []) ≡ length rest + left l found =
    let entered = left_entered l n found new in omega (arith, lens, entered) in
    ap (λ k. searched (called_by l) k (reverse next) (found ++ n ∷ [])) count
    ∙ ap (λ p. searched (called_by l) (length rest + left l found) p (found ++ n ∷ [])) back
    ∙ sym (ap (λ b. cond b (searched (called_by l) (length rest + left l found) (reverse rest) found)
    (searched (called_by l) (length rest + left l found) (called_by l n ++ reverse rest) (found ++ n ∷ []))) new)
    ∙ popped l pending rest found all n e s

-- it begins with the first symbols pending, the last first, and ends with none
pub begins : (l : Layout) (from : CellId) (pending : List ℕ) → pending ≡ reverse (first_in l from) →
    Searches l pending [] (symbols_from l from)
begins l from pending first =
    let none : left l [] ≡ length (calls_of l) = calls_left-none (calls_of l) in
    let back : reverse pending ≡ first_in l from = ap reverse first ∙ reverse-reverse (first_in l from) in
    let count : length pending ≡ length (first_in l from) = ap length first ∙ length-reverse (first_in l from) in
    (λ i. searched (called_by l) (count i + none i) (back i) []) ∙ (ends_reached l from).0

-- fewer are left
pub fewer : (l : Layout) (rest next found : List ℕ) (n : ℕ) → has_symbol found n ≡ false → next ≡ rest ++ reverse (called_by l n) →
    length next + left l (found ++ n ∷ []) ≡ length rest + left l found
fewer l rest next found n new f =
    let lens : length next ≡ length rest + length (called_by l n) =
    ap length f ∙ length-append rest (reverse (called_by l n)) ∙ ap (λ k. length rest + k) (length-reverse (called_by l n)) in
    let entered = left_entered l n found new in omega (arith, lens, entered)
