-- The cells that are reached: the search for them ends, finds just those that walks lead to, and depends on their calls alone.
use Rattle.std.proofs.Common.{◌≡◌, ◌↔◌, ◌⊎◌, inl, inr, ℕ, zero, suc, ◌+◌, ◌≤◌, Bool, true, false, ◌||◌, cond, List, [], ◌∷◌, ◌++◌}
use Rattle.std.proofs.Common.{length, Option, None, Some, option_map, unwrap_or, Contains, refl, ap, sym, subst, ◌∙◌, arith}
use Rattle.std.proofs.Common.{length-append}
use Rattle.std.proofs.lemmas.Bool.{false_from_ne_true, or_cases, or_left, or_right, true≢false}
use Rattle.std.proofs.lemmas.List.Elements.{Contains-append_cases, Contains-append_right}
use Rattle.std.specs.FinMap.{entries}
use Rattle.std.specs.List.{AllByRecursion, cons_option, filter, filter_map}
use Rattle.lay_point.proofs.ListLaws.{all_weaker}
use Rattle.lay_cells.specs.declared.cell_id.CellId.{CellId}
use Rattle.lay_cells.specs.declared.cell_id.CellId.TheVariants.{Symbol}
use Rattle.lay_cells.specs.SameCell.{cell_eq, cell_eq-Decides}
use Rattle.lay_cells.specs.Walks.{Walks}
use Rattle.lay_cells.specs.Walks.Walks.{goes, stays}
use Rattle.lay_layouts.specs.declared.id.ItemId.{ItemId}
use Rattle.lay_layouts.specs.declared.item.Item as items
use Rattle.lay_layouts.specs.declared.item.Item.TheVariants.{Placed, Shape}
use Rattle.lay_layouts.specs.Calls.{Call, calls_among, calls_of}
use Rattle.lay_layouts.specs.IdOrder.{ids_exact, ids_total}
use Rattle.lay_layouts.specs.Layout.{Layout}
use Rattle.txn_commands.specs.declared.element.Element.TheVariants.{Calls}
use Rattle.txn_commands.specs.Agreement.{Agree}
use Rattle.txn_commands.specs.Lies.{lies}
use Rattle.txn_commands.specs.Reach.{explored, is_among, reached, reached_by, targets}
use Rattle.txn_commands.proofs.Lists.{all_joined}
use Rattle.txn_commands.proofs.Lying.{filter-alike_maps}

-- what a mapped option is made of
pub mapped : {A B : Type 0} (f : A → B) (o : Option A) (y : B) → option_map f o ≡ Some y → (x : A) × (o ≡ Some x) × (f x ≡ y)
mapped f None y h = absurd cc
mapped f (Some x) y h = (x, refl, cc)

-- the search goes on with a cell that was seen, or finds it
pub data Goes (step : CellId → List CellId) (steps : ℕ) (cell : CellId) (pending seen found : List CellId) : Type 0 where
  passed : is_among cell seen ≡ true → explored step steps pending seen ≡ Some found → Goes step steps cell pending seen found
  entered : (rest : List CellId) → is_among cell seen ≡ false → explored step steps (step cell ++ pending) (cell ∷ seen) ≡ Some rest
      → cell ∷ rest ≡ found → Goes step steps cell pending seen found

pub goes_on : (step : CellId → List CellId) (steps : ℕ) (cell : CellId) (pending seen found : List CellId) →
    explored step (suc steps) (cell ∷ pending) seen ≡ Some found → Goes step steps cell pending seen found
goes_on step steps cell pending seen found = by_seen (is_among cell seen) refl where
  by_seen : (b : Bool) → is_among cell seen ≡ b →
      cond b (explored step steps pending seen) (option_map (λ rest. cell ∷ rest)
      (explored step steps (step cell ++ pending) (cell ∷ seen)))
      ≡ Some found → Goes step steps cell pending seen found
  by_seen true is h = passed is h
  by_seen false is h =
      let parts = mapped (λ rest. cell ∷ rest) (explored step steps (step cell ++ pending) (cell ∷ seen)) found h in
      entered parts.0 is parts.1 parts.2

-- all searches from these cells that end find the same
pub one_answer : (step : CellId → List CellId) (m n : ℕ) (pending seen xs ys : List CellId) → explored step m pending seen ≡ Some xs →
    explored step n pending seen ≡ Some ys → xs ≡ ys
one_answer step m n [] seen xs ys h g = cc
one_answer step zero n (c ∷ pending) seen xs ys h g = absurd cc
one_answer step (suc m) zero (c ∷ pending) seen xs ys h g = absurd cc
one_answer step (suc m) (suc n) (c ∷ pending) seen xs ys h g =
    by_first (goes_on step m c pending seen xs h) (goes_on step n c pending seen ys g)
    (one_answer step m n pending seen xs ys) (λ us vs. one_answer step m n (step c ++ pending) (c ∷ seen) us vs) where
      by_first : Goes step m c pending seen xs → Goes step n c pending seen ys →
          (explored step m pending seen ≡ Some xs → explored step n pending seen ≡ Some ys → xs ≡ ys) →
          ((us vs : List CellId) → explored step m (step c ++ pending) (c ∷ seen) ≡ Some us →
          explored step n (step c ++ pending) (c ∷ seen) ≡ Some vs → us ≡ vs) → xs ≡ ys
      by_first (passed is e) (passed js f) same more = same e f
      by_first (passed is e) (entered vs js f k) same more = absurd (true≢false (sym is ∙ js))
      by_first (entered us is e j) (passed js f) same more = absurd (true≢false (sym js ∙ is))
      by_first (entered us is e j) (entered vs js f k) same more = sym j ∙ ap (λ ws. c ∷ ws) (more us vs e f) ∙ k

-- a search depends on the steps from the cells that it finds
pub found_again : (step other : CellId → List CellId) (n : ℕ) (pending seen found : List CellId) →
    explored step n pending seen ≡ Some found →
    AllByRecursion (λ c. step c ≡ other c) found → explored other n pending seen ≡ Some found
found_again step other n [] seen found h same = h
found_again step other zero (c ∷ pending) seen found h same = absurd cc
found_again step other (suc n) (c ∷ pending) seen found h same =
    by_first (goes_on step n c pending seen found h) (λ e. found_again step other n pending seen found e same)
    (λ rest e s. found_again step other n (step c ++ pending) (c ∷ seen) rest e s) where
      by_first : Goes step n c pending seen found →
          (explored step n pending seen ≡ Some found → explored other n pending seen ≡ Some found) →
          ((rest : List CellId) → explored step n (step c ++ pending) (c ∷ seen) ≡ Some rest →
          AllByRecursion (λ d. step d ≡ other d) rest → explored other n (step c ++ pending) (c ∷ seen) ≡ Some rest) →
          explored other (suc n) (c ∷ pending) seen ≡ Some found
      by_first (passed is e) on more = rw is (on e)
      by_first (entered rest is e j) on more =
          let both : AllByRecursion (λ d. step d ≡ other d) (c ∷ rest) = subst (λ (xs : List CellId). AllByRecursion (λ d. step d
          ≡ other d) xs) (sym j) same in
          let there : explored other n (other c ++ pending) (c ∷ seen) ≡ Some rest =
          subst (λ (xs : List CellId). explored other n (xs ++ pending) (c ∷ seen) ≡ Some rest) both.0 (more rest e both.1) in
          rw is (ap (option_map (λ xs. c ∷ xs)) there ∙ ap Some j)

-- what holds of the pending cells, and goes from a cell to those that it leads to, holds of all that are found
pub all_found : (P : CellId → Type 0) (step : CellId → List CellId) → ((c : CellId) → P c → AllByRecursion P (step c)) → (n : ℕ)
    (pending seen found : List CellId) → explored step n pending seen ≡ Some found → AllByRecursion P pending → AllByRecursion P found
all_found P step on n [] seen found h all = subst (λ (xs : List CellId). AllByRecursion P xs) (let e : [] ≡ found = cc in e) tt
all_found P step on zero (c ∷ pending) seen found h all = absurd cc
all_found P step on (suc n) (c ∷ pending) seen found h all =
    by_first (goes_on step n c pending seen found h) (λ e. all_found P step on n pending seen found e all.1)
    (λ rest e. all_found P step on n (step c ++ pending) (c ∷ seen) rest e (all_joined P (step c) pending (on c all.0) all.1)) where
      by_first : Goes step n c pending seen found → (explored step n pending seen ≡ Some found → AllByRecursion P found) →
          ((rest : List CellId) → explored step n (step c ++ pending) (c ∷ seen) ≡ Some rest → AllByRecursion P rest) →
          AllByRecursion P found
      by_first (passed is e) later more = later e
      by_first (entered rest is e j) later more = subst (λ (xs : List CellId). AllByRecursion P xs) j (all.0, more rest e)

pub among-append : (c : CellId) (xs ys : List CellId) → is_among c (xs ++ ys) ≡ (is_among c xs || is_among c ys)
among-append c [] ys = refl
among-append c (x ∷ xs) ys = by_test (cell_eq c x) (among-append c xs ys) where
  by_test : (b : Bool) → is_among c (xs ++ ys) ≡ (is_among c xs || is_among c ys) →
      (b || is_among c (xs ++ ys)) ≡ ((b || is_among c xs) || is_among c ys)
  by_test true rest = refl
  by_test false rest = rest

-- what was pending is found or was seen, and what is found leads to what is found or was seen
record IsClosed (step : CellId → List CellId) (pending seen found : List CellId) : Type 0 where
  begun : (c : CellId) → is_among c pending ≡ true → (is_among c found ≡ true) ⊎ (is_among c seen ≡ true)
  onward : (c d : CellId) → is_among c found ≡ true → is_among d (step c) ≡ true → (is_among d found ≡ true) ⊎ (is_among d seen ≡ true)

pub same_cell : (c d : CellId) → cell_eq c d ≡ true → c ≡ d
same_cell c d h = (cell_eq-Decides c d).0 h

pub cell_eq-refl : (c : CellId) → cell_eq c c ≡ true
cell_eq-refl c = (cell_eq-Decides c c).1 refl

closed_by_more : (step : CellId → List CellId) (c : CellId) (pending seen rest : List CellId) →
    IsClosed step (step c ++ pending) (c ∷ seen) rest → IsClosed step (c ∷ pending) seen (c ∷ rest)
closed_by_more step c pending seen rest closed = record {
  begun = λ d h. elim (or_cases (cell_eq d c) (is_among d pending) h) [
    | inl first ↦ inl (or_left (cell_eq d c) (is_among d rest) first)
    | inr behind ↦ found_or_seen d (closed.begun d (among-append d (step c) pending
        ∙ or_right (is_among d (step c)) (is_among d pending) behind))
  ];
  onward = λ d e h g. elim (or_cases (cell_eq d c) (is_among d rest) h) [
    | inl first ↦ found_or_seen e (closed.begun e (among-append e (step c) pending
        ∙ or_left (is_among e (step c)) (is_among e pending) (subst (λ (x : CellId). is_among e (step x)
        ≡ true) (same_cell d c first) g)))
    | inr behind ↦ found_or_seen e (closed.onward d e behind g)
  ];
} where
  found_or_seen : (d : CellId) → (is_among d rest ≡ true) ⊎ (is_among d (c ∷ seen) ≡ true) →
      (is_among d (c ∷ rest) ≡ true) ⊎ (is_among d seen ≡ true)
  found_or_seen d (inl found) = inl (or_right (cell_eq d c) (is_among d rest) found)
  found_or_seen d (inr seen_so) = elim (or_cases (cell_eq d c) (is_among d seen) seen_so) [
    | inl first ↦ inl (or_left (cell_eq d c) (is_among d rest) first)
    | inr behind ↦ inr behind
  ]

closed_found : (step : CellId → List CellId) (n : ℕ) (pending seen found : List CellId) → explored step n pending seen ≡ Some found →
    IsClosed step pending seen found
closed_found step n [] seen found h = subst (λ (xs : List CellId). IsClosed step [] seen xs) (let e : [] ≡ found = cc in e)
    (record { begun = λ c there. absurd (true≢false (sym there)); onward = λ c d there g. absurd (true≢false (sym there)) })
closed_found step zero (c ∷ pending) seen found h = absurd cc
closed_found step (suc n) (c ∷ pending) seen found h =
    by_first (goes_on step n c pending seen found h) (closed_found step n pending seen found)
    (λ rest e. closed_found step n (step c ++ pending) (c ∷ seen) rest e) where
      by_first : Goes step n c pending seen found → (explored step n pending seen ≡ Some found → IsClosed step pending seen found) →
          ((rest : List CellId) → explored step n (step c ++ pending) (c ∷ seen) ≡ Some rest →
          IsClosed step (step c ++ pending) (c ∷ seen) rest) →
          IsClosed step (c ∷ pending) seen found
      by_first (passed is e) later more = record {
        begun = λ d there. elim (or_cases (cell_eq d c) (is_among d pending) there) [
          | inl first ↦ inr (subst (λ (x : CellId). is_among x seen ≡ true) (sym (same_cell d c first)) is)
          | inr behind ↦ (later e).begun d behind
        ];
        onward = (later e).onward;
      }
      by_first (entered rest is e j) later more =
          subst (λ (xs : List CellId). IsClosed step (c ∷ pending) seen xs) j (closed_by_more step c pending seen rest (more rest e))

-- how many calls stand in cells that weren't seen
abbrev pub calls_left : List Call → List CellId → ℕ
calls_left [] seen = 0
calls_left (call ∷ calls) seen = cond (is_among call.0 seen) 0 1 + calls_left calls seen

pub calls_left-none : (calls : List Call) → calls_left calls [] ≡ length calls
calls_left-none [] = refl
calls_left-none (call ∷ calls) = let rest = calls_left-none calls in omega arith

cell_eq-other : (c d : CellId) → cell_eq c d ≡ false → cell_eq d c ≡ false
cell_eq-other c d h = false_from_ne_true (cell_eq d c) (λ e.
    let same : cell_eq c d ≡ true = ap (cell_eq c) (same_cell d c e) ∙ cell_eq-refl c in true≢false (sym same ∙ h))

-- entering a cell leaves fewer by those in it
pub calls_left-entered : (calls : List Call) (c : CellId) (seen : List CellId) → is_among c seen ≡ false →
    length (targets calls c) + calls_left calls (c ∷ seen) ≡ calls_left calls seen
calls_left-entered [] c seen unseen = refl
calls_left-entered (call ∷ calls) c seen unseen =
    by_cell (cell_eq c call.0) refl (calls_left-entered calls c seen unseen) where
      by_cell : (b : Bool) → cell_eq c call.0 ≡ b → length (targets calls c) + calls_left calls (c ∷ seen) ≡ calls_left calls seen →
          length (cons_option (cond b (Some (Symbol call.1)) None) (targets calls c))
          + (cond (cell_eq call.0 c || is_among call.0 seen) 0 1 + calls_left calls (c ∷ seen))
          ≡ cond (is_among call.0 seen) 0 1 + calls_left calls seen
      by_cell true is rest =
          let e : c ≡ call.0 = same_cell c call.0 is in
          let here : cell_eq call.0 c ≡ true = ap (cell_eq call.0) e ∙ cell_eq-refl call.0 in
          let new : is_among call.0 seen ≡ false = ap (λ x. is_among x seen) (sym e) ∙ unseen in
          rw (here, new) (omega arith)
      by_cell false is rest =
          let there : cell_eq call.0 c ≡ false = cell_eq-other c call.0 is in
          rw there (omega arith)

-- so the search ends
pub ends : (calls : List Call) (n : ℕ) (pending seen : List CellId) → length pending + calls_left calls seen ≤ n →
    (found : List CellId) × (explored (targets calls) n pending seen ≡ Some found)
ends calls n [] seen h = ([], refl)
ends calls zero (c ∷ pending) seen h = absurd (omega arith)
ends calls (suc n) (c ∷ pending) seen h =
    by_seen (is_among c seen) refl (ends calls n pending seen (omega arith))
    (λ g. ends calls n (targets calls c ++ pending) (c ∷ seen) g) where
      by_seen : (b : Bool) → is_among c seen ≡ b → (found : List CellId) × (explored (targets calls) n pending seen ≡ Some found) →
          (length (targets calls c ++ pending) + calls_left calls (c ∷ seen) ≤ n →
          (found : List CellId) × (explored (targets calls) n (targets calls c ++ pending) (c ∷ seen) ≡ Some found)) →
          (found : List CellId) × (cond b (explored (targets calls) n pending seen)
          (option_map (λ rest. c ∷ rest) (explored (targets calls) n (targets calls c ++ pending) (c ∷ seen))) ≡ Some found)
      by_seen true is later more = later
      by_seen false is later more =
          let fewer = calls_left-entered calls c seen is in
          let lens : length (targets calls c ++ pending) ≡ length (targets calls c) + length pending =
          length-append (targets calls c) pending in
          let rest = more (omega arith) in
          (c ∷ rest.0, ap (option_map (λ xs. c ∷ xs)) rest.1)

-- what is reached is what the search finds
pub reached-found : (calls : List Call) (c : CellId) → explored (targets calls) (1 + length calls) (c ∷ []) [] ≡ Some (reached_by calls c)
unfolding reached_by
reached-found calls c =
    let left = calls_left-none calls in
    let found = ends calls (1 + length calls) (c ∷ []) [] (omega arith) in
    found.1 ∙ ap Some (sym (ap (λ o. unwrap_or o []) found.1))

-- what is reached depends on the calls in the cells that are reached
pub reached_again : (calls others : List Call) (c : CellId) → AllByRecursion (λ d. targets calls d
    ≡ targets others d) (reached_by calls c) →
    reached_by others c ≡ reached_by calls c
reached_again calls others c same =
    one_answer (targets others) (1 + length others) (1 + length calls) (c ∷ []) [] (reached_by others c) (reached_by calls c)
    (reached-found others c)
    (found_again (targets calls) (targets others) (1 + length calls) (c ∷ []) [] (reached_by calls c) (reached-found calls c) same)

-- the targets, and before them that of a call where it stands in the cell
abbrev with_target : List Call → CellId → Call → Bool → List CellId
with_target calls c call here = cons_option (cond here (Some (Symbol call.1)) None) (targets calls c)

-- a call in a cell leads to its symbol
target_among : (calls : List Call) (c : CellId) (target : ℕ) → Contains calls (c, target) →
    is_among (Symbol target) (targets calls c) ≡ true
target_among [] c target there = absurd (omega (arith, there.1))
target_among (call ∷ calls) c target there = elim (Contains-append_cases (call ∷ []) calls (c, target) there) [
  | inl (zero, below, here) ↦ first here
  | inl (suc k, below, here) ↦ absurd (omega (arith, below))
  | inr behind ↦ further (target_among calls c target behind)
] where
  first : call ≡ (c, target) → is_among (Symbol target) (with_target calls c call (cell_eq c call.0)) ≡ true
  first here =
      let cells : cell_eq c call.0 ≡ true = ap (λ (x : Call). cell_eq c x.0) here ∙ cell_eq-refl c in
      let numbers : target ≡ call.1 = sym (ap (λ (x : Call). x.1) here) in
      rw cells (or_left (cell_eq (Symbol target) (Symbol call.1)) (is_among (Symbol target) (targets calls c))
      (ap (λ n. cell_eq (Symbol target) (Symbol n)) (sym numbers) ∙ cell_eq-refl (Symbol target)))

  further : is_among (Symbol target) (targets calls c) ≡ true →
      is_among (Symbol target) (with_target calls c call (cell_eq c call.0)) ≡ true
  further h = by_test (cell_eq c call.0) where
    by_test : (b : Bool) → is_among (Symbol target) (with_target calls c call b) ≡ true
    by_test true = or_right (cell_eq (Symbol target) (Symbol call.1)) (is_among (Symbol target) (targets calls c)) h
    by_test false = h

-- each target is that of a call in the cell
targets_called : (P : CellId → Type 0) (calls : List Call) (c : CellId) →
    ((target : ℕ) → Contains calls (c, target) → P (Symbol target)) →
    AllByRecursion P (targets calls c)
targets_called P [] c each = tt
targets_called P (call ∷ calls) c each =
    by_cell (cell_eq c call.0) refl (targets_called P calls c
    (λ target there. each target (Contains-append_right (call ∷ []) calls (c, target) there))) where
      by_cell : (b : Bool) → cell_eq c call.0 ≡ b → AllByRecursion P (targets calls c) →
          AllByRecursion P (cons_option (cond b (Some (Symbol call.1)) None) (targets calls c))
      by_cell true is rest =
          let cells : c ≡ call.0 = same_cell c call.0 is in
          (each call.1 (0, omega arith, λ i. (sym cells i, call.1)), rest)
      by_cell false is rest = rest

pub all_among : (P : CellId → Type 0) (xs : List CellId) → AllByRecursion P xs → (d : CellId) → is_among d xs ≡ true → P d
all_among P [] all d there = absurd (true≢false (sym there))
all_among P (x ∷ xs) all d there = elim (or_cases (cell_eq d x) (is_among d xs) there) [
  | inl first ↦ subst P (sym (same_cell d x first)) all.0
  | inr behind ↦ all_among P xs all.1 d behind
]

walk_on : {calls : List Call} {from : CellId} (c : CellId) (target : ℕ) → Walks calls from c → Contains calls (c, target) →
    Walks calls from (Symbol target)
walk_on c target stays there = goes there stays
walk_on c target (goes first rest) there = goes first (walk_on c target rest there)

found_by_walk : (calls : List Call) (found : List CellId) →
    ((c d : CellId) → is_among c found ≡ true → is_among d (targets calls c) ≡ true → is_among d found ≡ true) →
    {from to : CellId} → Walks calls from to → is_among from found ≡ true → is_among to found ≡ true
found_by_walk calls found onward stays here = here
found_by_walk calls found onward (goes {from = from} {target = target} first rest) here =
    found_by_walk calls found onward rest (onward from (Symbol target) here (target_among calls from target first))

only_found : {P : Type 0} (c : CellId) → P ⊎ (is_among c [] ≡ true) → P
only_found c (inl found) = found
only_found c (inr none) = absurd (true≢false (sym none))

-- just the cells are reached to which walks lead
pub reached-walks : (calls : List Call) (from to : CellId) → (is_among to (reached_by calls from) ≡ true) ↔ Walks calls from to
reached-walks calls from to =
    let found = reached_by calls from in
    let closed = closed_found (targets calls) (1 + length calls) (from ∷ []) [] found (reached-found calls from) in
    let here : is_among from (from ∷ []) ≡ true = or_left (cell_eq from from) false (cell_eq-refl from) in
    let all = all_found (Walks calls from) (targets calls) (λ c walk. targets_called (Walks calls from) calls c (λ target there.
    walk_on c target walk there)) (1 + length calls) (from ∷ []) [] found (reached-found calls from) (stays, tt) in (
      (λ there. all_among (Walks calls from) found all to there),
      (λ walk. found_by_walk calls found (λ c d there next. only_found d (closed.onward c d there next)) walk
          (only_found from (closed.begun from here))),
    )

-- the symbol that an item calls
abbrev called_by : items.Item → Option CellId
called_by (Shape cell layer rings) = None
called_by (Placed cell target turn) = Some (Symbol target)

-- the entries that are calls in the cell
abbrev lying : CellId → List (ItemId × items.Item) → List (ItemId × items.Item)
lying c es = filter (λ e. lies (Calls c) e.0 e.1) es

-- what a cell leads to is what the calls in it call
targets-lying : (c : CellId) (es : List (ItemId × items.Item)) →
    targets (calls_among es) c ≡ filter_map (λ e. called_by e.1) (lying c es)
targets-lying c [] = refl
targets-lying c ((id, Shape cell layer rings) ∷ es) = targets-lying c es
targets-lying c ((id, Placed cell target turn) ∷ es) = by_cell (cell_eq c cell) (targets-lying c es) where
  by_cell : (b : Bool) → targets (calls_among es) c ≡ filter_map (λ e. called_by e.1) (lying c es) →
      cons_option (cond b (Some (Symbol target)) None) (targets (calls_among es) c)
      ≡ filter_map (λ e. called_by e.1) (cond b ((id, Placed cell target turn) ∷ lying c es) (lying c es))
  by_cell true rest = ap (λ xs. Symbol target ∷ xs) rest
  by_cell false rest = rest

-- layouts that agree on the calls of a cell lead from it to the same symbols
targets_agree : (l m : Layout) (c : CellId) → Agree l m (Calls c) → targets (calls_of l) c ≡ targets (calls_of m) c
unfolding calls_of
targets_agree l m c agree =
    targets-lying c (entries l.items)
    ∙ ap (filter_map (λ e. called_by e.1)) (filter-alike_maps ids_total ids_exact (lies (Calls c)) l.items m.items agree.items)
    ∙ sym (targets-lying c (entries m.items))

-- layouts that agree on the calls of all cells that one reaches reach the same
pub same_reach : (l m : Layout) (c : CellId) → AllByRecursion (λ d. Agree l m (Calls d)) (reached l c) → reached m c ≡ reached l c
same_reach l m c agree = reached_again (calls_of l) (calls_of m) c
    (all_weaker (λ d. Agree l m (Calls d)) (λ d. targets (calls_of l) d ≡ targets (calls_of m) d) (targets_agree l m) (reached l c) agree)
