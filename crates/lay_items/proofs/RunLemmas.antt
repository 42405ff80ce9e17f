-- Runs of a group's items: where the next of them begins, and what is lent from there on.
use Rattle.std.proofs.Common.{◌≡◌, ◌∙◌, ◌<◌, ◌++◌, ℕ, zero, suc, Bool, true, false, List, [], ◌∷◌, Option, Some, None}
use Rattle.std.proofs.Common.{ap, append_assoc, arith, cond, length, refl, subst, sym}
use Rattle.std.specs.Prelude.{◌==◌, ◌&&◌, ⊤, filter, not, option_map}
use Rattle.std.specs.declared.cmp.Ordering.{Ordering}
use Rattle.std.specs.declared.cmp.Ordering.TheVariants.{Equal, Greater, Less}
use Rattle.std.specs.Cmp.{IsTotalOrder, eq_by_cmp_equiv, nat_cmp_is}
use Rattle.std.specs.FinMap.{find}
use Rattle.std.specs.FinMap.Entries.{find-where_key}
use Rattle.std.specs.Iterator.{MakesProgress, item_count}
use Rattle.std.specs.List.{AllByRecursion}
use Rattle.std.specs.List.Sorted.{IsStrictlySortedBy}
use Rattle.std.specs.Map.{keys_of}
use Rattle.std.specs.Option.{MatchOption}
use Rattle.std.specs.Ordering.{is_eq, is_lt, nat_cmp, ordering_then}
use Rattle.std.proofs.lemmas.Bool.Decides.{Decides-eqb}
use Rattle.std.proofs.lemmas.Cmp.{tied_itself}
use Rattle.std.proofs.lemmas.List.Elements.{filter-append}
use Rattle.std.proofs.lemmas.Bool.{not-true}
use Rattle.lay_point.proofs.BoolLaws.{Less_by_test}
use Rattle.lay_point.proofs.ListLaws.{all_weaker}
use Rattle.lay_pages.specs.Written.{from_key}
use Rattle.lay_pages.proofs.OrderLemmas.{sorted-kept}
use Rattle.lay_pages.proofs.PlaceLemmas.{sorted-right}
use Rattle.lay_pages.proofs.SearchLemmas.{turned}
use Rattle.lay_layouts.specs.declared.id.ItemId.{ItemId}
use Rattle.lay_layouts.specs.declared.item.Item.{Item}
use Rattle.lay_layouts.specs.IdOrder.{ids_exact, ids_total}
use Rattle.lay_layouts.specs.Ids.{id_cmp}
use Rattle.lay_items.specs.declared.group.By.{By}
use Rattle.lay_items.specs.declared.group.Group.{Group}
use Rattle.lay_items.specs.declared.marks.Mark.{Mark}
use Rattle.lay_items.specs.Runs.{AreBegun, AreLast, AreLent, AreRuns, HeldItem, HasMark, MarkList, begins, first_mark_in}
use Rattle.lay_items.specs.Runs.{from_mark, group_cmp, group_in, groups_exact, groups_total, least_id, mark_cmp}
use Rattle.lay_items.specs.Runs.{marks_exact, marks_total, next_mark, of_group, same_group}

-- ---- lists

filter_none : {A : Type 0} (p : A → Bool) (xs : List A) → AllByRecursion (λ x. p x ≡ false) xs → filter p xs ≡ []
filter_none p [] all = refl
filter_none p (x ∷ xs) all = ap (λ b. cond b (x ∷ filter p xs) (filter p xs)) all.0 ∙ filter_none p xs all.1

filter_all : {A : Type 0} (p : A → Bool) (xs : List A) → AllByRecursion (λ x. p x ≡ true) xs → filter p xs ≡ xs
filter_all p [] all = refl
filter_all p (x ∷ xs) all = ap (λ b. cond b (x ∷ filter p xs) (filter p xs)) all.0 ∙ ap (λ ys. x ∷ ys) (filter_all p xs all.1)

-- those that pass both tests pass the first
filter_both : {A : Type 0} (p q : A → Bool) (xs : List A) → AllByRecursion (λ x. p x ≡ true → q x ≡ true) xs
    → filter p (filter q xs) ≡ filter p xs
filter_both p q [] all = refl
filter_both {A} p q (x ∷ xs) all = cases (p x) (q x) refl refl all.0 (filter_both p q xs all.1) where
  cases : (s t : Bool) → p x ≡ s → q x ≡ t → (p x ≡ true → q x ≡ true) → filter p (filter q xs) ≡ filter p xs
      → filter p (cond t (x ∷ filter q xs) (filter q xs)) ≡ cond s (x ∷ filter p xs) (filter p xs)
  cases s true is kept h rest =
      ap (λ b. cond b (x ∷ filter p (filter q xs)) (filter p (filter q xs))) is ∙ ap (λ ys. cond s (x ∷ ys) ys) rest
  cases true false is kept h rest = let no : false ≡ true = sym kept ∙ h is in absurd cc
  cases false false is kept h rest = rest

passes_all : {A : Type 0} (p : A → Bool) (xs : List A) → AllByRecursion (λ x. p x ≡ true) (filter p xs)
passes_all p [] = tt
passes_all {A} p (x ∷ xs) = cases (p x) refl (passes_all p xs) where
  cases : (b : Bool) → p x ≡ b → AllByRecursion (λ x. p x ≡ true) (filter p xs)
      → AllByRecursion (λ x. p x ≡ true) (cond b (x ∷ filter p xs) (filter p xs))
  cases true is rest = (is, rest)
  cases false is rest = rest

-- ---- entries in order

module _ {K X : Type 0} {R : K → K → Ordering} (total : IsTotalOrder R) where
  -- no key before all of them is found
  find_none : (k : K) (es : List (K × X)) → AllByRecursion (λ y. R k y ≡ Less) (keys_of es) → find R k es ≡ None
  find_none k [] all = refl
  find_none k (e ∷ es) all = ap (λ o. cond (is_eq o) (Some e.1) (find R k es)) all.0 ∙ find_none k es all.1

  -- the first isn't behind one that is found
  first_least : (q : K) (x : X) (e : K × X) (es : List (K × X)) → IsStrictlySortedBy R (keys_of (e ∷ es))
      → find R q (e ∷ es) ≡ Some x → R e.0 q ≡ Greater → ⊥
  unfolding IsStrictlySortedBy
  first_least q x e es sorted found greater =
      let less : R q e.0 ≡ Less = turned total e.0 q Greater greater in
      let none : find R q (e ∷ es) ≡ None = find_none q (e ∷ es) (
        less,
        all_weaker (λ y. R e.0 y ≡ Less) (λ y. R q y ≡ Less) (λ y. total.trans q e.0 y less) (keys_of es) sorted.0,
      ) in
      let no : None ≡ Some x = sym none ∙ found in
      absurd cc

  -- from a key that is found on, its entry is the first
  found_first : (s : K) (x : X) (es : List (K × X)) → IsStrictlySortedBy R (keys_of es) → find R s es ≡ Some x
      → (y : K × X) (ys : List (K × X)) → from_key R s es ≡ y ∷ ys → y.1 ≡ x
  unfolding IsStrictlySortedBy
  found_first s x [] sorted found y ys first = absurd cc
  found_first s x (e ∷ es) sorted found y ys first = cases (R e.0 s) refl (λ f g. found_first s x es sorted.1 f y ys g) where
    cases : (o : Ordering) → R e.0 s ≡ o → (find R s es ≡ Some x → from_key R s es ≡ y ∷ ys → y.1 ≡ x) → y.1 ≡ x
    cases Less is rest =
        rest (sym (ap (λ o. cond (is_eq o) (Some e.1) (find R s es)) (turned total e.0 s Less is)) ∙ found)
        (sym (ap (λ o. cond (not (is_lt o)) (e ∷ from_key R s es) (from_key R s es)) is) ∙ first)
    cases Equal is rest =
        let this : Some e.1 ≡ Some x =
        sym (ap (λ o. cond (is_eq o) (Some e.1) (find R s es)) (turned total e.0 s Equal is)) ∙ found in
        let head : e ∷ from_key R s es ≡ y ∷ ys =
        sym (ap (λ o. cond (not (is_lt o)) (e ∷ from_key R s es) (from_key R s es)) is) ∙ first in
        let same : e ≡ y = cc in
        let item : e.1 ≡ x = cc in
        sym (ap (λ (f : K × X). f.1) same) ∙ item
    cases Greater is rest = absurd (first_least s x e es sorted found is)

-- ---- groups

-- groups that are the same are equal
same_is : (a b : Group) → same_group a b ≡ true → a ≡ b
same_is a b h = cases (a.cell == b.cell) (a.tag == b.tag) refl refl h where
  cases : (s t : Bool) → (a.cell == b.cell) ≡ s → (a.tag == b.tag) ≡ t → (s && t) ≡ true → a ≡ b
  cases true true cell tag h = λ i. record { cell = (Decides-eqb a.cell b.cell).0 cell i; tag = (Decides-eqb a.tag b.tag).0 tag i }
  cases true false cell tag h = absurd cc
  cases false t cell tag h = let no : false ≡ true = h in absurd cc

same_itself : (a : Group) → same_group a a ≡ true
same_itself a = λ i. (Decides-eqb a.cell a.cell).1 refl i && (Decides-eqb a.tag a.tag).1 refl i

-- ---- the next mark

-- whether an id is from this one on, if there is one
abbrev passes : Option ItemId → ItemId → Bool
passes None k = false
passes (Some s) k = not (is_lt (id_cmp k s))

abbrev mark_at : Group → ItemId → Mark
mark_at group id = record { group = group; id = id }

-- it is the first mark of the group, of this id or a later one
record IsNext (group : Group) (id : ItemId) (marks : MarkList) (next : Option ItemId) : Type 0 where
  pub first : (t : ItemId) → HasMark marks (mark_at group t) → is_lt (id_cmp t id) ≡ false → passes next t ≡ true
  pub marked : (s : ItemId) → next ≡ Some s → HasMark marks (mark_at group s)
  pub from : (s : ItemId) → next ≡ Some s → is_lt (id_cmp s id) ≡ false

-- marks of one group are ordered by their ids
one_group : (group : Group) (s t : ItemId) → mark_cmp (mark_at group s) (mark_at group t) ≡ id_cmp s t
one_group group s t = ap (λ o. ordering_then o (id_cmp s t)) (tied_itself groups_total group)

-- a mark from this one on is found among those from it on
find_from : (q k : Mark) (marks : MarkList)
    → find mark_cmp q (from_key mark_cmp k marks) ≡ cond (not (is_lt (mark_cmp q k))) (find mark_cmp q marks) None
find_from q k marks =
    find-where_key mark_cmp (λ x. not (is_lt (mark_cmp x k))) q (λ x tie. ap (λ y. not (is_lt (mark_cmp y k))) (sym (marks_exact q x tie)))
    marks

-- the first of marks from the group's on is of the group, where one of it is found among them
first_is : (group : Group) (id t : ItemId) (m : Mark) → not (is_lt (mark_cmp m (mark_at group id))) ≡ true
    → (mark_cmp m (mark_at group t) ≡ Greater → ⊥) → passes (cond (same_group m.group group) (Some m.id) None) t ≡ true
first_is group id t m above below = cases (group_cmp m.group group) refl where
  cases : (o : Ordering) → group_cmp m.group group ≡ o → passes (cond (same_group m.group group) (Some m.id) None) t ≡ true
  cases Less is =
      let no : false ≡ true = sym (ap (λ o. not (is_lt (ordering_then o (id_cmp m.id id)))) is) ∙ above in
      absurd cc
  cases Greater is = absurd (below (ap (λ o. ordering_then o (id_cmp m.id t)) is))
  cases Equal is =
      ap (λ g. passes (cond (same_group g group) (Some m.id) None) t) (groups_exact m.group group is)
      ∙ ap (λ b. passes (cond b (Some m.id) None) t) (same_itself group) ∙ behind (id_cmp m.id t) refl
    where
      behind : (o : Ordering) → id_cmp m.id t ≡ o → passes (Some m.id) t ≡ true
      behind Less at = ap (λ o. not (is_lt o)) (turned ids_total m.id t Less at)
      behind Equal at = ap (λ o. not (is_lt o)) (turned ids_total m.id t Equal at)
      behind Greater at =
          absurd (below (ap (λ o. ordering_then o (id_cmp m.id t)) is ∙ at))

is_next : (group : Group) (id : ItemId) (marks : MarkList) → IsStrictlySortedBy mark_cmp (keys_of marks)
    → IsNext group id marks (next_mark group id marks)
is_next group id marks sorted = cases (from_key mark_cmp (mark_at group id) marks) refl where
  p : Mark × ⊤ → Bool
  p m = not (is_lt (mark_cmp m.0 (mark_at group id)))

  found : (t : ItemId) → HasMark marks (mark_at group t) → is_lt (id_cmp t id) ≡ false
      → find mark_cmp (mark_at group t) (from_key mark_cmp (mark_at group id) marks) ≡ Some tt
  found t marked from =
      find_from (mark_at group t) (mark_at group id) marks
      ∙ ap (λ o. cond (not (is_lt o)) (find mark_cmp (mark_at group t) marks) None) (one_group group t id)
      ∙ ap (λ b. cond (not b) (find mark_cmp (mark_at group t) marks) None) from ∙ marked

  cases : (ms : MarkList) → from_key mark_cmp (mark_at group id) marks ≡ ms → IsNext group id marks (first_mark_in group ms)
  cases [] is = record {
    first = λ t marked from. (let no : None ≡ Some tt = sym (ap (find mark_cmp (mark_at group t)) is) ∙ found t marked from in absurd cc);
    marked = λ s e. absurd cc;
    from = λ s e. absurd cc;
  }
  cases (m ∷ ms) is = record {
    first = λ t marked from. first_is group id t m.0 above.0 (first_least marks_total (mark_at group t) tt m ms up
        (sym (ap (find mark_cmp (mark_at group t)) is) ∙ found t marked from));
    marked = λ s e. (one (same_group m.0.group group) refl s e).0;
    from = λ s e. (one (same_group m.0.group group) refl s e).1;
  } where
    up : IsStrictlySortedBy mark_cmp (keys_of (m ∷ ms))
    up =
        subst (λ (ns : MarkList). IsStrictlySortedBy mark_cmp (keys_of ns)) is
        (sorted-kept marks_total marks_exact (λ (k : Mark). not (is_lt (mark_cmp k (mark_at group id)))) marks sorted)

    above : AllByRecursion (λ n. p n ≡ true) (m ∷ ms)
    above = subst (λ (ns : MarkList). AllByRecursion (λ n. p n ≡ true) ns) is (passes_all p marks)

    one : (b : Bool) → same_group m.0.group group ≡ b → (s : ItemId) → cond b (Some m.0.id) None ≡ Some s
        → HasMark marks (mark_at group s) × (is_lt (id_cmp s id) ≡ false)
    one false same s e = absurd cc
    one true same s e =
        let ids : m.0.id ≡ s = cc in
        let groups : m.0.group ≡ group = same_is m.0.group group same in
        let this : m.0 ≡ mark_at group s = λ i. record { group = groups i; id = ids i } in
        let there : find mark_cmp (mark_at group s) (from_key mark_cmp (mark_at group id) marks) ≡ Some tt =
        ap (find mark_cmp (mark_at group s)) is ∙ ap (λ q. find mark_cmp q (m ∷ ms)) (sym this)
        ∙ ap (λ b. cond b (Some m.1) (find mark_cmp m.0 ms)) ((eq_by_cmp_equiv marks_total).refl m.0) in
        parted s (not (is_lt (mark_cmp (mark_at group s) (mark_at group id)))) refl
        (sym (find_from (mark_at group s) (mark_at group id) marks) ∙ there)
      where
        parted : (s : ItemId) (b : Bool) → not (is_lt (mark_cmp (mark_at group s) (mark_at group id))) ≡ b
            → cond b (find mark_cmp (mark_at group s) marks) None ≡ Some tt
            → HasMark marks (mark_at group s) × (is_lt (id_cmp s id) ≡ false)
        parted s true above here = (here, ap is_lt (sym (one_group group s id)) ∙ not-true _ above)
        parted s false above here = absurd cc

-- ---- the items from there on

-- behind an id that passes, all do
passing_more : (next : Option ItemId) (j k : ItemId) → id_cmp j k ≡ Less → passes next j ≡ true → passes next k ≡ true
passing_more None j k less h = absurd cc
passing_more (Some s) j k less h = cases (id_cmp k s) refl where
  cases : (o : Ordering) → id_cmp k s ≡ o → not (is_lt (id_cmp k s)) ≡ true
  cases Less is =
      let no : false ≡ true = sym (ap (λ o. not (is_lt o)) (ids_total.trans j k s less is)) ∙ h in
      absurd cc
  cases Equal is = ap (λ o. not (is_lt o)) is
  cases Greater is = ap (λ o. not (is_lt o)) is

all_pass : (next : Option ItemId) (k : ItemId) (es : List HeldItem) → passes next k ≡ true
    → AllByRecursion (λ y. id_cmp k y ≡ Less) (keys_of es) → AllByRecursion (λ e. passes next e.0 ≡ true) es
all_pass next k [] h all = tt
all_pass next k (e ∷ es) h all = (passing_more next k e.0 all.0 h, all_pass next k es h all.1)

from_passing : (next : Option ItemId) (es : List HeldItem) → from_mark next es ≡ filter (λ e. passes next e.0) es
from_passing None es = sym (filter_none (λ (e : HeldItem). false) es (all es)) where
  all : (fs : List HeldItem) → AllByRecursion (λ (e : HeldItem). false ≡ false) fs
  all [] = tt
  all (f ∷ fs) = (refl, all fs)
from_passing (Some s) es = refl

-- those that pass are the last ones
last_passing : (next : Option ItemId) (es : List HeldItem) → IsStrictlySortedBy id_cmp (keys_of es)
    → AreLast (filter (λ e. passes next e.0) es) es
unfolding IsStrictlySortedBy
last_passing next [] sorted = record { front = []; is = refl }
last_passing next (e ∷ es) sorted = cases (passes next e.0) refl (last_passing next es sorted.1) where
  cases : (b : Bool) → passes next e.0 ≡ b → AreLast (filter (λ f. passes next f.0) es) es
      → AreLast (cond b (e ∷ filter (λ f. passes next f.0) es) (filter (λ f. passes next f.0) es)) (e ∷ es)
  cases true is rest = record {
    front = [];
    is = ap (λ xs. e ∷ xs) (sym (filter_all (λ (f : HeldItem). passes next f.0) es (all_pass next e.0 es is sorted.0)));
  }
  cases false is rest = record { front = e ∷ rest.front; is = ap (λ xs. e ∷ xs) rest.is }

-- none before the id passes
below_next : (group : Group) (id : ItemId) (marks : MarkList) (next : Option ItemId) → IsNext group id marks next → (t : ItemId)
    → is_lt (id_cmp t id) ≡ true → passes next t ≡ false
below_next group id marks None are t below = refl
below_next group id marks (Some s) are t below = cases (id_cmp t s) refl where
  cases : (o : Ordering) → id_cmp t s ≡ o → not (is_lt (id_cmp t s)) ≡ false
  cases Less is = ap (λ o. not (is_lt o)) is
  cases Equal is =
      let no : true ≡ false = sym below ∙ ap (λ k. is_lt (id_cmp k id)) (ids_exact t s is) ∙ are.from s refl in
      absurd cc
  cases Greater is =
      let before : id_cmp s id ≡ Less = ids_total.trans s t id (turned ids_total t s Greater is) (Less_by_test (id_cmp t id) below) in
      let no : true ≡ false = sym (ap is_lt before) ∙ are.from s refl in
      absurd cc

-- of items behind one that isn't of the group, those of it pass
all_marked : (kind : By) (group : Group) (id : ItemId) (marks : MarkList) (next : Option ItemId) → IsNext group id marks next
    → (before : Option Group) (es : List HeldItem) → begins before group ≡ true → AllByRecursion (λ e. is_lt (id_cmp e.0 id) ≡ false) es
    → IsStrictlySortedBy id_cmp (keys_of es) → AreBegun kind marks before es
    → AllByRecursion (λ e. same_group (group_in kind e.1) group ≡ true → passes next e.0 ≡ true) es
unfolding IsStrictlySortedBy
all_marked kind group id marks next are before [] other from sorted begun = tt
all_marked kind group id marks next are before (e ∷ es) other from sorted begun =
    cases (same_group (group_in kind e.1) group) refl (λ behind.
    all_marked kind group id marks next are (Some (group_in kind e.1)) es behind from.1 sorted.1 begun.1)
  where
    cases : (b : Bool) → same_group (group_in kind e.1) group ≡ b
        → (begins (Some (group_in kind e.1)) group ≡ true
        → AllByRecursion (λ f. same_group (group_in kind f.1) group ≡ true → passes next f.0 ≡ true) es)
        → AllByRecursion (λ f. same_group (group_in kind f.1) group ≡ true → passes next f.0 ≡ true) (e ∷ es)
    cases true is rest =
        let same : group_in kind e.1 ≡ group = same_is (group_in kind e.1) group is in
        let marked : HasMark marks (mark_at (group_in kind e.1) e.0) = begun.0 (ap (begins before) same ∙ other) in
        let here : passes next e.0 ≡ true =
        are.first e.0 (subst (λ (g : Group). HasMark marks (mark_at g e.0)) same marked) from.0 in (
          λ _. here,
          all_weaker (λ f. passes next f.0 ≡ true) (λ f. same_group (group_in kind f.1) group ≡ true → passes next f.0 ≡ true)
              (λ f h _. h) es (all_pass next e.0 es here sorted.0),
        )
    cases false is rest = (λ h. (let no : false ≡ true = sym is ∙ h in absurd cc), rest (ap not is))

-- ---- a jump to the next run

-- from the next mark on are the group's items of those that were left
pub record IsJump (kind : By) (group : Group) (entries rest new : List HeldItem) : Type 0 where
  pub same : of_group kind group rest ≡ of_group kind group new
  pub last : AreLast new entries
  pub first : (y : HeldItem) (ys : List HeldItem) → new ≡ y ∷ ys → same_group (group_in kind y.1) group ≡ true

jump : (kind : By) (group : Group) (id : ItemId) (marks : MarkList) (front rest : List HeldItem)
    → IsStrictlySortedBy id_cmp (keys_of (front ++ rest)) → AreRuns kind (front ++ rest) marks
    → AllByRecursion (λ e. is_lt (id_cmp e.0 id) ≡ true) front
    → AllByRecursion (λ e. same_group (group_in kind e.1) group ≡ true → passes (next_mark group id marks) e.0 ≡ true) rest
    → IsJump kind group (front ++ rest) rest (from_mark (next_mark group id marks) (front ++ rest))
jump kind group id marks front rest sorted runs before all = record {
  same = sym (ap (filter of) (is ∙ filter-append p front rest
      ∙ ap (λ es. es ++ filter p rest) (filter_none p front (all_weaker (λ e. is_lt (id_cmp e.0 id) ≡ true) (λ e. p e ≡ false)
      (λ e. below_next group id marks next are e.0) front before)))
      ∙ filter_both of p rest all);
  last = subst (λ (es : List HeldItem). AreLast es (front ++ rest)) (sym is) (last_passing next (front ++ rest) sorted);
  first = first next are;
} where
  next : Option ItemId
  next = next_mark group id marks

  are : IsNext group id marks next
  are = is_next group id marks runs.sorted

  of : HeldItem → Bool
  of e = same_group (group_in kind e.1) group

  p : HeldItem → Bool
  p e = passes next e.0

  is : from_mark next (front ++ rest) ≡ filter p (front ++ rest)
  is = from_passing next (front ++ rest)

  first : (o : Option ItemId) → IsNext group id marks o → (y : HeldItem) (ys : List HeldItem)
      → from_mark o (front ++ rest) ≡ y ∷ ys → of y ≡ true
  first None are y ys head = absurd cc
  first (Some s) are y ys head = found (find id_cmp s (front ++ rest)) refl (runs.of_items (mark_at group s) (are.marked s refl)) where
    found : (o : Option Item) → find id_cmp s (front ++ rest) ≡ o → option_map (group_in kind) (find id_cmp s (front ++ rest)) ≡ Some group
        → of y ≡ true
    found None there with_group =
        let no : None ≡ Some group = sym (ap (option_map (group_in kind)) there) ∙ with_group in
        absurd cc
    found (Some item) there with_group =
        let some : Some (group_in kind item) ≡ Some group = sym (ap (option_map (group_in kind)) there) ∙ with_group in
        let same : group_in kind item ≡ group = cc in
        ap (λ x. same_group (group_in kind x) group) (found_first ids_total s item (front ++ rest) sorted there y ys head)
        ∙ ap (λ g. same_group g group) same ∙ same_itself group

-- ---- the group's items among all

-- no id is before the least
least_first : (id : ItemId) → is_lt (id_cmp id least_id) ≡ false
least_first id = above_zero id.session _ (above_zero id.txn _ (above_zero_last id.seq)) where
  above_zero : (n : ℕ) (o : Ordering) → is_lt o ≡ false → is_lt (ordering_then (nat_cmp n 0) o) ≡ false
  above_zero zero o h = h
  above_zero (suc n) o h = ap (λ r. is_lt (ordering_then r o)) (sym (nat_cmp_is (suc n) 0 Greater (omega arith)))

  above_zero_last : (n : ℕ) → is_lt (nat_cmp n 0) ≡ false
  above_zero_last zero = refl
  above_zero_last (suc n) = ap is_lt (sym (nat_cmp_is (suc n) 0 Greater (omega arith)))

pub first_jump : (kind : By) (group : Group) (marks : MarkList) (es : List HeldItem) → IsStrictlySortedBy id_cmp (keys_of es)
    → AreRuns kind es marks → IsJump kind group es es (from_mark (next_mark group least_id marks) es)
first_jump kind group marks es sorted runs =
    jump kind group least_id marks [] es sorted runs tt
    (all_marked kind group least_id marks (next_mark group least_id marks) (is_next group least_id marks runs.sorted) None es refl (all es)
    sorted runs.begun)
  where
    all : (fs : List HeldItem) → AllByRecursion (λ f. is_lt (id_cmp f.0 least_id) ≡ false) fs
    all [] = tt
    all (f ∷ fs) = (least_first f.0, all fs)

-- ---- behind an item of another group

begun_behind : (kind : By) (marks : MarkList) (before : Option Group) (front : List HeldItem) (x : HeldItem) (tail : List HeldItem)
    → AreBegun kind marks before (front ++ x ∷ tail) → AreBegun kind marks (Some (group_in kind x.1)) tail
begun_behind kind marks before [] x tail begun = begun.1
begun_behind kind marks before (f ∷ fs) x tail begun = begun_behind kind marks (Some (group_in kind f.1)) fs x tail begun.1

all_before : (front : List HeldItem) (x : HeldItem) (tail : List HeldItem) → IsStrictlySortedBy id_cmp (keys_of (front ++ x ∷ tail))
    → AllByRecursion (λ e. is_lt (id_cmp e.0 x.0) ≡ true) front
unfolding IsStrictlySortedBy
all_before [] x tail sorted = tt
all_before (f ∷ fs) x tail sorted = (ap is_lt (seam fs sorted.0), all_before fs x tail sorted.1) where
  seam : (es : List HeldItem) → AllByRecursion (λ y. id_cmp f.0 y ≡ Less) (keys_of (es ++ x ∷ tail)) → id_cmp f.0 x.0 ≡ Less
  seam [] all = all.0
  seam (e ∷ es) all = seam es all.1

all_behind : (x : HeldItem) (tail : List HeldItem) → AllByRecursion (λ y. id_cmp x.0 y ≡ Less) (keys_of tail)
    → AllByRecursion (λ e. is_lt (id_cmp e.0 x.0) ≡ false) tail
all_behind x [] all = tt
all_behind x (e ∷ es) all = (ap is_lt (turned ids_total x.0 e.0 Less all.0), all_behind x es all.1)

jump_behind : (kind : By) (group : Group) (marks : MarkList) (front : List HeldItem) (x : HeldItem) (tail : List HeldItem)
    → IsStrictlySortedBy id_cmp (keys_of (front ++ x ∷ tail)) → AreRuns kind (front ++ x ∷ tail) marks
    → same_group (group_in kind x.1) group ≡ false
    → IsJump kind group (front ++ x ∷ tail) (x ∷ tail) (from_mark (next_mark group x.0 marks) (front ++ x ∷ tail))
unfolding IsStrictlySortedBy
jump_behind kind group marks front x tail sorted runs other =
    let up : IsStrictlySortedBy id_cmp (keys_of (x ∷ tail)) = sorted-right id_cmp front (x ∷ tail) sorted in
    jump kind group x.0 marks front (x ∷ tail) sorted runs (all_before front x tail sorted) (
      λ h. (let no : false ≡ true = sym other ∙ h in absurd cc),
      all_marked kind group x.0 marks (next_mark group x.0 marks) (is_next group x.0 marks runs.sorted) (Some (group_in kind x.1)) tail
          (ap not other) (all_behind x tail up.0) up.1 (begun_behind kind marks None front x tail runs.begun),
    )

pub next_jump : (kind : By) (group : Group) (marks : MarkList) (es : List HeldItem) (x : HeldItem) (tail : List HeldItem)
    → AreLent kind marks es (x ∷ tail) → same_group (group_in kind x.1) group ≡ false
    → IsJump kind group es (x ∷ tail) (from_mark (next_mark group x.0 marks) es)
next_jump kind group marks es x tail lent other =
    subst (λ (fs : List HeldItem). IsJump kind group fs (x ∷ tail) (from_mark (next_mark group x.0 marks) fs)) (sym lent.last.is)
    (jump_behind kind group marks lent.last.front x tail
    (subst (λ (fs : List HeldItem). IsStrictlySortedBy id_cmp (keys_of fs)) lent.last.is lent.ids)
    (subst (λ (fs : List HeldItem). AreRuns kind fs marks) lent.last.is lent.runs) other)

-- ---- one more is lent

pub lent_tail : (kind : By) (marks : MarkList) (es : List HeldItem) (x : HeldItem) (tail : List HeldItem) → AreLent kind marks es (x ∷ tail)
    → AreLent kind marks es tail
lent_tail kind marks es x tail lent = record {
  ids = lent.ids;
  runs = lent.runs;
  last = record {
    front = lent.last.front ++ x ∷ [];
    is = lent.last.is ∙ sym (append_assoc lent.last.front (x ∷ []) tail);
  };
}

-- what is left is lent after a call
pub lent_after : {A : Type 0} (view : A → HeldItem) (r : Option A) (kind : By) (marks : MarkList) (es new left : List HeldItem)
    → MatchOption r ((new ≡ []) × (left ≡ [])) (λ x. new ≡ view x ∷ left) → AreLent kind marks es new → AreLent kind marks es left
lent_after view None kind marks es new left steps lent =
    subst (λ (fs : List HeldItem). AreLent kind marks es fs) (steps.0 ∙ sym steps.1) lent
lent_after view (Some x) kind marks es new left steps lent =
    lent_tail kind marks es (view x) left (subst (λ (fs : List HeldItem). AreLent kind marks es fs) steps lent)

pub lent_jump : (kind : By) (group : Group) (marks : MarkList) (es rest new : List HeldItem) → AreLent kind marks es rest
    → IsJump kind group es rest new → AreLent kind marks es new
lent_jump kind group marks es rest new lent jump = record { ids = lent.ids; runs = lent.runs; last = jump.last }

-- and what it gave is the first of the group's items
pub jump_gives : {A : Type 0} (view : A → HeldItem) (r : Option A) (kind : By) (group : Group) (es rest new left all : List HeldItem)
    → IsJump kind group es rest new → of_group kind group rest ≡ all
    → MatchOption r ((new ≡ []) × (left ≡ [])) (λ x. new ≡ view x ∷ left)
    → MatchOption r ((all ≡ []) × (of_group kind group left ≡ [])) (λ x. all ≡ view x ∷ of_group kind group left)
jump_gives view None kind group es rest new left all jump is steps =
    (sym is ∙ jump.same ∙ ap (of_group kind group) steps.0, ap (of_group kind group) steps.1)
jump_gives view (Some x) kind group es rest new left all jump is steps =
    sym is ∙ jump.same ∙ ap (of_group kind group) steps
    ∙ ap (λ b. cond b (view x ∷ of_group kind group left) (of_group kind group left)) (jump.first (view x) left steps)

-- an iterator that gives the first of what is left comes nearer to its end
pub goes_on : {S A B : Type 0} {can : S → Type 0} (view : A → B) (rest : S → List B) (s : S) (r : Option A) (t : S) → can t
    → MatchOption r ((rest s ≡ []) × (rest t ≡ [])) (λ x. rest s ≡ view x ∷ rest t) → MakesProgress can (item_count rest) s r t
goes_on view rest s None t can steps = record { on = λ _. tt; keeps = tt; rests = λ _. tt }
goes_on view rest s (Some x) t can steps =
    let lengths : length (rest s) ≡ suc (length (rest t)) = ap length steps in
    let lt : length (rest t) < length (rest s) = omega (arith, lengths) in
    record { on = λ _. (can, tt, lt); keeps = can; rests = λ _. tt }
