-- The marks of items that begin runs, put in order.
use Rattle.std.proofs.Common.{◌≡◌, ◌∙◌, ◌⊎◌, inl, inr, Bool, true, false, List, [], ◌∷◌, Option, Some, None, Contains, Decides}
use Rattle.std.proofs.Common.{ap, cond, map, refl, subst, sym}
use Rattle.std.specs.Prelude.{option_map}
use Rattle.std.specs.Cmp.{Equal-is, decided, eq_by_cmp_equiv}
use Rattle.std.specs.FinMap.{find}
use Rattle.std.specs.List.{AllByRecursion, dedup}
use Rattle.std.specs.List.Retain.{DiffersFromLast, IsFiltered}
use Rattle.std.specs.List.Sorted.{IsPermutation, IsSorted, IsStrictlySortedBy}
use Rattle.std.specs.Map.{keys_of}
use Rattle.std.specs.Ordering.{eq_by_cmp}
use Rattle.std.proofs.lemmas.List.{append-nil}
use Rattle.std.proofs.lemmas.List.Filters.{dedup_is}
use Rattle.std.proofs.lemmas.List.Kept.{Contains-dedup, Contains-from_dedup, IsStrictlySortedBy-dedup}
use Rattle.std.proofs.lemmas.List.Sorted.{Contains-permutation, IsPermutation-sym}
use Rattle.lay_point.proofs.Members.{Has, contains, has}
use Rattle.lay_pages.proofs.OrderLemmas.{found_sorted}
use Rattle.lay_layouts.specs.IdOrder.{ids_exact, ids_total}
use Rattle.lay_layouts.specs.Ids.{id_cmp}
use Rattle.lay_items.specs.declared.beginnings.Beginnings.{Beginnings}
use Rattle.lay_items.specs.declared.group.By.{By}
use Rattle.lay_items.specs.declared.group.Group.{Group}
use Rattle.lay_items.specs.declared.marks.Mark.{Mark}
use Rattle.lay_items.specs.Begun.{HaveBegun}
use Rattle.lay_items.specs.Runs.{AreBegun, AreRuns, HeldItem, HasMark, MarkList, beginnings}
use Rattle.lay_items.specs.Runs.{begins, group_in, mark_cmp, mark_of, marks_exact, marks_total, with_none}

-- a mark is found among the keys that are made of marks just where it is one of them
found : (ms : List Mark) (m : Mark) → Has ms m → HasMark (map with_none ms) m
found [] m h = absurd h
found (k ∷ ks) m h = by (eq_by_cmp mark_cmp m k) refl h (found ks m) where
  by : (b : Bool) → eq_by_cmp mark_cmp m k ≡ b → (k ≡ m) ⊎ Has ks m → (Has ks m → HasMark (map with_none ks) m)
      → cond b (Some tt) (find mark_cmp m (map with_none ks)) ≡ Some tt
  by true is h rest = refl
  by false is (inl same) rest =
      let yes : eq_by_cmp mark_cmp m k ≡ true = ap (eq_by_cmp mark_cmp m) same ∙ (eq_by_cmp_equiv marks_total).refl m in
      absurd cc
  by false is (inr h) rest = rest h

has_found : (ms : List Mark) (m : Mark) → HasMark (map with_none ms) m → Has ms m
has_found [] m is = absurd cc
has_found (k ∷ ks) m is = by (eq_by_cmp mark_cmp m k) refl is (has_found ks m) where
  by : (b : Bool) → eq_by_cmp mark_cmp m k ≡ b → cond b (Some tt) (find mark_cmp m (map with_none ks)) ≡ Some tt
      → (HasMark (map with_none ks) m → Has ks m) → (k ≡ m) ⊎ Has ks m
  by true same h rest = inl (sym (marks_exact m k ((Equal-is (mark_cmp m k)).0 same)))
  by false other h rest = inr (rest h)

pub keys : (ms : List Mark) → keys_of (map with_none ms) ≡ ms
keys [] = refl
keys (m ∷ ms) = ap (λ ks. m ∷ ks) (keys ms)

-- marks that have those of all that begin runs
begun : (by : By) (marks : MarkList) (before : Option Group) (es : List HeldItem)
    → ((m : Mark) → Has (beginnings by before es) m → HasMark marks m) → AreBegun by marks before es
begun by marks before [] all = tt
begun by marks before (e ∷ es) all = (
  λ first. all (mark_of by e) (here (begins before (group_in by e.1)) first),
  begun by marks (Some (group_in by e.1)) es (λ m h. all m (there (begins before (group_in by e.1)) m h)),
) where
  rest : List Mark
  rest = beginnings by (Some (group_in by e.1)) es

  here : (b : Bool) → b ≡ true → Has (cond b (mark_of by e ∷ rest) rest) (mark_of by e)
  here true is = inl refl
  here false is = absurd cc

  there : (b : Bool) (m : Mark) → Has rest m → Has (cond b (mark_of by e ∷ rest) rest) m
  there true m h = inr h
  there false m h = h

-- each mark of those that begin runs is that of an item
of_items : (by : By) (whole : List HeldItem) (before : Option Group) (es : List HeldItem) (m : Mark)
    → AllByRecursion (λ (e : HeldItem). find id_cmp e.0 whole ≡ Some e.1) es → Has (beginnings by before es) m
    → option_map (group_in by) (find id_cmp m.id whole) ≡ Some m.group
of_items by whole before [] m all h = absurd h
of_items by whole before (e ∷ es) m all h =
    step (begins before (group_in by e.1)) h (of_items by whole (Some (group_in by e.1)) es m all.1) where
      rest : List Mark
      rest = beginnings by (Some (group_in by e.1)) es

      step : (b : Bool) → Has (cond b (mark_of by e ∷ rest) rest) m
          → (Has rest m → option_map (group_in by) (find id_cmp m.id whole) ≡ Some m.group)
          → option_map (group_in by) (find id_cmp m.id whole) ≡ Some m.group
      step true (inl same) more =
          subst (λ (k : Mark). option_map (group_in by) (find id_cmp k.id whole) ≡ Some k.group) same (ap (option_map (group_in by)) all.0)
      step true (inr h) more = more h
      step false h more = more h

module _ {E : Mark → Mark → Bool} (ties : (a b : Mark) → E a b ≡ eq_by_cmp mark_cmp a b) (xs ys zs : List Mark) where
  -- marks that are sorted, and each kept once, rise
  pub rising_made : IsSorted mark_cmp ys → IsFiltered (DiffersFromLast E) [] ys zs → IsStrictlySortedBy mark_cmp zs
  rising_made up filtered =
      subst (λ (ms : List Mark). IsStrictlySortedBy mark_cmp ms) (sym (dedup_is E ys zs filtered))
      (IsStrictlySortedBy-dedup marks_total ties ys up)

  -- those of items that begin runs are the marks of the runs
  pub runs_made : (by : By) (es : List HeldItem) → IsStrictlySortedBy id_cmp (keys_of es) → xs ≡ beginnings by None es
      → IsPermutation xs ys → IsSorted mark_cmp ys → IsFiltered (DiffersFromLast E) [] ys zs → AreRuns by es (map with_none zs)
  runs_made by es sorted are moved up filtered = record {
    sorted = subst (λ (ms : List Mark). IsStrictlySortedBy mark_cmp ms) (sym (keys zs)) (rising_made up filtered);
    begun = begun by (map with_none zs) None es
        (λ m h. found zs m (has zs m (into m (contains xs m (subst (λ (ms : List Mark). Has ms m) (sym are) h)))));
    of_items = λ m h. of_items by es None es m (found_sorted ids_total ids_exact es sorted)
        (subst (λ (ms : List Mark). Has ms m) are (has xs m (out m (contains zs m (has_found zs m h)))));
  } where
    kept : zs ≡ dedup E ys
    kept = dedup_is E ys zs filtered

    same : (a b : Mark) → E a b ≡ true → a ≡ b
    same a b is = marks_exact a b ((Equal-is (mark_cmp a b)).0 (sym (ties a b) ∙ is))

    itself : (a : Mark) → E a a ≡ true
    itself a = ties a a ∙ (eq_by_cmp_equiv marks_total).refl a

    both : (a b : Mark) → Decides (E a b) (a ≡ b)
    both a b = (same a b, λ e. subst (λ (c : Mark). E a c ≡ true) e (itself a))

    into : (m : Mark) → Contains xs m → Contains zs m
    into m w =
        subst (λ (ms : List Mark). Contains ms m) (sym kept)
        (Contains-dedup (decided E both) (λ a b e. same a b e) ys m (Contains-permutation xs ys m moved w))

    out : (m : Mark) → Contains zs m → Contains xs m
    out m w =
        Contains-permutation ys xs m (IsPermutation-sym xs ys moved)
        (Contains-from_dedup E ys m (subst (λ (ms : List Mark). Contains ms m) kept w))

-- marks of items that came one after another are those of all of them
pub marks_taken : (by : By) (es : List HeldItem) (taken : Beginnings) → HaveBegun by es taken
    → taken.marks.items ≡ beginnings by None es
marks_taken by es taken begun = sym (append-nil taken.marks.items) ∙ begun [] ∙ ap (beginnings by None) (append-nil es)
