-- Where one of many writes falls, whose ids rise: what is before it is as after all of them, and what is behind it as before.
use Rattle.std.proofs.Common.{◌≡◌, ◌∙◌, ◌<◌, ◌+◌, ◌++◌, ℕ, zero, suc, Bool, false, List, [], ◌∷◌, Option, None, Some}
use Rattle.std.proofs.Common.{ap, arith, cond, drop, get_or, length, refl, subst, sym, take}
use Rattle.std.specs.Prelude.{filter}
use Rattle.std.specs.declared.cmp.Ordering.{Ordering}
use Rattle.std.specs.declared.cmp.Ordering.TheVariants.{Less}
use Rattle.std.specs.Cmp.{IsTotalOrder}
use Rattle.std.specs.FinMap.{IsAntisymmetric, find}
use Rattle.std.specs.List.{AllByRecursion}
use Rattle.std.specs.List.Sorted.{IsStrictlySortedBy}
use Rattle.std.specs.Map.{keys_of}
use Rattle.std.specs.Ordering.{is_eq, is_lt}
use Rattle.std.proofs.lemmas.Cmp.{tied_itself}
use Rattle.std.proofs.lemmas.List.Elements.{filter-append}
use Rattle.lay_pages.specs.Written.{after_write, first_entry, higher, last_entry, lower, written_all, written_entries}
use Rattle.lay_pages.proofs.OrderLemmas.{sorted-written, written-same}
use Rattle.lay_pages.proofs.RisingLemmas.{sorted_all, written_parts}
use Rattle.lay_pages.proofs.SearchLemmas.{turned}
use Rattle.lay_layouts.specs.declared.id.ItemId.{ItemId}
use Rattle.lay_layouts.specs.declared.item.Item.{Item}
use Rattle.lay_layouts.specs.IdOrder.{ids_exact, ids_total}
use Rattle.lay_layouts.specs.Ids.{id_cmp}
use Rattle.lay_layouts.specs.Layout.{Write}
use Rattle.lay_layouts.proofs.PutLemmas.{find-after_write}
use Rattle.lay_items.specs.declared.group.By.{By}
use Rattle.lay_items.specs.Runs.{AreRuns, HeldItem, MarkList, marks_after}
use Rattle.lay_items.proofs.MarkLemmas.{runs_again}

-- ---- entries that no write touches

module _ {K X : Type 0} {R : K → K → Ordering} (total : IsTotalOrder R) (exact : IsAntisymmetric R) where
  -- what is kept by a test of keys that the written one doesn't pass
  kept_written : (p : K → Bool) (k : K) (x : Option X) (es : List (K × X)) → IsStrictlySortedBy R (keys_of es) → p k ≡ false
      → filter (λ (e : K × X). p e.0) (after_write R k x es) ≡ filter (λ (e : K × X). p e.0) es
  kept_written p k x es sorted fails =
      parts x ∙ sym (parts (find R k es)) ∙ ap (filter (λ (e : K × X). p e.0)) (written-same total exact k es sorted) where
        none : (o : Option X) → filter (λ (e : K × X). p e.0) (written_entries k o) ≡ []
        none None = refl
        none (Some y) = ap (λ b. cond b ((k, y) ∷ []) []) fails

        parts : (o : Option X) → filter (λ (e : K × X). p e.0) (after_write R k o es)
            ≡ filter (λ (e : K × X). p e.0) (lower R k es) ++ filter (λ (e : K × X). p e.0) (higher R k es)
        parts o =
            filter-append (λ (e : K × X). p e.0) (lower R k es) (written_entries k o ++ higher R k es)
            ∙ ap (λ fs. filter (λ (e : K × X). p e.0) (lower R k es) ++ fs)
            (filter-append (λ (e : K × X). p e.0) (written_entries k o) (higher R k es)
            ∙ ap (λ fs. fs ++ filter (λ (e : K × X). p e.0) (higher R k es)) (none o))

  kept_all : (p : K → Bool) (es : List (K × X)) (ws : List (K × Option X)) → IsStrictlySortedBy R (keys_of es)
      → AllByRecursion (λ y. p y ≡ false) (keys_of ws)
      → filter (λ (e : K × X). p e.0) (written_all R es ws) ≡ filter (λ (e : K × X). p e.0) es
  kept_all p es [] sorted fails = refl
  kept_all p es (w ∷ ws) sorted fails =
      kept_all p (after_write R w.0 w.1 es) ws (sorted-written total exact w.0 w.1 es sorted) fails.1
      ∙ kept_written p w.0 w.1 es sorted fails.0

  -- what is found behind all keys that are written
  found_all : (q : K) (es : List (K × X)) (ws : List (K × Option X)) → AllByRecursion (λ y. R y q ≡ Less) (keys_of ws)
      → find R q (written_all R es ws) ≡ find R q es
  found_all q es [] below = refl
  found_all q es (w ∷ ws) below =
      found_all q (after_write R w.0 w.1 es) ws below.1 ∙ find-after_write total exact w.0 w.1 es q
      ∙ ap (λ o. cond (is_eq o) w.1 (find R q es)) (turned total w.0 q Less below.0)

  -- with one write more
  pub written_more : (es : List (K × X)) (ws : List (K × Option X)) (i : ℕ) (d : K × Option X) → i < length ws
      → written_all R es (take (i + 1) ws) ≡ after_write R (get_or ws i d).0 (get_or ws i d).1 (written_all R es (take i ws))
  written_more es ws i d lt = ap (λ n. written_all R es (take n ws)) up ∙ by es ws i lt where
    up : i + 1 ≡ suc i
    up = omega arith

    by : (es : List (K × X)) (ws : List (K × Option X)) (i : ℕ) → i < length ws
        → written_all R es (take (suc i) ws) ≡ after_write R (get_or ws i d).0 (get_or ws i d).1 (written_all R es (take i ws))
    by es [] i lt = absurd (omega arith)
    by es (w ∷ ws) zero lt = refl
    by es (w ∷ ws) (suc i) lt = by (after_write R w.0 w.1 es) ws i (omega arith)

  -- the keys of the writes before one, and of those behind it
  record AreAround (k : K) (before behind : List (K × Option X)) : Type 0 where
    pub below : AllByRecursion (λ y. R y k ≡ Less) (keys_of before)
    pub above : AllByRecursion (λ y. R k y ≡ Less) (keys_of behind)

  around : (ws : List (K × Option X)) (i : ℕ) (d : K × Option X) → i < length ws → IsStrictlySortedBy R (keys_of ws)
      → AreAround (get_or ws i d).0 (take i ws) (drop (suc i) ws)
  unfolding IsStrictlySortedBy
  around [] i d lt rising = absurd (omega arith)
  around (w ∷ ws) zero d lt rising = record { below = tt; above = rising.0 }
  around (w ∷ ws) (suc i) d lt rising =
      let rest = around ws i d (omega arith) rising.1 in record {
        below = (at ws i rising.0 (omega arith), rest.below);
        above = rest.above;
      } where
        at : (vs : List (K × Option X)) (j : ℕ) → AllByRecursion (λ y. R w.0 y ≡ Less) (keys_of vs) → j < length vs
            → R w.0 (get_or vs j d).0 ≡ Less
        at [] j all lt = absurd (omega arith)
        at (v ∷ vs) zero all lt = all.0
        at (v ∷ vs) (suc j) all lt = at vs j all.1 (omega arith)

-- ---- where a write falls

-- what is so of a write, of the items between those before it and those after it
pub record IsSite (id : ItemId) (old now new : List HeldItem) : Type 0 where
  pub before : lower id_cmp id new ≡ lower id_cmp id now
  pub old_is : find id_cmp id old ≡ find id_cmp id now
  pub after : higher id_cmp id old ≡ higher id_cmp id now

pub site_in : (es : List HeldItem) (ws : List Write) (i : ℕ) (w : Write) → i < length ws → w ≡ get_or ws i w
    → IsStrictlySortedBy id_cmp (keys_of es) → IsStrictlySortedBy id_cmp (keys_of ws)
    → IsSite w.0 es (written_all id_cmp es (take i ws)) (written_all id_cmp es ws)
site_in es ws i w lt is sorted rising =
    let sides = subst (λ (v : Write). AreAround ids_total ids_exact v.0 (take i ws) (drop (suc i) ws)) (sym is)
    (around ids_total ids_exact ws i w lt rising) in
    let now = written_all id_cmp es (take i ws) in
    record {
      before = ap (lower id_cmp w.0) (sym (written_parts id_cmp es i ws))
          ∙ kept_all ids_total ids_exact (λ y. is_lt (id_cmp y w.0)) now (drop i ws) (sorted_all ids_total ids_exact es (take i ws) sorted)
          (subst (λ (vs : List Write). AllByRecursion (λ y. is_lt (id_cmp y w.0) ≡ false) (keys_of vs)) (sym (from_here ws i lt is))
          (ap is_lt (tied_itself ids_total w.0), behind (drop (suc i) ws) sides.above));
      old_is = sym (found_all ids_total ids_exact w.0 es (take i ws) sides.below);
      after = sym (kept_all ids_total ids_exact (λ y. is_lt (id_cmp w.0 y)) es (take i ws) sorted (before (take i ws) sides.below));
    } where
      from_here : (ws : List Write) (i : ℕ) → i < length ws → w ≡ get_or ws i w → drop i ws ≡ w ∷ drop (suc i) ws
      from_here [] i lt is = absurd (omega arith)
      from_here (v ∷ ws) zero lt is = ap (λ u. u ∷ ws) (sym is)
      from_here (v ∷ ws) (suc i) lt is = from_here ws i (omega arith) is

      behind : (vs : List Write) → AllByRecursion (λ y. id_cmp w.0 y ≡ Less) (keys_of vs)
          → AllByRecursion (λ y. is_lt (id_cmp y w.0) ≡ false) (keys_of vs)
      behind [] all = tt
      behind (v ∷ vs) all = (ap is_lt (turned ids_total w.0 v.0 Less all.0), behind vs all.1)

      before : (vs : List Write) → AllByRecursion (λ y. id_cmp y w.0 ≡ Less) (keys_of vs)
          → AllByRecursion (λ y. is_lt (id_cmp w.0 y) ≡ false) (keys_of vs)
      before [] all = tt
      before (v ∷ vs) all = (ap is_lt (turned ids_total v.0 w.0 Less all.0), before vs all.1)

-- ---- the runs after one write more

pub runs_more : (by : By) (es : List HeldItem) (ws : List Write) (i : ℕ) (w : Write) (marks now : MarkList)
    (before after : Option HeldItem) (old new : Option Item) → i < length ws → w ≡ get_or ws i w
    → IsStrictlySortedBy id_cmp (keys_of es) → IsStrictlySortedBy id_cmp (keys_of ws)
    → AreRuns by (written_all id_cmp es (take i ws)) marks → before ≡ last_entry (lower id_cmp w.0 (written_all id_cmp es ws))
    → old ≡ find id_cmp w.0 es → after ≡ first_entry (higher id_cmp w.0 es) → new ≡ w.1
    → now ≡ marks_after by (record { before = before; id = w.0; old = old; new = new; after = after }) marks
    → AreRuns by (written_all id_cmp es (take (i + 1) ws)) now
runs_more by es ws i w marks now before after old new lt is sorted rising runs lows olds highs item marks_are =
    let site = site_in es ws i w lt is sorted rising in
    let so_far = written_all id_cmp es (take i ws) in
    subst (λ (fs : List HeldItem). AreRuns by fs now)
    (sym (written_more ids_total ids_exact es ws i w lt ∙ ap (λ (v : Write). after_write id_cmp v.0 v.1 so_far) (sym is)))
    (runs_again by w.0 w.1 new so_far marks now before after old (sorted_all ids_total ids_exact es (take i ws) sorted) runs
    (lows ∙ ap last_entry site.before) (olds ∙ site.old_is) (highs ∙ ap first_entry site.after) item marks_are)
