-- A tree's entries as a finite map: what it has at a key, and what an insert leaves.
use Rattle.std.proofs.Common.{◌≡◌, true, List, [], ◌∷◌, Some, cond, refl, ap, sym, ◌∙◌, length, arith}
use Rattle.std.specs.declared.cmp.Ordering.{Ordering}
use Rattle.std.specs.Ordering.{eq_by_cmp, is_lt}
use Rattle.std.specs.BTreeMap.{is_at}
use Rattle.std.specs.Map.{lookup}
use Rattle.std.specs.Cmp.{IsTotalOrder, eq_by_cmp_equiv}
use Rattle.std.specs.declared.cmp.Ordering.TheVariants.{Equal, Greater, Less}
use Rattle.std.specs.List.{AllByRecursion}
use Rattle.std.specs.List.Sorted.{IsStrictlySortedBy}
use Rattle.std.specs.Map.{keys_of}
use Rattle.std.specs.FinMap.{IsAntisymmetric, empty, entries, entries-insert, find, from_entries, get, get-from_entries, get-insert}
use Rattle.std.specs.FinMap.Entries.{below_all}
use Rattle.std.proofs.lemmas.Bool.{and_parts}
use Rattle.std.specs.FinMap.{is_sorted, insert, len-empty, len-entries, put, same_map}

find_lookup : {K X : Type 0} (R : K → K → Ordering) (es : List (K × X)) (q : K) → find R q es ≡ lookup (is_at (R q)) es
find_lookup R [] q = refl
find_lookup R (e ∷ es) q = ap (cond (is_at (R q) e.0) (Some e.1)) (find_lookup R es q)

module _ {K X : Type 0} {R : K → K → Ordering} where
  -- what the map of the entries has at a key
  pub get_lookup : IsTotalOrder R → (es : List (K × X)) (q : K) → get (from_entries {R = R} es) q ≡ lookup (is_at (R q)) es
  get_lookup total es q = get-from_entries total es q ∙ find_lookup R es q

  -- entries that differ at one key make maps that differ there
  pub one_inserted : IsTotalOrder R → IsAntisymmetric R → (es fs : List (K × X)) (k : K) (v : X) →
      ((q : K) → lookup (is_at (R q)) fs ≡ cond (is_at (R k) q) (Some v) (lookup (is_at (R q)) es))
      → from_entries {R = R} fs ≡ insert (from_entries es) k v
  one_inserted total exact es fs k v h = same_map total exact _ _ (λ q.
      get_lookup total fs q ∙ h q ∙ ap (λ b. cond b (Some v) (lookup (is_at (R q)) es)) ((eq_by_cmp_equiv total).symm k q)
      ∙ sym (get-insert total (from_entries es) k v q ∙ ap (cond (eq_by_cmp R q k) (Some v)) (get_lookup total es q)))

pub no_length : {A : Type 0} (xs : List A) → length xs ≡ 0 → xs ≡ []
no_length [] e = refl
no_length (x ∷ xs) e = absurd (omega arith)

-- a key below all others goes to the front
put_first : {K X : Type 0} (R : K → K → Ordering) (k : K) (v : X) (es : List (K × X)) → AllByRecursion (λ y. R k y ≡ Less) (keys_of es)
    → put R k v es ≡ (k, v) ∷ es
put_first R k v [] below = refl
put_first R k v (e ∷ es) below = rw below.0 refl

-- entries in order are those of their map
pub entries_again : {K X : Type 0} (R : K → K → Ordering) → IsTotalOrder R → (es : List (K × X)) → IsStrictlySortedBy R (keys_of es)
    → entries (from_entries {R = R} es) ≡ es
unfolding IsStrictlySortedBy
entries_again {K} {X} R total [] sorted = no_length _ (sym (len-entries (empty {X = X} {R = R})) ∙ len-empty R X)
entries_again R total (e ∷ es) sorted =
    entries-insert total (from_entries es) e.0 e.1 ∙ ap (put R e.0 e.1) (entries_again R total es sorted.1)
    ∙ put_first R e.0 e.1 es sorted.0

-- keys in order
pub sorted_keys : {K X : Type 0} (R : K → K → Ordering) (es : List (K × X)) → is_sorted R es ≡ true → IsStrictlySortedBy R (keys_of es)
unfolding IsStrictlySortedBy
sorted_keys R [] h = tt
sorted_keys {K} {X} R (e ∷ es) h =
    let both = and_parts (below_all R e.0 es) (is_sorted R es) h in (below es both.0, sorted_keys R es both.1) where
      less : (o : Ordering) → is_lt o ≡ true → o ≡ Less
      less Less h = refl
      less Equal h = absurd cc
      less Greater h = absurd cc

      below : (fs : List (K × X)) → below_all R e.0 fs ≡ true → AllByRecursion (λ y. R e.0 y ≡ Less) (keys_of fs)
      below [] h = tt
      below (f ∷ fs) h = let both = and_parts (is_lt (R e.0 f.0)) (below_all R e.0 fs) h in (less (R e.0 f.0) both.0, below fs both.1)
