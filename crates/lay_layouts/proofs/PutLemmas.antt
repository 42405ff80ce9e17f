-- Entries after a write, and after many: the map of them.
use Rattle.std.proofs.Common.{◌≡◌, ◌∙◌, ◌++◌, Bool, true, false, List, [], ◌∷◌, Option, Some, None, ap, cond, refl, sym}
use Rattle.std.specs.declared.cmp.Ordering.{Ordering}
use Rattle.std.specs.declared.cmp.Ordering.TheVariants.{Equal, Greater, Less}
use Rattle.std.specs.Cmp.{IsTotalOrder}
use Rattle.std.specs.FinMap.{FinMap, IsAntisymmetric, find, from_entries, get, get-from_entries, get-insert, get-remove, same_map}
use Rattle.std.specs.FinMap.Entries.{find-where_key}
use Rattle.std.specs.Ordering.{eq_by_cmp, is_eq, is_lt, ordering_reverse}
use Rattle.lay_pages.specs.Written.{after_write, higher, lower, written_all, written_entries}
use Rattle.lay_layouts.specs.Layout.{put, put_all}
use Rattle.lay_layouts.proofs.DistinctLemmas.{or_else, or_none}

module _ {K X : Type 0} (R : K → K → Ordering) where
  pub find-both : (q : K) (es fs : List (K × X)) → find R q (es ++ fs) ≡ or_else (find R q es) (find R q fs)
  find-both q [] fs = refl
  find-both q (e ∷ es) fs = by (eq_by_cmp R q e.0) (find-both q es fs) where
    by : (b : Bool) → find R q (es ++ fs) ≡ or_else (find R q es) (find R q fs)
        → cond b (Some e.1) (find R q (es ++ fs)) ≡ or_else (cond b (Some e.1) (find R q es)) (find R q fs)
    by true rest = refl
    by false rest = rest

  pub find-lower : IsAntisymmetric R → (q k : K) (es : List (K × X)) → find R q (lower R k es) ≡ cond (is_lt (R q k)) (find R q es) None
  find-lower exact q k es = find-where_key R (λ x. is_lt (R x k)) q (λ x e. ap (λ y. is_lt (R y k)) (sym (exact q x e))) es

  pub find-higher : IsAntisymmetric R → (q k : K) (es : List (K × X)) → find R q (higher R k es) ≡ cond (is_lt (R k q)) (find R q es) None
  find-higher exact q k es = find-where_key R (λ x. is_lt (R k x)) q (λ x e. ap (λ y. is_lt (R k y)) (sym (exact q x e))) es

  pub find-entry : (q k : K) (o : Option X) → find R q (written_entries k o) ≡ cond (eq_by_cmp R q k) o None
  find-entry q k None = by (eq_by_cmp R q k) where
    by : (b : Bool) → ◌≡◌ {A = Option X} None (cond b None None)
    by true = refl
    by false = refl
  find-entry q k (Some item) = refl

module _ {K X : Type 0} {R : K → K → Ordering} (total : IsTotalOrder R) (exact : IsAntisymmetric R) where
  -- what is found under a key after a write
  pub find-after_write : (k : K) (x : Option X) (es : List (K × X)) (q : K)
      → find R q (after_write R k x es) ≡ cond (eq_by_cmp R q k) x (find R q es)
  find-after_write k x es q =
      find-both R q (lower R k es) (written_entries k x ++ higher R k es)
      ∙ (λ i. or_else (find-lower R exact q k es i) (find-both R q (written_entries k x) (higher R k es) i))
      ∙ (λ i. or_else (cond (is_lt (R q k)) (find R q es) None) (or_else (find-entry R q k x i) (find-higher R exact q k es i)))
      ∙ by (R q k) refl (find R q es) where
        turned : (o : Ordering) → R q k ≡ o → R k q ≡ ordering_reverse o
        turned o is = total.antisymm k q ∙ ap ordering_reverse is

        by : (o : Ordering) → R q k ≡ o → (old : Option X)
            → or_else (cond (is_lt (R q k)) old None) (or_else (cond (eq_by_cmp R q k) x None) (cond (is_lt (R k q)) old None))
            ≡ cond (eq_by_cmp R q k) x old
        by Less is old =
            (λ i. or_else (cond (is_lt (is i)) old None)
            (or_else (cond (is_eq (is i)) x None) (cond (is_lt (turned Less is i)) old None)))
            ∙ or_none old ∙ ap (λ o. cond (is_eq o) x old) (sym is)
        by Equal is old =
            (λ i. or_else (cond (is_lt (is i)) old None)
            (or_else (cond (is_eq (is i)) x None) (cond (is_lt (turned Equal is i)) old None)))
            ∙ or_none x ∙ ap (λ o. cond (is_eq o) x old) (sym is)
        by Greater is old =
            (λ i. or_else (cond (is_lt (is i)) old None)
            (or_else (cond (is_eq (is i)) x None) (cond (is_lt (turned Greater is i)) old None)))
            ∙ ap (λ o. cond (is_eq o) x old) (sym is)

  -- the map after a write
  pub put-after_write : (k : K) (x : Option X) (es : List (K × X))
      → from_entries {R = R} (after_write R k x es) ≡ put (from_entries es) k x
  put-after_write k x es = same_map total exact _ _ (λ q.
      get-from_entries total (after_write R k x es) q ∙ find-after_write k x es q
      ∙ ap (cond (eq_by_cmp R q k) x) (sym (get-from_entries total es q)) ∙ sym (one x q)) where
        one : (o : Option X) (q : K)
            → get (put (from_entries {R = R} es) k o) q ≡ cond (eq_by_cmp R q k) o (get (from_entries {R = R} es) q)
        one None q = get-remove total (from_entries es) k q
        one (Some item) q = get-insert total (from_entries es) k item q

  -- and after many
  pub put_all-written : (es : List (K × X)) (writes : List (K × Option X))
      → from_entries {R = R} (written_all R es writes) ≡ put_all (from_entries es) writes
  put_all-written es [] = refl
  put_all-written es (w ∷ writes) =
      put_all-written (after_write R w.0 w.1 es) writes ∙ ap (λ (m : FinMap R X). put_all m writes) (put-after_write w.0 w.1 es)
