-- What is picked from a list, element by element.
use Rattle.std.proofs.Common.{◌≡◌, inl, inr, ℕ, zero, suc, ◌+◌, ◌<◌, Bool, true, false, cond, List, [], ◌∷◌, ◌++◌}
use Rattle.std.proofs.Common.{length, get_or, take, refl, sym, ap, subst, ◌∙◌, arith}
use Rattle.std.proofs.lemmas.List.{append-nil, length-take-le, take_more}
use Rattle.lay_point.proofs.Members.{Has}
use Rattle.face_rows.specs.Picked.{picked}

module _ {A B : Type 0} (test : A → Bool) (make : ℕ → A → B) where
  picked-append : (n : ℕ) (xs ys : List A) → picked test make n (xs ++ ys) ≡ picked test make n xs ++ picked test make (n + length xs) ys
  picked-append n [] ys = ap (λ m. picked test make m ys) (omega arith)
  picked-append n (x ∷ xs) ys = by_test (test x)
      (picked-append (n + 1) xs ys ∙ ap (λ m. picked test make (n + 1) xs ++ picked test make m ys) (omega arith))
    where
      by_test : (b : Bool)
          → picked test make (n + 1) (xs ++ ys) ≡ picked test make (n + 1) xs ++ picked test make (n + length (x ∷ xs)) ys
          → cond b (make n x ∷ picked test make (n + 1) (xs ++ ys)) (picked test make (n + 1) (xs ++ ys))
          ≡ cond b (make n x ∷ picked test make (n + 1) xs) (picked test make (n + 1) xs) ++ picked test make (n + length (x ∷ xs)) ys
      by_test true h = ap (λ zs. make n x ∷ zs) h
      by_test false h = h

  next : (xs : List A) (i : ℕ) (x : A) (b : Bool) → i < length xs → x ≡ get_or xs i x → test x ≡ b
      → picked test make 0 (take (i + 1) xs) ≡ picked test make 0 (take i xs) ++ cond b (make i x ∷ []) []
  next xs i x b less is t =
      let count : 0 + length (take i xs) ≡ i = omega (arith, length-take-le i xs (omega arith)) in
      ap (picked test make 0) (take_more xs i x less ∙ ap (λ z. take i xs ++ z ∷ []) (sym is)) ∙ picked-append 0 (take i xs) (x ∷ [])
      ∙ (λ k. picked test make 0 (take i xs) ++ cond (t k) (make (count k) x ∷ []) [])

  -- one element more
  pub picked_more : (xs : List A) (i : ℕ) (x : A) → i < length xs → x ≡ get_or xs i x → test x ≡ true
      → picked test make 0 (take (i + 1) xs) ≡ picked test make 0 (take i xs) ++ make i x ∷ []
  picked_more xs i x less is t = next xs i x true less is t

  pub picked_passed : (xs : List A) (i : ℕ) (x : A) → i < length xs → x ≡ get_or xs i x → test x ≡ false
      → picked test make 0 (take (i + 1) xs) ≡ picked test make 0 (take i xs)
  picked_passed xs i x less is t = next xs i x false less is t ∙ append-nil (picked test make 0 (take i xs))

  -- an element that passes is picked
  pub picked_has : (n : ℕ) (xs : List A) (i : ℕ) (d : A) → i < length xs → test (get_or xs i d) ≡ true
      → Has (picked test make n xs) (make (n + i) (get_or xs i d))
  picked_has n [] i d less t = absurd (omega arith)
  picked_has n (x ∷ xs) zero d less t = by_test (test x) t
    where
      by_test : (b : Bool) → b ≡ true
          → Has (cond b (make n x ∷ picked test make (n + 1) xs) (picked test make (n + 1) xs)) (make (n + zero) x)
      by_test true h = inl (ap (λ m. make m x) (omega arith))
      by_test false h = absurd cc
  picked_has n (x ∷ xs) (suc i) d less t = by_test (test x) (picked_has (n + 1) xs i d (omega arith) t)
    where
      same : (n + 1) + i ≡ n + suc i
      same = omega arith

      by_test : (b : Bool) → Has (picked test make (n + 1) xs) (make ((n + 1) + i) (get_or xs i d))
          → Has (cond b (make n x ∷ picked test make (n + 1) xs) (picked test make (n + 1) xs)) (make (n + suc i) (get_or xs i d))
      by_test true h = inr (subst (λ m. Has (picked test make (n + 1) xs) (make m (get_or xs i d))) same h)
      by_test false h = subst (λ m. Has (picked test make (n + 1) xs) (make m (get_or xs i d))) same h

  -- and what is picked is of an element
  pub record IsPicked (n : ℕ) (xs : List A) (b : B) : Type 0 where
    pub index : ℕ
    pub inside : index < length xs
    pub is : (d : A) → make (n + index) (get_or xs index d) ≡ b

  pub picked_of : (n : ℕ) (xs : List A) (b : B) → Has (picked test make n xs) b → IsPicked n xs b
  picked_of n [] b m = absurd m
  picked_of n (x ∷ xs) b m = by_test (test x) m (λ h. picked_of (n + 1) xs b h)
    where
      later : IsPicked (n + 1) xs b → IsPicked n (x ∷ xs) b
      later h = let same : (n + 1) + h.index ≡ n + suc h.index = omega arith in record {
        index = suc h.index;
        inside = omega (arith, h.inside);
        is = λ d. ap (λ m. make m (get_or xs h.index d)) (sym same) ∙ h.is d;
      }

      by_test : (t : Bool) → Has (cond t (make n x ∷ picked test make (n + 1) xs) (picked test make (n + 1) xs)) b
          → (Has (picked test make (n + 1) xs) b → IsPicked (n + 1) xs b) → IsPicked n (x ∷ xs) b
      by_test true (inl same) further = record { index = zero; inside = omega arith; is = λ d. ap (λ m. make m x) (omega arith) ∙ same }
      by_test true (inr h) further = later (further h)
      by_test false h further = later (further h)

  -- what holds of all that is made of elements that pass
  pub picked_all : (P : B → Type 0) → ((m : ℕ) (x : A) → test x ≡ true → P (make m x)) → (n : ℕ) (xs : List A) (b : B)
      → Has (picked test make n xs) b → P b
  picked_all P f n [] b m = absurd m
  picked_all P f n (x ∷ xs) b m = by_test (test x) (f n x) m (λ h. picked_all P f (n + 1) xs b h)
    where
      by_test : (t : Bool) → (t ≡ true → P (make n x))
          → Has (cond t (make n x ∷ picked test make (n + 1) xs) (picked test make (n + 1) xs)) b
          → (Has (picked test make (n + 1) xs) b → P b) → P b
      by_test true here (inl same) further = subst P same (here refl)
      by_test true here (inr h) further = further h
      by_test false here h further = further h
