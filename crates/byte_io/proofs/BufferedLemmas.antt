-- What is put through a buffer, piece by piece.
use Rattle.std.proofs.Common.{◌≡◌, ℕ, ◌+◌, List, [], ◌++◌, Option, None, Some, true, refl, ap, sym, ◌∙◌, subst, append_assoc, append-nil}
use Rattle.std.specs.Prelude.{is_none}
use Rattle.std.proofs.KnownBytes.{Appends-nil, Appends-trans}
use Rattle.byte_io.specs.Buffered.{Buffered, HasPut}
use Rattle.byte_io.specs.Device.{WroteAll, WrotePrefix}

-- all of one text, then all of another
pub WroteAll-then : {S : Type 0} {written : S → Option (List ℕ)} {failures : S → ℕ} {a b c : S} {xs ys : List ℕ}
    → WroteAll written failures a b xs → WroteAll written failures b c ys → WroteAll written failures a c (xs ++ ys)
WroteAll-then p q = record { all = Appends-trans _ _ _ _ _ p.all q.all; unfailing = q.unfailing ∙ p.unfailing }

-- all of one text, then a prefix of another
pub WrotePrefix-behind : {S : Type 0} {written : S → Option (List ℕ)} {failures : S → ℕ} {a b c : S} {xs ys : List ℕ}
    → WroteAll written failures a b xs → WrotePrefix written failures b c ys → WrotePrefix written failures a c (xs ++ ys)
WrotePrefix-behind {xs = xs} p q =
    let (start, rest, whole, appended) = q.begun in
    record {
      begun = (xs ++ start, rest, append_assoc xs start rest ∙ ap (λ l. xs ++ l) whole, Appends-trans _ _ _ _ _ p.all appended);
      failed = q.failed ∙ ap (λ n. n + 1) p.unfailing;
    }

-- a prefix of a text is one of a longer text
pub WrotePrefix-more : {S : Type 0} {written : S → Option (List ℕ)} {failures : S → ℕ} {a b : S} {xs : List ℕ} (ys : List ℕ)
    → WrotePrefix written failures a b xs → WrotePrefix written failures a b (xs ++ ys)
WrotePrefix-more ys p =
    let (start, rest, whole, appended) = p.begun in
    record {
      begun = (start, rest ++ ys, sym (append_assoc start rest ys) ∙ ap (λ l. l ++ ys) whole, appended);
      failed = p.failed;
    }

module _ {S : Type 0} (written : S → Option (List ℕ)) (failures : S → ℕ) where
  HasPut-nothing : (a : S) (h : Option (List ℕ)) → HasPut written failures a h a h []
  HasPut-nothing a (Some h) = ([], record { all = Appends-nil (written a); unfailing = refl }, sym (append-nil h))
  HasPut-nothing a None = (refl, refl)

  -- what the device took in two turns, and what is then held back
  joined : (s t h k m xs ys : List ℕ) → s ++ k ≡ h ++ xs → t ++ m ≡ k ++ ys → (s ++ t) ++ m ≡ h ++ (xs ++ ys)
  joined s t h k m xs ys first second =
      append_assoc s t m ∙ ap (λ l. s ++ l) second ∙ sym (append_assoc s k ys) ∙ ap (λ l. l ++ ys) first ∙ append_assoc h xs ys

  HasPut-then : (a b c : S) (h k m : Option (List ℕ)) (xs ys : List ℕ) → HasPut written failures a h b k xs
      → HasPut written failures b k c m ys → HasPut written failures a h c m (xs ++ ys)
  HasPut-then a b c (Some h) (Some k) (Some m) xs ys p q =
      let (s, first, here) = p in
      let (t, second, there) = q in
      (s ++ t, WroteAll-then first second, joined s t h k m xs ys here there)
  HasPut-then a b c (Some h) (Some k) None xs ys p q =
      let (s, first, here) = p in
      let whole : s ++ (k ++ ys) ≡ h ++ (xs ++ ys) = sym (append_assoc s k ys) ∙ ap (λ l. l ++ ys) here ∙ append_assoc h xs ys in
      subst (WrotePrefix written failures a c) whole (WrotePrefix-behind first q)
  HasPut-then a b c (Some h) None (Some m) xs ys p q = absurd (let e = q.1 in cc)
  HasPut-then a b c (Some h) None None xs ys p q =
      subst (WrotePrefix written failures a c) (append_assoc h xs ys)
      (WrotePrefix-more ys (subst (λ device. WrotePrefix written failures a device (h ++ xs)) (sym q.0) p))
  HasPut-then a b c None (Some k) m xs ys p q = absurd (let e = p.1 in cc)
  HasPut-then a b c None None m xs ys p q = (q.0 ∙ p.0, q.1)

  HasPut-dropped : (a b : S) (h k : Option (List ℕ)) (xs ys : List ℕ) → is_none k ≡ true → HasPut written failures a h b k xs
      → HasPut written failures a h b k (xs ++ ys)
  HasPut-dropped a b (Some h) (Some k) xs ys failed p = absurd (let e = failed in cc)
  HasPut-dropped a b (Some h) None xs ys failed p = subst (WrotePrefix written failures a b) (append_assoc h xs ys) (WrotePrefix-more ys p)
  HasPut-dropped a b None k xs ys failed p = p

  HasPut-written : (a b : S) (xs : List ℕ) → HasPut written failures a (Some []) b (Some []) xs → WroteAll written failures a b xs
  HasPut-written a b xs p = let (s, first, whole) = p in subst (WroteAll written failures a b) (sym (append-nil s) ∙ whole) first

-- nothing is put
pub Buffered-nothing : {S : Type 0} {written : S → Option (List ℕ)} {failures : S → ℕ} (a : S) (h : Option (List ℕ))
    → Buffered written failures a h a h []
Buffered-nothing {written = written} {failures = failures} a h = record { put = HasPut-nothing written failures a h }

-- one text is put, then another
pub Buffered-then : {S : Type 0} {written : S → Option (List ℕ)} {failures : S → ℕ} {a b c : S} {h k m : Option (List ℕ)} {xs ys : List ℕ}
    → Buffered written failures a h b k xs → Buffered written failures b k c m ys → Buffered written failures a h c m (xs ++ ys)
Buffered-then {written = written} {failures = failures} p q =
    record { put = HasPut-then written failures _ _ _ _ _ _ _ _ p.put q.put }

-- what is put once the device has failed is dropped
pub Buffered-dropped : {S : Type 0} {written : S → Option (List ℕ)} {failures : S → ℕ} {a b : S} {h k : Option (List ℕ)} {xs : List ℕ}
    (ys : List ℕ) → is_none k ≡ true → Buffered written failures a h b k xs → Buffered written failures a h b k (xs ++ ys)
Buffered-dropped {written = written} {failures = failures} ys failed p =
    record { put = HasPut-dropped written failures _ _ _ _ _ ys failed p.put }

-- where nothing is held back, before and after, all was written
pub Buffered-written : {S : Type 0} {written : S → Option (List ℕ)} {failures : S → ℕ} {a b : S} {xs : List ℕ}
    → Buffered written failures a (Some []) b (Some []) xs → WroteAll written failures a b xs
Buffered-written {written = written} {failures = failures} p = HasPut-written written failures _ _ _ p.put

-- where nothing was held back and the device failed, a prefix was written
pub Buffered-failed : {S : Type 0} {written : S → Option (List ℕ)} {failures : S → ℕ} {a b : S} {xs : List ℕ}
    → Buffered written failures a (Some []) b None xs → WrotePrefix written failures a b xs
Buffered-failed p = p.put

-- a text that is put, written otherwise
pub Buffered-is : {S : Type 0} {written : S → Option (List ℕ)} {failures : S → ℕ} {a b : S} {h k : Option (List ℕ)} {xs ys : List ℕ}
    → Buffered written failures a h b k xs → xs ≡ ys → Buffered written failures a h b k ys
Buffered-is {written = written} {failures = failures} {a = a} {b = b} {h = h} {k = k} p e = subst (Buffered written failures a h b k) e p
