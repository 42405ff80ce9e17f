-- A text of which a part is put, step by step, in a loop.
use Rattle.std.proofs.Common.{◌≡◌, ℕ, List, [], ◌++◌, Option, true, refl, ap, sym, ◌∙◌, subst, append_assoc, append-nil}
use Rattle.std.specs.Prelude.{is_none}
use Rattle.byte_io.specs.Buffered.{Buffered}
use Rattle.byte_io.proofs.BufferedLemmas.{Buffered-dropped, Buffered-nothing, Buffered-then}

-- of the whole text all was put but the rest
pub record Begun {S : Type 0} (written : S → Option (List ℕ)) (failures : S → ℕ)
    (old : S) (before : Option (List ℕ)) (new : S) (after : Option (List ℕ)) (rest whole : List ℕ) : Type 0 where
  pub begun : (done : List ℕ) × Buffered written failures old before new after done × (done ++ rest ≡ whole)

module _ {S : Type 0} {written : S → Option (List ℕ)} {failures : S → ℕ} where
  pub Begun-nothing : (a : S) (h : Option (List ℕ)) (whole : List ℕ) → Begun written failures a h a h whole whole
  Begun-nothing a h whole = record { begun = ([], Buffered-nothing a h, refl) }

  -- a further part is put
  pub Begun-then : {a b c : S} {h k m : Option (List ℕ)} {rest whole part : List ℕ} (left : List ℕ)
      → Begun written failures a h b k rest whole → Buffered written failures b k c m part → rest ≡ part ++ left
      → Begun written failures a h c m left whole
  Begun-then {part = part} left p q e =
      let (done, put, all) = p.begun in
      record { begun = (done ++ part, Buffered-then put q, append_assoc done part left ∙ ap (λ l. done ++ l) (sym e) ∙ all) }

  -- nothing is left
  pub Begun-all : {a b : S} {h k : Option (List ℕ)} {rest whole : List ℕ} → Begun written failures a h b k rest whole → rest ≡ []
      → Buffered written failures a h b k whole
  Begun-all {a = a} {b = b} {h = h} {k = k} p none =
      let (done, put, all) = p.begun in
      subst (Buffered written failures a h b k) (sym (append-nil done) ∙ ap (λ l. done ++ l) (sym none) ∙ all) put

  -- the device has failed: the rest needn't be put
  pub Begun-failed : {a b : S} {h k : Option (List ℕ)} {rest whole : List ℕ} → Begun written failures a h b k rest whole → is_none k ≡ true
      → Buffered written failures a h b k whole
  Begun-failed {a = a} {b = b} {h = h} {k = k} {rest = rest} p failed =
      let (done, put, all) = p.begun in
      subst (Buffered written failures a h b k) all (Buffered-dropped rest failed put)
