-- The parity of a ring's edges is the same wherever the ring begins, and whichever way it runs.
use Rattle.std.proofs.Common.{◌≡◌, Bool, List, [], ◌∷◌, ◌++◌, reverse, refl, sym, ap, ◌∙◌, append_assoc, append-nil, inl, inr, ℤ}
use Rattle.std.proofs.lemmas.List.{reverse-append}
use Rattle.lay_point.specs.declared.point.Point.{Point}
use Rattle.lay_point.specs.Parity.{is_crossed, is_crossed_rising, odd, parity, xor}
use Rattle.lay_point.specs.RingEdges.{pairs}
use Rattle.lay_point.specs.Rings.{closed}
use Rattle.lay_point.proofs.Parity.{parity-append, xor-false, xor_comm}
use Rattle.lay_point.proofs.BoolLaws.{or_comm}
use Rattle.cif_laws.specs.SameRings.{SameRingsHoldTheSamePlaces}

-- one more at the end
pairs-last : (ps : List Point) (p q : Point) → pairs (ps ++ p ∷ q ∷ []) ≡ pairs (ps ++ p ∷ []) ++ (p, q) ∷ []
pairs-last [] p q = refl
pairs-last (r ∷ []) p q = refl
pairs-last (r ∷ s ∷ ps) p q = ap (λ es. (r, s) ∷ es) (pairs-last (s ∷ ps) p q)

reverse-cons : (p : Point) (ps : List Point) → reverse (p ∷ ps) ≡ reverse ps ++ p ∷ []
reverse-cons p ps = reverse-append (p ∷ []) ps

module _ (test : Point × Point → Bool) where
  abbrev round : List Point → Bool
  round ps = parity test (pairs (closed ps))

  parity-last : (ps : List Point) (p q : Point)
      → parity test (pairs (ps ++ p ∷ q ∷ [])) ≡ xor (test (p, q)) (parity test (pairs (ps ++ p ∷ [])))
  parity-last ps p q =
      ap (parity test) (pairs-last ps p q) ∙ parity-append test (pairs (ps ++ p ∷ [])) ((p, q) ∷ [])
      ∙ ap (xor (parity test (pairs (ps ++ p ∷ [])))) (xor-false (test (p, q)))
      ∙ xor_comm (parity test (pairs (ps ++ p ∷ []))) (test (p, q))

  -- begun at the next point
  round-next : (p : Point) (ps : List Point) → round (p ∷ ps) ≡ round (ps ++ p ∷ [])
  round-next p [] = refl
  round-next p (q ∷ ps) =
      sym (ap (λ xs. parity test (pairs (q ∷ xs))) (append_assoc ps (p ∷ []) (q ∷ [])) ∙ parity-last (q ∷ ps) p q)

  round-turned : (ps qs : List Point) → round (ps ++ qs) ≡ round (qs ++ ps)
  round-turned [] qs = ap round (sym (append-nil qs))
  round-turned (p ∷ ps) qs =
      round-next p (ps ++ qs) ∙ ap round (append_assoc ps qs (p ∷ [])) ∙ round-turned ps (qs ++ p ∷ [])
      ∙ ap round (append_assoc qs (p ∷ []) ps)

  module _ (either : (p q : Point) → test (p, q) ≡ test (q, p)) where
    -- run the other way
    pairs-reverse : (p : Point) (ps : List Point) → parity test (pairs (reverse (p ∷ ps))) ≡ parity test (pairs (p ∷ ps))
    pairs-reverse p [] = refl
    pairs-reverse p (q ∷ ps) =
        ap (λ xs. parity test (pairs xs))
        (reverse-cons p (q ∷ ps) ∙ ap (λ xs. xs ++ p ∷ []) (reverse-cons q ps) ∙ append_assoc (reverse ps) (q ∷ []) (p ∷ []))
        ∙ parity-last (reverse ps) q p ∙ ap (λ xs. xor (test (q, p)) (parity test (pairs xs))) (sym (reverse-cons q ps))
        ∙ ap (xor (test (q, p))) (pairs-reverse q ps) ∙ ap (λ b. xor b (parity test (pairs (q ∷ ps)))) (either q p)

    round-reverse : (ps : List Point) → round (reverse ps) ≡ round ps
    round-reverse [] = refl
    round-reverse (p ∷ ps) =
        ap round (reverse-cons p ps) ∙ sym (round-next p (reverse ps))
        ∙ ap (λ xs. parity test (pairs xs)) (sym (reverse-append (p ∷ ps) (p ∷ []) ∙ ap (λ xs. p ∷ xs) (reverse-cons p ps)))
        ∙ pairs-reverse p (ps ++ p ∷ [])

either_end : (k x y : ℤ) (p q : Point) → is_crossed k x y (p, q) ≡ is_crossed k x y (q, p)
either_end k x y p q = or_comm (is_crossed_rising k x y p q) (is_crossed_rising k x y q p)

pub same_places : SameRingsHoldTheSamePlaces
unfolding odd
same_places ring other (inl turned) k x y =
    let test = is_crossed k x y in
    ap (round test) turned.3 ∙ round-turned test turned.1 turned.0 ∙ ap (round test) (sym turned.2)
same_places ring other (inr turned) k x y =
    let test = is_crossed k x y in
    ap (round test) turned.3 ∙ round-turned test turned.1 turned.0 ∙ ap (round test) (sym turned.2)
    ∙ round-reverse test (either_end k x y) ring
