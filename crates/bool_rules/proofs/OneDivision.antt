-- Rings have one list of parts: labels are determined, each by those before it.
use Rattle.std.proofs.Common.{◌≡◌, ℕ, zero, suc, ◌<◌, ◌≤◌, List, length, get_or, sym, ap, ◌∙◌, ⊎_elim, arith}
use Rattle.std.proofs.lemmas.Bool.{cases_lt}
use Rattle.std.proofs.lemmas.Grind.{same_number_lists}
use Rattle.std.proofs.lemmas.List.{same_lists}
use Rattle.lay_point.specs.declared.point.Point.{Point}
use Rattle.face_ring_laws.specs.Parts.{ArePartsBy, with_label}
use Rattle.bool_rules.specs.ShapeLaws.{PartsAreUnique}

-- rings with one label have one of any other labels
together : (rings : List (List Point)) (labels labels' : List ℕ) (parts parts' : List (List (List Point)))
    → ArePartsBy labels rings parts → ArePartsBy labels' rings parts' → (i j : ℕ) → i < length rings → j < length rings
    → get_or labels i 0 ≡ get_or labels j 0 → get_or labels' i 0 ≡ get_or labels' j 0
together rings labels labels' parts parts' h g i j li lj e = h.finest (λ k. get_or labels' k 0) g.joined i j li lj e

-- a label isn't greater than the other, where those before are the same
no_greater : (rings : List (List Point)) (labels labels' : List ℕ) (parts parts' : List (List (List Point)))
    → ArePartsBy labels rings parts → ArePartsBy labels' rings parts' → (i : ℕ) → i < length rings
    → ((j : ℕ) → j < i → get_or labels j 0 ≡ get_or labels' j 0) → get_or labels i 0 ≤ get_or labels' i 0
no_greater rings labels labels' parts parts' h g i li before =
    ⊎_elim
    (λ (less : get_or labels' i 0 < get_or labels i 0).
    let r = h.ordered i (get_or labels' i 0) li less in
    let lj : r.0 < length rings = omega (arith, r.1) in
    let other : get_or labels' r.0 0 ≡ get_or labels' i 0 = sym (before r.0 r.1) ∙ r.2 in
    let same = together rings labels' labels parts' parts g h r.0 i lj li other in
    omega (arith, r.2, same))
    (λ (le : get_or labels i 0 ≤ get_or labels' i 0). le)
    (cases_lt (get_or labels' i 0) (get_or labels i 0))

module _ (rings : List (List Point)) (labels labels' : List ℕ) (parts parts' : List (List (List Point)))
    (h : ArePartsBy labels rings parts) (g : ArePartsBy labels' rings parts') where
  same_before : (n i : ℕ) → i < n → i < length rings → get_or labels i 0 ≡ get_or labels' i 0
  same_before zero i lt li = absurd (omega arith)
  same_before (suc n) i lt li =
      let before : (j : ℕ) → j < i → get_or labels j 0 ≡ get_or labels' j 0 = λ j lj. same_before n j (omega arith) (omega arith) in
      let up = no_greater rings labels labels' parts parts' h g i li before in
      let down = no_greater rings labels' labels parts' parts g h i li (λ j lj. sym (before j lj)) in
      omega (arith, up, down)

  pub same_labels : labels ≡ labels'
  same_labels = same_number_lists labels labels' (h.each ∙ sym g.each) (λ k lt. same_before (suc k) k (omega arith) (omega (arith, h.each)))

no_fewer : (rings : List (List Point)) (labels labels' : List ℕ) (parts parts' : List (List (List Point)))
    → ArePartsBy labels rings parts → ArePartsBy labels' rings parts' → length parts ≤ length parts'
no_fewer rings labels labels' parts parts' h g =
    ⊎_elim
    (λ (less : length parts' < length parts).
    let r = h.used (length parts') less in
    let label = same_before rings labels labels' parts parts' h g (suc r.0) r.0 (omega arith) r.1 in
    let inside = g.within r.0 r.1 in
    absurd (omega (arith, r.2, label, inside)))
    (λ (le : length parts ≤ length parts'). le)
    (cases_lt (length parts') (length parts))

pub parts_are_unique : PartsAreUnique
parts_are_unique rings parts parts' (labels, h) (labels', g) =
    let few = no_fewer rings labels labels' parts parts' h g in
    let many = no_fewer rings labels' labels parts' parts g h in
    let same = same_labels rings labels labels' parts parts' h g in
    same_lists parts parts' (omega (arith, few, many)) (λ k d lt.
    h.rings_of_part k d lt ∙ ap (λ ls. with_label k ls rings) same ∙ sym (g.rings_of_part k d (omega (arith, few, many))))
