-- The labels that are written.
use Rattle.std.proofs.Common.{◌≡◌, ℕ, zero, suc, ◌+◌, ◌<◌, Bool, true, false, cond, List, [], ◌∷◌}
use Rattle.std.proofs.Common.{length, get_or, map, set, refl, sym, ap, subst, ◌∙◌, arith}
use Rattle.std.specs.Prelude.{All, nat_eq}
use Rattle.std.specs.List.{zip}
use Rattle.std.proofs.lemmas.Bool.Decides.{Decides-eqb}
use Rattle.std.proofs.lemmas.List.{ext_get_or, get_or-map, get_or-set_other, get_or-set_same, get_or_default, length-map}
use Rattle.std.proofs.lemmas.Slice.Zip.{get_or-zip, length-zip}
use Rattle.lay_point.specs.declared.point.Point.{Point}
use Rattle.snap_chains.specs.declared.owner.Owner.{Owner}
use Rattle.snap_chains.specs.Rounded.{Owned}
use Rattle.face_rows.specs.Bands.{begins_in, labelled}
use Rattle.face_rows.specs.Labels.{Item, differs, owned_items}
use Rattle.face_rows.specs.Lines.{edge_at, nowhere, owned_item_at}
use Rattle.face_rows.specs.Operations.{answer}
use Rattle.face_rows.specs.Picked.{picked}
use Rattle.face_rows.specs.declared.band.Band.{Band}
use Rattle.face_rows.specs.declared.op.Op.{Op}
use Rattle.face_labels.specs.RowSides.{HasLabel}

-- ---- one label more
pub label_here : (op : Op) (r : Owned) (labels : List Bool) (n : ℕ) (label : Bool) → n < length labels
    → label ≡ differs (answer op) (owned_items r) (owned_item_at r n) → HasLabel op r (set labels n label) n
label_here op r labels n label less is = get_or-set_same labels n label false less ∙ is

pub label_kept : (op : Op) (r : Owned) (labels : List Bool) (n : ℕ) (label : Bool) (m : ℕ) → n < length labels
    → label ≡ differs (answer op) (owned_items r) (owned_item_at r n) → HasLabel op r labels m → HasLabel op r (set labels n label) m
label_kept op r labels n label m less is h = by_number (nat_eq n m) refl
  where
    by_number : (b : Bool) → nat_eq n m ≡ b → HasLabel op r (set labels n label) m
    by_number true t = subst (HasLabel op r (set labels n label)) ((Decides-eqb n m).0 t) (label_here op r labels n label less is)
    by_number false t =
        get_or-set_other labels n m label false (λ same. let t' = (Decides-eqb n m).1 (sym same) in absurd cc) ∙ h

-- ---- lists
pub all_found : (P : ℕ → Type 0) (xs : List ℕ) → ((k : ℕ) → k < length xs → P (get_or xs k 0)) → All P xs
all_found P xs so_far k d less = subst P (get_or_default xs k 0 d less) (so_far k less)

-- ---- the labels of the band
abbrev pub written_labels : Band → ℕ → List ((Point × Point) × Bool) → List (ℕ × Bool)
written_labels band n ps = picked (λ p. begins_in band p.0) (λ m p. (m, p.1)) n ps

abbrev own_labels : Band → (Item → Bool) → ℕ → List Item → List (ℕ × Bool)
own_labels band label n ps = picked (λ p. begins_in band p.0) (λ m p. (m, label p)) n ps

picked_labels : (band : Band) (label : Item → Bool) (n : ℕ) (es : List (Point × Point)) (ls : List Bool) (os : List (List Owner))
    → length ls ≡ length es → length os ≡ length es
    → ((i : ℕ) → i < length es → begins_in band (get_or es i nowhere) ≡ true → get_or ls i false
    ≡ label (get_or es i nowhere, get_or os i []))
    → written_labels band n (zip es ls) ≡ own_labels band label n (zip es os)
picked_labels band label n [] ls os labels owners is = refl
picked_labels band label n (e ∷ es) [] os labels owners is = absurd (omega arith)
picked_labels band label n (e ∷ es) (l ∷ ls) [] labels owners is = absurd (omega arith)
picked_labels band label n (e ∷ es) (l ∷ ls) (o ∷ os) labels owners is =
    by_test (begins_in band e) (is zero (omega arith))
    (picked_labels band label (n + 1) es ls os (omega arith) (omega arith) (λ i less. is (suc i) (omega arith)))
  where
    by_test : (b : Bool) → (b ≡ true → l ≡ label (e, o)) → written_labels band (n + 1) (zip es ls)
        ≡ own_labels band label (n + 1) (zip es os)
        → cond b ((n, l) ∷ written_labels band (n + 1) (zip es ls)) (written_labels band (n + 1) (zip es ls))
        ≡ cond b ((n, label (e, o)) ∷ own_labels band label (n + 1) (zip es os)) (own_labels band label (n + 1) (zip es os))
    by_test true first rest = λ i. (n, first refl i) ∷ rest i
    by_test false first rest = rest

pub labels_of_band : (op : Op) (r : Owned) (band : Band) (labels : List Bool) → length r.1 ≡ length r.0 → length labels ≡ length r.0
    → ((n : ℕ) → n < length r.0 → begins_in band (edge_at r n) ≡ true → HasLabel op r labels n)
    → written_labels band 0 (zip r.0 labels) ≡ labelled op r band
labels_of_band op r band labels paired count all =
    picked_labels band (differs (answer op) (owned_items r)) 0 r.0 labels r.1 count paired all

-- ---- the labels of all edges
pub labels_of_all : (op : Op) (r : Owned) (labels : List Bool) → length r.1 ≡ length r.0 → length labels ≡ length r.0
    → ((n : ℕ) → n < length r.0 → HasLabel op r labels n) → labels ≡ map (differs (answer op) (owned_items r)) (owned_items r)
labels_of_all op r labels paired count all =
    let label = differs (answer op) (owned_items r) in
    let items = length-zip r.0 r.1 in
    let same : length labels ≡ length (map label (owned_items r)) = omega (arith, items, paired, count, length-map (owned_items r) label) in
    ext_get_or false labels (map label (owned_items r)) same (λ n less.
    let inside : n < length r.0 = omega (arith, count) in
    let owned : n < length r.1 = omega (arith, paired) in
    let at = get_or-zip r.0 r.1 n (nowhere, []) inside owned in
    all n inside ∙ ap label (sym at)
    ∙ sym (get_or-map label (owned_items r) n (nowhere, []) false (omega (arith, items, paired))))
