-- The workers' labels, written into one list, are those of all edges.
use Rattle.std.proofs.Common.{◌≡◌, ◌≢◌, ◌⊎◌, inl, inr, ℕ, zero, suc, ◌+◌, ◌-◌, ◌<◌, Bool, true, false, List, [], ◌∷◌, ◌++◌}
use Rattle.std.proofs.Common.{rules, length, get_or, replicate, Ok, Err, Contains, refl, sym, ap, subst, ◌∙◌, arith}
use Rattle.std.specs.Prelude.{ℤ, pos, IfOk, Result, int_le, int_lt, slice_set}
use Rattle.std.specs.Global.{Vec}
use Rattle.std.specs.List.{AllByRecursion}
use Rattle.std.proofs.lemmas.Int.{ints}
use Rattle.std.proofs.lemmas.List.{ext_get_or, get_or-map, get_or-set_other, get_or-set_same, length-map, length-replicate, length-set}
use Rattle.std.proofs.lemmas.Slice.Zip.{length-zip}
use Rattle.std.proofs.lemmas.Bool.{and_parts}
use Rattle.std.proofs.lemmas.List.Elements.{recursion_from_All}
use Rattle.lay_point.specs.declared.memory.NoMemory.{NoMemory}
use Rattle.lay_point.specs.declared.point.Point.{Point}
use Rattle.lay_point.proofs.Members.{Has, contains, has-append, has-append_left, has-append_right}
use Rattle.snap_chains.specs.Rounded.{Owned}
use Rattle.face_rows.specs.Labels.{Item, differs, owned_items}
use Rattle.face_rows.specs.declared.op.Op.{Op}
use Rattle.face_rows.specs.declared.band.Band.{Band}
use Rattle.face_rows.specs.Bands.{begins_in, labelled}
use Rattle.face_rows.specs.Rows.{upward}
use Rattle.face_rows.specs.Operations.{answer}
use Rattle.face_rows.proofs.PickedLemmas.{picked_has, picked_of}
use Rattle.lay_point.proofs.Tests.{le_true, lt_false, lt_true, true_le}
use Rattle.lay_point.proofs.ListLaws.{has_get, all_has}
use Rattle.face_rows.proofs.ItemLemmas.{zip_first}
use Rattle.band_workers.specs.Cuts.{IsLabelled, band_at, whole_band}
use Rattle.band_workers.specs.Written.{AreNumbersBelow, ArePartsBelow, Part, with_labels, with_parts}
use Rattle.band_workers.specs.Labels.{labels_of}

-- ---- joining

-- the labels so far with those of the parts behind them; or a part is out of memory
abbrev joined_onto : List (ℕ × Bool) → List Part → Result (List (ℕ × Bool)) NoMemory
joined_onto numbered [] = Ok numbered
joined_onto numbered (Ok labels ∷ parts) = joined_onto (numbered ++ labels.items) parts
joined_onto numbered (Err fault ∷ parts) = Err fault

with_both : (labels : List Bool) (ps qs : List (ℕ × Bool)) → with_labels labels (ps ++ qs) ≡ with_labels (with_labels labels ps) qs
with_both labels [] qs = refl
with_both labels (p ∷ ps) qs = with_both (slice_set labels p.0 p.1) ps qs

-- what is written part by part is what the joined labels give
abbrev IsWrittenJoined : List Bool → List (ℕ × Bool) → List Part → List Bool → Type 0
IsWrittenJoined first before parts labels =
    (all : List (ℕ × Bool)) × (joined_onto before parts ≡ Ok all) × (with_labels first all ≡ labels)

written_joined : (first : List Bool) (before : List (ℕ × Bool)) (parts : List Part) (labels : List Bool)
    → with_parts (with_labels first before) parts ≡ Ok labels → IsWrittenJoined first before parts labels
written_joined first before [] labels is = let same : with_labels first before ≡ labels = search rules in (before, refl, same)
written_joined first before (Err fault ∷ parts) labels is = absurd cc
written_joined first before (Ok part ∷ parts) labels is =
    written_joined first (before ++ part.items) parts labels
    (subst (λ l. with_parts l parts ≡ Ok labels) (sym (with_both first before part.items)) is)

-- all labels of this part are among the joined ones
abbrev AllAmong : List (ℕ × Bool) → Part → Type 0
AllAmong all part = (labels : Vec (ℕ × Bool)) × (part ≡ Ok labels) × ((p : ℕ × Bool) → Has labels.items p → Has all p)

-- a joined label is one of those before, or of some part
abbrev IsFrom : List (ℕ × Bool) → List Part → ℕ × Bool → Type 0
IsFrom before parts p = Has before p
    ⊎ ((i : ℕ) × (labels : Vec (ℕ × Bool)) × (i < length parts) × (((d : Part) → get_or parts i d ≡ Ok labels) × Has labels.items p))

record IsJoin (before : List (ℕ × Bool)) (parts : List Part) (all : List (ℕ × Bool)) : Type 0 where
  kept : (p : ℕ × Bool) → Has before p → Has all p
  each : (i : ℕ) (d : Part) → i < length parts → AllAmong all (get_or parts i d)
  from : (p : ℕ × Bool) → Has all p → IsFrom before parts p

is_join : (before : List (ℕ × Bool)) (parts : List Part) (all : List (ℕ × Bool)) → joined_onto before parts ≡ Ok all → IsJoin before parts
    all
is_join before [] all is = let same : before ≡ all = search rules in record {
  kept = λ p m. subst (λ l. Has l p) same m;
  each = λ i d less. absurd (omega arith);
  from = λ p m. inl (subst (λ l. Has l p) (sym same) m);
}
is_join before (Err fault ∷ parts) all is = absurd cc
is_join before (Ok labels ∷ parts) all is =
    let h = is_join (before ++ labels.items) parts all is in record {
      kept = λ p m. h.kept p (has-append_left before labels.items p m);
      each = each h;
      from = λ p m. elim (h.from p m) [
        | inl there ↦ elim (has-append before labels.items p there) [
          | inl first ↦ inl first
          | inr second ↦ inr (zero, labels, omega arith, ((λ d. refl), second))
        ]
        | inr later ↦ inr (suc later.0, later.1, omega (arith, later.2), later.3)
      ];
    }
  where
    each : IsJoin (before ++ labels.items) parts all → (i : ℕ) (d : Part) → i < length (Ok labels ∷ parts)
        → AllAmong all (get_or (Ok labels ∷ parts) i d)
    each h zero d less = (labels, refl, λ p m. h.kept p (has-append_right before labels.items p m))
    each h (suc i) d less = h.each i d (omega arith)

-- ---- putting in order

-- the label is that of its number
record IsRight (wanted : List Bool) (p : ℕ × Bool) : Type 0 where
  within : p.0 < length wanted
  is : get_or wanted p.0 false ≡ p.1

-- some label has this number
abbrev Numbered : ℕ → List (ℕ × Bool) → Type 0
Numbered n [] = ⊥
Numbered n (p ∷ ps) = (p.0 ≡ n) ⊎ Numbered n ps

has_number : (ps : List (ℕ × Bool)) (n : ℕ) (b : Bool) → Has ps (n, b) → Numbered n ps
has_number [] n b m = absurd m
has_number (p ∷ ps) n b (inl e) = inl (ap (λ (q : ℕ × Bool). q.0) e)
has_number (p ∷ ps) n b (inr m) = inr (has_number ps n b m)

put_right : (wanted labels : List Bool) (ps : List (ℕ × Bool)) → length labels ≡ length wanted → AllByRecursion (IsRight wanted) ps
    → ((n : ℕ) → n < length wanted → (get_or labels n false ≡ get_or wanted n false) ⊎ Numbered n ps) → with_labels labels ps ≡ wanted
put_right wanted labels [] len right some =
    ext_get_or false labels wanted len (λ n less. elim (some n (omega (arith, len))) [ inl e ↦ e | inr none ↦ absurd none ])
put_right wanted labels (p ∷ ps) len right some =
    put_right wanted (slice_set labels p.0 p.1) ps (length-set labels p.0 p.1 ∙ len) right.1 (λ n less. elim (some n less) [
      | inl e ↦ by_number n (nat_same n p.0) (inl e)
      | inr there ↦ elim there [ inl is ↦ inl (here n (sym is)) | inr later ↦ inr later ]
    ])
  where
    nat_same : (n m : ℕ) → (n ≡ m) ⊎ (n ≢ m)
    nat_same n m = search rules

    here : (n : ℕ) → n ≡ p.0 → get_or (slice_set labels p.0 p.1) n false ≡ get_or wanted n false
    here n e = ap (λ m. get_or (slice_set labels p.0 p.1) m false) e
        ∙ get_or-set_same labels p.0 p.1 false (omega (arith, right.0.within, len)) ∙ sym right.0.is
        ∙ ap (λ m. get_or wanted m false) (sym e)

    by_number : (n : ℕ) → (n ≡ p.0) ⊎ (n ≢ p.0) → (get_or labels n false ≡ get_or wanted n false) ⊎ Numbered n ps
        → (get_or (slice_set labels p.0 p.1) n false ≡ get_or wanted n false) ⊎ Numbered n ps
    by_number n (inl e) was = inl (here n e)
    by_number n (inr other) (inl e) = inl (get_or-set_other labels p.0 n p.1 false other ∙ e)
    by_number n (inr other) (inr later) = inr later

-- ---- cuts

-- what is from the first cut on and before the cut k is in a band before that
abbrev IsBetween : List ℤ → ℕ → ℤ → Type 0
IsBetween cuts k y = (i : ℕ) × (i < k) × (int_le (get_or cuts i (pos 0)) y ≡ true) × (int_lt y (get_or cuts (i + 1) (pos 0)) ≡ true)

between : (cuts : List ℤ) (y : ℤ) (k : ℕ) → int_le (get_or cuts 0 (pos 0)) y ≡ true → int_lt y (get_or cuts k (pos 0)) ≡ true
    → IsBetween cuts k y
between cuts y zero low high =
    absurd (omega (arith, ints, le_true (get_or cuts 0 (pos 0)) y low, lt_true y (get_or cuts 0 (pos 0)) high))
between cuts y (suc k) low high = by_test (int_lt y (get_or cuts k (pos 0))) refl (between cuts y k low)
  where
    by_test : (b : Bool) → int_lt y (get_or cuts k (pos 0)) ≡ b
        → (int_lt y (get_or cuts k (pos 0)) ≡ true → IsBetween cuts k y) → IsBetween cuts (suc k) y
    by_test true before earlier = let h = earlier before in (h.0, omega (arith, h.1), h.2, h.3)
    by_test false not_before earlier =
        let next : suc k ≡ k + 1 = omega arith in (
          k,
          omega arith,
          true_le (get_or cuts k (pos 0)) y (lt_false y (get_or cuts k (pos 0)) not_before),
          subst (λ m. int_lt y (get_or cuts m (pos 0)) ≡ true) next high,
        )

-- ---- all together

of_ok : (op : Op) (r : Owned) (band : Band) (part : Part) (labels : Vec (ℕ × Bool)) → part ≡ Ok labels → IsLabelled op r band part
    → labels.items ≡ labelled op r band
of_ok op r band part labels is h = subst (IsLabelled op r band) is h

-- the parts of bands into which the rows of all edges were cut
pub record AreParts (op : Op) (r : Owned) (cuts : List ℤ) (parts : List Part) : Type 0 where
  pub paired : length r.1 ≡ length r.0
  pub count : length parts + 1 ≡ length cuts
  pub each : (i : ℕ) (d : Part) → i < length parts → IsLabelled op r (band_at cuts i) (get_or parts i d)
  pub whole : (e : Point × Point) → Contains r.0 e → begins_in (whole_band cuts) e ≡ true

module _ (op : Op) (r : Owned) (cuts : List ℤ) (parts : List Part) (h : AreParts op r cuts parts) where
  abbrev wanted : List Bool
  wanted = labels_of op r

  abbrev no_item : Item
  no_item = ((record { x = pos 0; y = pos 0 }, record { x = pos 0; y = pos 0 }), [])

  abbrev no_part : Part
  no_part = Err (record {})

  abbrev label : Item → Bool
  label = differs (answer op) (owned_items r)

  len_items : length (owned_items r) ≡ length r.0
  len_items = let m = length-zip r.0 r.1 in omega (arith, m, h.paired)

  len_wanted : length wanted ≡ length r.0
  len_wanted = length-map (owned_items r) label ∙ len_items

  right_of : (band : Band) (labels : List (ℕ × Bool)) → labels ≡ labelled op r band → (p : ℕ × Bool) → Has labels p → IsRight wanted p
  right_of band labels items p m =
      let q = picked_of (λ p. begins_in band p.0) (λ n p. (n, label p)) 0 (owned_items r) p (subst (λ l. Has l p) items m) in
      let is = q.is no_item in
      let plain : 0 + q.index ≡ q.index = omega arith in
      let at : q.index ≡ p.0 = sym plain ∙ ap (λ (z : ℕ × Bool). z.0) is in
      record {
        within = omega (arith, at, q.inside, len_wanted, len_items);
        is = ap (λ i. get_or wanted i false) (sym at) ∙ get_or-map label (owned_items r) q.index no_item false q.inside
            ∙ ap (λ (z : ℕ × Bool). z.1) is;
      }

  part_below : (band : Band) (part : Part) → IsLabelled op r band part → IfOk part (λ labels. AreNumbersBelow (length r.0) labels.items)
  part_below band (Err fault) is = tt
  part_below band (Ok labels) is =
      all_has (λ p. p.0 < length r.0) labels.items
      (λ p m. let w = (right_of band labels.items is p m).within in omega (arith, w, len_wanted))

  pub are_below : ArePartsBelow (length r.0) parts
  are_below = recursion_from_All (λ (part : Part). IfOk part (λ labels. AreNumbersBelow (length r.0) labels.items)) parts
      (λ i d less. part_below (band_at cuts i) (get_or parts i d) (h.each i d less))

  right : (all : List (ℕ × Bool)) → joined_onto [] parts ≡ Ok all → (p : ℕ × Bool) → Has all p → IsRight wanted p
  right all joined p m = elim ((is_join [] parts all joined).from p m) [
    | inl none ↦ absurd none
    | inr from ↦
        let labels = from.1 in
        right_of (band_at cuts from.0) labels.items
        (of_ok op r (band_at cuts from.0) (get_or parts from.0 no_part) labels (from.3.0 no_part) (h.each from.0 no_part from.2)) p from.3.1
  ]

  -- an edge in whose band's part its label is given
  in_part : (all : List (ℕ × Bool)) → joined_onto [] parts ≡ Ok all → (n i : ℕ) → n < length (owned_items r) → i < length parts
      → begins_in (band_at cuts i) (get_or (owned_items r) n no_item).0 ≡ true → Numbered n all
  in_part all joined n i inside less begins =
      let part = get_or parts i no_part in
      let among : AllAmong all part = (is_join [] parts all joined).each i no_part less in
      let items : among.0.items ≡ labelled op r (band_at cuts i) =
      of_ok op r (band_at cuts i) part among.0 among.1 (h.each i no_part less) in
      let b = label (get_or (owned_items r) n no_item) in
      let plain : 0 + n ≡ n = omega arith in
      let m : Has (labelled op r (band_at cuts i)) (n, b) = subst (λ k. Has (labelled op r (band_at cuts i)) (k, b)) plain
      (picked_has (λ p. begins_in (band_at cuts i) p.0) (λ n p. (n, label p)) 0 (owned_items r) n no_item inside begins) in
      let given : Has among.0.items (n, b) = subst (λ l. Has l (n, b)) (sym {A = List (ℕ × Bool)} items) m in
      has_number all n b (among.2 (n, b) given)

  -- a band in which the edge begins
  abbrev IsInBand : Point × Point → Type 0
  IsInBand e = (i : ℕ) × (i < length parts) × (begins_in (band_at cuts i) e ≡ true)

  in_band : (e : Point × Point) → begins_in (whole_band cuts) e ≡ true → IsInBand e
  in_band e whole =
      let both = and_parts (int_le (whole_band cuts).low (upward e).0.y) (int_lt (upward e).0.y (whole_band cuts).high) whole in
      let b = between cuts (upward e).0.y (length cuts - 1) both.0 both.1 in
      (b.0, omega (arith, b.1, h.count), rw (b.2, b.3) refl)

  some : (all : List (ℕ × Bool)) → joined_onto [] parts ≡ Ok all → (n : ℕ) → n < length wanted → Numbered n all
  some all joined n less =
      let inside : n < length (owned_items r) = omega (arith, less, len_wanted, len_items) in
      let item = get_or (owned_items r) n no_item in
      let given : Contains r.0 item.0 = contains r.0 item.0 (zip_first r.0 r.1 item (has_get (owned_items r) n no_item inside)) in
      let band = in_band item.0 (h.whole item.0 given) in
      in_part all joined n band.0 inside band.1 band.2

  pub written_is : (labels : List Bool) → with_parts (replicate (length r.0) false) parts ≡ Ok labels → labels ≡ labels_of op r
  written_is labels is =
      let j = written_joined (replicate (length r.0) false) [] parts labels is in
      sym j.2
      ∙ put_right wanted (replicate (length r.0) false) j.0 (length-replicate (length r.0) false ∙ sym len_wanted)
      (all_has (IsRight wanted) j.0 (right j.0 j.1)) (λ n less. inr (some j.0 j.1 n less))
