-- Who wrote and who touched an element: the transactions that are listed under it, and the one that made it.
use Rattle.std.proofs.Common.{
  ◌≡◌,
  ◌≢◌,
  ℕ,
  zero,
  suc,
  ◌<◌,
  ◌≤◌,
  ◌==◌,
  ◌⊎◌,
  inl,
  inr,
  Bool,
  true,
  false,
  not,
  cond,
  ◌||◌,
  ◌&&◌,
  List,
  [],
  ◌∷◌,
  map,
  length,
}
use Rattle.std.proofs.Common.{Option, None, Some, refl, sym, ap, subst, ◌∙◌, arith, slice_get}
use Rattle.std.proofs.lemmas.Bool.{eqb-true}
use Rattle.std.proofs.lemmas.Bool.Decides.{Decides-eqb}
use Rattle.std.specs.Prelude.{is_some, nat_lt}
use Rattle.std.specs.BTreeMap.{is_at}
use Rattle.std.specs.Cmp.{eq_by_cmp_equiv}
use Rattle.std.specs.FinMap.{find}
use Rattle.std.specs.FinSet.{contains, contains-from_list, from_list}
use Rattle.std.specs.List.{AllByRecursion, list_any}
use Rattle.std.specs.List.Sorted.{IsStrictlySortedBy}
use Rattle.std.specs.Map.{keys_of, lookup}
use Rattle.lay_layouts.specs.declared.id.ItemId.{ItemId}
use Rattle.lay_layouts.specs.declared.item.Item.{Item as Piece}
use Rattle.lay_layouts.specs.declared.slot.CellSlot.{CellSlot}
use Rattle.lay_layouts.specs.Ids.{id_cmp}
use Rattle.lay_layouts.specs.SameLayout.{id_eq, id_eq-Decides}
use Rattle.lay_items.proofs.RisingLemmas.{rising_sorted}
use Rattle.txn_commands.specs.declared.command.TxnId.{TxnId}
use Rattle.txn_commands.specs.declared.element.Element.{Element}
use Rattle.txn_commands.specs.declared.element.Element.TheVariants.{Calls, Cell, Content, Item, Layer, Uses}
use Rattle.txn_commands.specs.declared.record.CellRecord.{CellRecord}
use Rattle.txn_commands.specs.declared.record.Record.{Record}
use Rattle.txn_commands.specs.Changes.{Change}
use Rattle.txn_commands.specs.Elements.{Touched, element_cmp, element_eq, elements_total}
use Rattle.txn_commands.specs.Lies.{lies, lies_slot, passes}
use Rattle.txn_commands.specs.Meets.{meets, meets_cell, some_meets}
use Rattle.txn_commands.specs.Records.{AreProper, Records, applying, record_of, recorded_change}
use Rattle.txn_marks.proofs.ChangeLemmas.{change_there}
use Rattle.undo_rules.specs.Links.{Entry}
use Rattle.undo_index.specs.First.{IsFirst, has_place, lesser}
use Rattle.undo_index.specs.Listed.{Listed, element_id, is_listed, is_made_by}
use Rattle.undo_index.proofs.FirstLemmas.{first_alike, lesser_first}
use Rattle.undo_index.proofs.KeptLemmas.{made_of}
use Rattle.undo_book.specs.Indexed.{CanBeLookedUp, Lists, by_maker, by_other, wrote}
use Rattle.undo_book.specs.Places.{is_place, maker_of, name_cmp, place_of}
use Rattle.undo_book.proofs.MovedLemmas.{no_place, place_so}
use Rattle.undo_book.proofs.PlaceLemmas.{place_within}

-- ---- one of both

module _ (test : Element → Entry → Bool) where
  both : (t m : Bool) → ((t && not m) || (t && m)) ≡ t
  both true true = refl
  both true false = refl
  both false m = refl

  either : (e : Element) (o : Option Entry) → (passes (by_other test e) o || passes (by_maker test e) o) ≡ passes (test e) o
  either e None = refl
  either e (Some entry) = both (test e entry) (is_made_by entry.txn e)

  -- the first one is listed, or it is the maker
  pub first_of_both : (l : Listed) (es : List Entry) (e : Element) (from : ℕ) (a b : Option ℕ) → Lists test l es →
      IsFirst (is_listed l e) from a → IsFirst (λ p. passes (by_maker test e) (slice_get es p)) from b →
      IsFirst (λ p. passes (test e) (slice_get es p)) from (lesser a b)
  first_of_both l es e from a b lists listed maker =
      first_alike (λ p. is_listed l e p || passes (by_maker test e) (slice_get es p)) (λ p. passes (test e) (slice_get es p)) from
      (lesser a b) (λ p. ap (λ x. x || passes (by_maker test e) (slice_get es p)) (lists e p) ∙ either e (slice_get es p))
      (lesser_first (is_listed l e) (λ p. passes (by_maker test e) (slice_get es p)) from a b listed maker)

  regroup : (a l x y : Bool) → ((a || (l && x)) || (l && y)) ≡ (a || (l && (x || y)))
  regroup true l x y = refl
  regroup false true true y = refl
  regroup false true false y = refl
  regroup false false x y = refl

  -- those that are listed and the maker are all
  pub all_of_both : (l : Listed) (es : List Entry) (e : Element) (below : ℕ) (o : Option ℕ) (old mid new : List ℕ) → Lists test l es →
      ((p : ℕ) → is_place p o ≡ passes (by_maker test e) (slice_get es p)) →
      ((p : ℕ) → has_place mid p ≡ (has_place old p || (nat_lt p below && is_listed l e p))) →
      ((p : ℕ) → has_place new p ≡ (has_place mid p || (nat_lt p below && is_place p o))) →
      (p : ℕ) → has_place new p ≡ (has_place old p || (nat_lt p below && passes (test e) (slice_get es p)))
  all_of_both l es e below o old mid new lists maker listed pushed p =
      pushed p ∙ ap (λ b. b || (nat_lt p below && is_place p o)) (listed p)
      ∙ regroup (has_place old p) (nat_lt p below) (is_listed l e p) (is_place p o)
      ∙ ap (λ b. has_place old p || (nat_lt p below && b))
      ((λ i. lists e p i || maker p i) ∙ either e (slice_get es p))

-- ---- one place as the first one

module _ (t : ℕ → Bool) (from : ℕ) where
  pub no_first : ((p : ℕ) → is_place p None ≡ t p) → IsFirst t from None
  no_first is p less = sym (is p)

  apart : (p q : ℕ) → (p < q) ⊎ (q < p) → (p == q) ≡ false
  apart p q less = by (p == q) refl less where
    by : (b : Bool) → (p == q) ≡ b → (p < q) ⊎ (q < p) → b ≡ false
    by true same (inl low) = let equal : p ≡ q = eqb-true p q same in absurd (omega (arith, low, equal))
    by true same (inr high) = let equal : p ≡ q = eqb-true p q same in absurd (omega (arith, high, equal))
    by false same less = refl

  pub one_first : (q : ℕ) → from ≤ q → ((p : ℕ) → is_place p (Some q) ≡ t p) → IsFirst t from (Some q)
  one_first q less is = (less, sym (is q) ∙ (Decides-eqb q q).1 refl, λ p low high. sym (is p) ∙ apart p q (inl high))

  none_from : (q : ℕ) → q < from → ((p : ℕ) → is_place p (Some q) ≡ t p) → IsFirst t from None
  none_from q less is p more = sym (is p) ∙ apart p q (inr (omega (arith, less, more)))

-- ---- the maker

-- a place is the one that is found under the name in an id exactly where its transaction made the item
pub made_there : (places : List (TxnId × ℕ)) (es : List Entry) (id : ItemId) (o : Option ℕ) → CanBeLookedUp places es →
    o ≡ lookup (is_at (name_cmp (maker_of id))) places → (p : ℕ) →
    is_place p o ≡ passes (λ (entry : Entry). is_made_by entry.txn (Item id)) (slice_get es p)
made_there places es id o found is p = by (slice_get es p) refl where
  name : TxnId
  name = maker_of id

  placed : o ≡ place_of name es
  placed = is ∙ found.places name

  by : (x : Option Entry) → slice_get es p ≡ x → is_place p o ≡ passes (λ (entry : Entry). is_made_by entry.txn (Item id)) x
  by None at = ap (is_place p) placed ∙ no_place es p name at
  by (Some entry) at = ap (is_place p) placed ∙ place_so es p entry name found.named at

pub made_within : (places : List (TxnId × ℕ)) (es : List Entry) (id : ItemId) (q : ℕ) → CanBeLookedUp places es →
    Some q ≡ lookup (is_at (name_cmp (maker_of id))) places → q < length es
made_within places es id q found is =
    place_within es (maker_of id) q
    (sym (is ∙ found.places (maker_of id)))

module _ (test : Element → Entry → Bool) (es : List Entry) where
  abbrev pub Makes : Element → Option ℕ → Type 0
  Makes e o = (p : ℕ) → is_place p o ≡ passes (λ (entry : Entry). is_made_by entry.txn e) (slice_get es p)

  abbrev pub Passes : Element → Option ℕ → Type 0
  Passes e o = (p : ℕ) → is_place p o ≡ passes (by_maker test e) (slice_get es p)

  false_and : (b : Bool) → (b && false) ≡ false
  false_and true = refl
  false_and false = refl

  -- there is none
  none_passes : (e : Element) → Makes e None → Passes e None
  none_passes e makes p = by (slice_get es p) (makes p) where
    by : (x : Option Entry) → false ≡ passes (λ (entry : Entry). is_made_by entry.txn e) x → false ≡ passes (by_maker test e) x
    by None is = refl
    by (Some entry) is = sym (ap (λ b. test e entry && b) (sym is) ∙ false_and (test e entry))

  -- the one at its place passes, or it doesn't
  module _ (e : Element) (q : ℕ) (makes : Makes e (Some q)) where
    here : (b : Bool) → passes (test e) (slice_get es q) ≡ b → (x : Entry) (p : ℕ) → slice_get es p ≡ Some x → (p == q) ≡ true →
        test e x ≡ b
    here b is x p there same = sym (ap (passes (test e)) (sym (ap (slice_get es) (eqb-true p q same)) ∙ there)) ∙ is

    it_passes : passes (test e) (slice_get es q) ≡ true → Passes e (Some q)
    it_passes passing p = by (slice_get es p) refl (makes p) where
      by : (x : Option Entry) → slice_get es p ≡ x → (p == q) ≡ passes (λ (entry : Entry). is_made_by entry.txn e) x →
          (p == q) ≡ passes (by_maker test e) x
      by None there is = is
      by (Some x) there is = cases (p == q) refl where
        cases : (b : Bool) → (p == q) ≡ b → (p == q) ≡ (test e x && is_made_by x.txn e)
        cases true same = same ∙ sym (λ i. here true passing x p there same i && (sym is ∙ same) i)
        cases false apart = apart ∙ sym (ap (λ b. test e x && b) (sym is ∙ apart) ∙ false_and (test e x))

    it_fails : passes (test e) (slice_get es q) ≡ false → Passes e None
    it_fails failing p = by (slice_get es p) refl (makes p) where
      by : (x : Option Entry) → slice_get es p ≡ x → (p == q) ≡ passes (λ (entry : Entry). is_made_by entry.txn e) x →
          false ≡ passes (by_maker test e) x
      by None there is = refl
      by (Some x) there is = cases (p == q) refl where
        cases : (b : Bool) → (p == q) ≡ b → false ≡ (test e x && is_made_by x.txn e)
        cases true same = sym (ap (λ b. b && is_made_by x.txn e) (here false failing x p there same))
        cases false apart = sym (ap (λ b. test e x && b) (sym is ∙ apart) ∙ false_and (test e x))

  -- the one of the name in an id
  module _ (places : List (TxnId × ℕ)) (found : CanBeLookedUp places es) (e : Element) (id : ItemId) (is : element_id e ≡ Some id) where
    pub maker_missing : None ≡ lookup (is_at (name_cmp (maker_of id))) places → Passes e None
    maker_missing none = subst (λ x. Passes x None) (sym (made_of e id is))
        (none_passes (Item id) (made_there places es id None found none))

    module _ (q : ℕ) (at : Some q ≡ lookup (is_at (name_cmp (maker_of id))) places) where
      pub maker_passes : passes (test e) (slice_get es q) ≡ true → Passes e (Some q)
      maker_passes = subst (λ x. passes (test x) (slice_get es q) ≡ true → Passes x (Some q)) (sym (made_of e id is))
          (it_passes (Item id) q (made_there places es id (Some q) found at))

      pub maker_fails : passes (test e) (slice_get es q) ≡ false → Passes e None
      maker_fails = subst (λ x. passes (test x) (slice_get es q) ≡ false → Passes x None) (sym (made_of e id is))
          (it_fails (Item id) q (made_there places es id (Some q) found at))

      -- before a place it isn't the first from there on
      pub maker_before : (from : ℕ) → q < from → IsFirst (λ p. passes (by_maker test e) (slice_get es p)) from None
      maker_before from less = by (passes (test e) (slice_get es q)) refl where
        by : (b : Bool) → passes (test e) (slice_get es q) ≡ b → IsFirst (λ p. passes (by_maker test e) (slice_get es p)) from None
        by true passing = none_from (λ p. passes (by_maker test e) (slice_get es p)) from q less (maker_passes passing)
        by false failing = no_first (λ p. passes (by_maker test e) (slice_get es p)) from (maker_fails failing)

-- ---- what is under an id

sorted_by_ids : (es : List (ItemId × Change Piece)) → keys_of (applying (map record_of es)) ≡ keys_of es
sorted_by_ids [] = refl
sorted_by_ids (e ∷ es) = ap (λ ids. e.0 ∷ ids) (sorted_by_ids es)

pub ids_sorted : (es : List (ItemId × Change Piece)) (records : Records) → map record_of es ≡ records.items → AreProper records →
    IsStrictlySortedBy id_cmp (keys_of es)
ids_sorted es records are proper =
    subst (λ (ids : List ItemId). IsStrictlySortedBy id_cmp ids) (ap (λ ws. keys_of (applying ws)) (sym are) ∙ sorted_by_ids es)
    (rising_sorted (applying records.items) proper.items)

-- a record that differs meets the item of its id alone
meets_own : (id : ItemId) (w : Record) → w.before ≢ w.after → meets (Item id) w ≡ id_eq id w.id
meets_own id w differ = by w.before refl w.after refl where
  by : (a : Option Piece) → w.before ≡ a → (b : Option Piece) → w.after ≡ b →
      (passes (lies (Item id) w.id) a || passes (lies (Item id) w.id) b) ≡ id_eq id w.id
  by None one None other = absurd (differ (one ∙ sym other))
  by None one (Some b) other = refl
  by (Some a) one None other = or_false (id_eq id w.id) where
    or_false : (x : Bool) → (x || false) ≡ x
    or_false true = refl
    or_false false = refl
  by (Some a) one (Some b) other = or_same (id_eq id w.id) where
    or_same : (x : Bool) → (x || x) ≡ x
    or_same true = refl
    or_same false = refl

ids_turned : (a b : ItemId) → id_eq a b ≡ id_eq b a
ids_turned a b = by (id_eq a b) refl (id_eq b a) refl where
  by : (x : Bool) → id_eq a b ≡ x → (y : Bool) → id_eq b a ≡ y → x ≡ y
  by true one true other = refl
  by true one false other = sym ((id_eq-Decides b a).1 (sym ((id_eq-Decides a b).0 one))) ∙ other
  by false one true other = sym one ∙ (id_eq-Decides a b).1 (sym ((id_eq-Decides b a).0 other))
  by false one false other = refl

some_met : (ws : List Record) (id : ItemId) → AllByRecursion (λ w. w.before ≢ w.after) ws →
    is_some (recorded_change ws id) ≡ list_any (meets (Item id)) ws
some_met [] id differ = refl
some_met (w ∷ ws) id differ =
    by (id_eq w.id id) ∙ (λ i. (ids_turned w.id id ∙ sym (meets_own id w differ.0)) i || some_met ws id differ.1 i) where
      by : (b : Bool) → is_some (cond b (Some (record { before = w.before; after = w.after })) (recorded_change ws id))
          ≡ (b || is_some (recorded_change ws id))
      by true = refl
      by false = refl

no_symbol_met : (ws : List CellRecord) (id : ItemId) → list_any (meets_cell (Item id)) ws ≡ false
no_symbol_met [] id = refl
no_symbol_met (w ∷ ws) id = (λ i. (neither w.before i || neither w.after i) || no_symbol_met ws id i) where
  neither : (o : Option CellSlot) → passes (lies_slot (Item id) w.number) o ≡ false
  neither None = refl
  neither (Some slot) = refl

pub written_so : (es : List (ItemId × Change Piece)) (records : Records) (id : ItemId) → map record_of es ≡ records.items →
    AreProper records → is_some (find id_cmp id es) ≡ some_meets records (Item id)
written_so es records id are proper =
    ap is_some (looked_up es ∙ change_there es id ∙ ap (λ ws. recorded_change ws id) are)
    ∙ some_met records.items id proper.items_differ ∙ sym (or_false (list_any (meets (Item id)) records.items))
    ∙ ap (λ b. list_any (meets (Item id)) records.items || b) (sym (no_symbol_met records.symbols id)) where
      looked_up : (fs : List (ItemId × Change Piece)) → find id_cmp id fs ≡ lookup (is_at (id_cmp id)) fs
      looked_up [] = refl
      looked_up (f ∷ fs) = ap (cond (is_at (id_cmp id) f.0) (Some f.1)) (looked_up fs)

      or_false : (x : Bool) → (x || false) ≡ x
      or_false true = refl
      or_false false = refl

-- of an item that an element is
pub written_of : (e : Element) (id : ItemId) → element_id e ≡ Some id → (es : List Entry) (q : ℕ) →
    passes (wrote e) (slice_get es q) ≡ passes (wrote (Item id)) (slice_get es q)
written_of e id is es q = ap (λ x. passes (wrote x) (slice_get es q)) (made_of e id is)

-- an element of a set, looked for in a list of it from the side of the others
pub element_there : (es : List Element) (e : Element) (set : Touched) → from_list {R = element_cmp} es ≡ set →
    list_any (λ y. element_eq y e) es ≡ contains set e
element_there es e set are =
    (λ i. list_any (λ y. (eq_by_cmp_equiv elements_total).symm y e i) es) ∙ sym (contains-from_list elements_total es e)
    ∙ ap (λ (s : Touched). contains s e) are

-- each of a list's transactions has what all have
pub all_at : {X : Type 0} (P : X → Type 0) (xs : List X) (i : ℕ) (x : X) → AllByRecursion P xs → slice_get xs i ≡ Some x → P x
all_at P [] i x all at = absurd cc
all_at P (y ∷ ys) zero x all at = let same : y ≡ x = cc in subst P same all.0
all_at P (y ∷ ys) (suc i) x all at = all_at P ys i x all.1 at
