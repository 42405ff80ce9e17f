-- Footprints that records touch.
use Rattle.std.proofs.Common.{◌≡◌, inl, inr, Bool, true, false, ◌||◌, ◌&&◌, List, [], ◌∷◌, refl, ap, ◌∙◌}
use Rattle.std.specs.Cmp.{eq_by_cmp_equiv}
use Rattle.std.specs.FinSet.{contains-items, items}
use Rattle.std.specs.List.{list_any}
use Rattle.std.specs.Ordering.{eq_by_cmp}
use Rattle.std.proofs.lemmas.Bool.{and_from, and_parts, or_left, or_right}
use Rattle.lay_point.proofs.Members.{Has}
use Rattle.txn_commands.specs.declared.element.Element.{Element}
use Rattle.txn_commands.specs.Elements.{Touched, element_cmp, elements_total}
use Rattle.txn_commands.specs.Meets.{some_meets}
use Rattle.txn_commands.specs.Records.{Records}
use Rattle.undo_rules.specs.Links.{Entry}
use Rattle.txn_commands.specs.Meets.{meets_touched}
use Rattle.undo_rules.proofs.Grounds.{apart}
use Rattle.undo_laws.specs.Refusing.{IsReader, IsTouched}

any_some : (test : Element → Bool) (es : List Element) → list_any test es ≡ true → (e : Element) × Has es e × (test e ≡ true)
any_some test [] h = absurd cc
any_some test (e ∷ es) h = by (test e) refl h (any_some test es) where
  by : (b : Bool) → test e ≡ b → (b || list_any test es) ≡ true → (list_any test es ≡ true → (f : Element) × Has es f × (test f ≡ true))
      → (f : Element) × Has (e ∷ es) f × (test f ≡ true)
  by true is h more = (e, inl refl, is)
  by false is h more = let r = more h in (r.0, inr r.1, r.2)

has_among : (es : List Element) (e : Element) → Has es e → list_any (eq_by_cmp element_cmp e) es ≡ true
has_among [] e m = absurd m
has_among (x ∷ es) e (inl same) =
    or_left (eq_by_cmp element_cmp e x) (list_any (eq_by_cmp element_cmp e) es)
    (ap (eq_by_cmp element_cmp e) same ∙ (eq_by_cmp_equiv elements_total).refl e)
has_among (x ∷ es) e (inr m) =
    or_right (eq_by_cmp element_cmp e x) (list_any (eq_by_cmp element_cmp e) es) (has_among es e m)

pub touched_is : (writes : Records) (touched : Touched) → meets_touched writes touched ≡ true → IsTouched writes touched
touched_is writes touched h =
    let r = any_some (some_meets writes) (items touched) h in
    record { element = r.0; there = contains-items touched r.0 ∙ has_among (items touched) r.0 r.1; met = r.2 }

pub touched_so : (writes : Records) (touched : Touched) → IsTouched writes touched → meets_touched writes touched ≡ true
touched_so writes touched is = by (meets_touched writes touched) refl where
  by : (b : Bool) → meets_touched writes touched ≡ b → b ≡ true
  by true h = refl
  by false h =
      let none : some_meets writes is.element ≡ false = apart writes touched h is.element is.there in
      let some : some_meets writes is.element ≡ true = is.met in
      absurd (cc (none, some))

-- ---- readers

abbrev pub reads : Records → Entry → Bool
reads writes entry = entry.live && meets_touched writes entry.footprint

pub reads_is : (writes : Records) (entry : Entry) → reads writes entry ≡ true → IsReader writes entry
reads_is writes entry h =
    let both = and_parts entry.live (meets_touched writes entry.footprint) h in (both.0, touched_is writes entry.footprint both.1)

pub reads_so : (writes : Records) (entry : Entry) → IsReader writes entry → reads writes entry ≡ true
reads_so writes entry is =
    and_from entry.live (meets_touched writes entry.footprint) is.0 (touched_so writes entry.footprint is.1)
