-- Transactions applied to a base in two ways: what they agree on.
use Rattle.std.proofs.Common.{◌≡◌, Bool, true, false, List, [], ◌∷◌, refl, sym}
use Rattle.lay_layouts.specs.Layout.{Layout}
use Rattle.txn_commands.specs.declared.element.Element.{Element}
use Rattle.txn_commands.specs.Agreement.{Agree}
use Rattle.txn_commands.specs.Meets.{some_meets}
use Rattle.txn_commands.proofs.Agreements.{agree-equal, agree-sym, agree-trans}
use Rattle.undo_rules.specs.Histories.{Laid}
use Rattle.undo_rules.specs.Links.{Trace}
use Rattle.txn_rules.proofs.Overlay.{agree_applied, unmet_agree}

-- as many marks as transactions, and the same for each that meets the element
abbrev pub SameMarks : Element → List Trace → List Bool → List Bool → Type 0
SameMarks e [] ms ns = Unit {0}
SameMarks e (t ∷ ts) [] ns = ⊥
SameMarks e (t ∷ ts) (m ∷ ms) [] = ⊥
SameMarks e (t ∷ ts) (m ∷ ms) (n ∷ ns) = (some_meets t.writes e ≡ true → m ≡ n) × SameMarks e ts ms ns

-- applied to layouts that agree on an element, they lead to ones that do
pub laid-agree : (e : Element) (ts : List Trace) (ms ns : List Bool) (k l m n : Layout) → SameMarks e ts ms ns → Laid ts ms k m →
    Laid ts ns l n → Agree k l e → Agree m n e
laid-agree e [] ms ns k l m n same first other agree =
    agree-trans m k n e (agree-equal m k e (sym first)) (agree-trans k l n e agree (agree-equal l n e other))
laid-agree e (t ∷ ts) [] ns k l m n same first other agree = absurd same
laid-agree e (t ∷ ts) (a ∷ ms) [] k l m n same first other agree = absurd same
laid-agree e (t ∷ ts) (true ∷ ms) (true ∷ ns) k l m n same (k', lead, rest) (l', led, more) agree =
    laid-agree e ts ms ns k' l' m n same.1 rest more (agree_applied t.writes k l k' l' e lead led agree)
laid-agree e (t ∷ ts) (true ∷ ms) (false ∷ ns) k l m n same (k', lead, rest) other agree =
    laid-agree e ts ms ns k' l m n same.1 rest other
    (agree-trans k' k l e (agree-sym k k' e (unmet_agree t.writes k k' e lead (differ (some_meets t.writes e) refl))) agree)
  where
    differ : (b : Bool) → some_meets t.writes e ≡ b → b ≡ false
    differ true meets = let same_mark : true ≡ false = same.0 meets in absurd cc
    differ false meets = refl
laid-agree e (t ∷ ts) (false ∷ ms) (true ∷ ns) k l m n same first (l', led, more) agree =
    laid-agree e ts ms ns k l' m n same.1 first more
    (agree-trans k l l' e agree (unmet_agree t.writes l l' e led (differ (some_meets t.writes e) refl)))
  where
    differ : (b : Bool) → some_meets t.writes e ≡ b → b ≡ false
    differ true meets = let same_mark : false ≡ true = same.0 meets in absurd cc
    differ false meets = refl
laid-agree e (t ∷ ts) (false ∷ ms) (false ∷ ns) k l m n same first other agree =
    laid-agree e ts ms ns k l m n same.1 first other agree
