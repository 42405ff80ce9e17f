-- Places under elements that are no items.
use Rattle.std.specs.Prelude.{ℕ, List, [], ◌∷◌, ◌++◌, Bool, false, not, map, Option, None, Some}
use Rattle.std.specs.BTreeMap.{BTreeMap, get}
use Rattle.std.specs.FinSet as set
use Rattle.std.specs.List.{filter}
use Rattle.txn_commands.specs.declared.element.Element.{Element}
use Rattle.txn_commands.specs.Elements.{element_cmp, element_eq}
use Rattle.undo_index.specs.declared.place_set.PlaceSet.{PlaceSet}
use Rattle.undo_index.specs.First.{has_place}
use Rattle.undo_index.specs.PlaceSet.{places_of}
use Rattle.undo_index.specs.Listed.{Listed}

-- each place with its element; of the places of one element the first ones count
abbrev pub pairs_of : List (Element × PlaceSet) → List (Element × ℕ)
pairs_of [] = []
pairs_of (e ∷ es) = map (λ p. (e.0, p)) (places_of e.1) ++ filter (λ k. not (element_eq e.0 k.0)) (pairs_of es)

-- the finite set of them
abbrev pub listed_in_parts : BTreeMap Element PlaceSet → Listed
listed_in_parts m = set.from_list (pairs_of m.entries)

-- the place is one of these, where there are any
abbrev pub is_one_of : Option PlaceSet → ℕ → Bool
is_one_of None p = false
is_one_of (Some kept) p = has_place (places_of kept) p

-- the place is one of those of the element
abbrev pub is_kept : BTreeMap Element PlaceSet → Element → ℕ → Bool
is_kept m e p = is_one_of (get element_cmp m e) p
