-- What lines of items and of symbols say, one after the other, whatever each of them says.
use Rattle.std.proofs.Common.{◌≡◌, ◌<◌, ℕ, ◌+◌, List, [], ◌∷◌, ◌++◌, Bool, true, false, not, cond}
use Rattle.std.proofs.Common.{Option, None, Some, length, drop, get_or, map, refl, ap, sym, ◌∙◌, append_assoc, append-nil}
use Rattle.std.specs.Option.{option_eq}
use Rattle.std.specs.List.{flat_map}
use Rattle.std.proofs.lemmas.List.{at_drop_more}
use Rattle.std.proofs.lemmas.List.Concat.{flat_map-append}
use Rattle.lay_layouts.specs.declared.id.ItemId.{ItemId}
use Rattle.lay_layouts.specs.declared.item.Item.{Item}
use Rattle.lay_point.specs.declared.point.Point.{Point}
use Rattle.lay_point.specs.declared.turn.Turn.{Turn}
use Rattle.lay_point.specs.Same.{names_eq}
use Rattle.lay_point.specs.Turns.{unturned}
use Rattle.cif_write.specs.Lines.{Call, End, Finish, Line, OnLayer, Path, Start}
use Rattle.cif_write.specs.Text.{definition_lines, definitions_lines, file_lines, item_lines, items_lines, layer_after, path_lines}
use Rattle.cif_write.specs.Wrap.{Definition, entry_item, plain_target, written_with}

-- the wrapping definition, if there is one, comes last
wrapped_apart : (own : List Definition) (top : List Item) (unused : ℕ) (target : Option ℕ) → written_with own top unused target
    ≡ record { definitions = own ++ (written_with [] top unused target).definitions; called = (written_with [] top unused target).called }
wrapped_apart own top unused (Some target) = λ i. record { definitions = sym (append-nil own) i; called = target }
wrapped_apart own top unused None = refl

module _ (text_of : Line → List ℕ) where
  abbrev texts : List Line → List ℕ
  texts lines = flat_map text_of lines

  -- ---- a shape
  -- the path of a layer that isn't set
  pub path_text-unset : (set : Option (List ℕ)) (layer : List ℕ) (path : List Point) → not (option_eq names_eq set (Some layer)) ≡ true
      → text_of (OnLayer layer) ++ text_of (Path path) ≡ texts (path_lines set layer path)
  path_text-unset None layer path e = ap (λ l. text_of (OnLayer layer) ++ l) (sym (append-nil (text_of (Path path))))
  path_text-unset (Some name) layer path e = by_test (names_eq name layer) e where
    by_test : (b : Bool) → not b ≡ true
        → text_of (OnLayer layer) ++ text_of (Path path) ≡ texts (cond b (Path path ∷ []) (OnLayer layer ∷ Path path ∷ []))
    by_test true f = absurd cc
    by_test false f = ap (λ l. text_of (OnLayer layer) ++ l) (sym (append-nil (text_of (Path path))))

  -- the path of the layer that is set
  pub path_text-set : (set : Option (List ℕ)) (layer : List ℕ) (path : List Point) → not (option_eq names_eq set (Some layer)) ≡ false
      → text_of (Path path) ≡ texts (path_lines set layer path)
  path_text-set None layer path e = absurd cc
  path_text-set (Some name) layer path e = by_test (names_eq name layer) e where
    by_test : (b : Bool) → not b ≡ false
        → text_of (Path path) ≡ texts (cond b (Path path ∷ []) (OnLayer layer ∷ Path path ∷ []))
    by_test true f = sym (append-nil (text_of (Path path)))
    by_test false f = absurd cc

  -- ---- items and symbols
  -- an item, then those behind it
  pub items_text-step : (set after : Option (List ℕ)) (id : ItemId) (item : Item) (entries left : List (ItemId × Item))
      → entries ≡ (id, item) ∷ left → after ≡ layer_after set item
      → texts (items_lines set (map entry_item entries))
      ≡ texts (item_lines set item) ++ texts (items_lines after (map entry_item left))
  items_text-step set after id item entries left first next =
      ap (λ es. texts (items_lines set (map entry_item es))) first
      ∙ flat_map-append text_of (item_lines set item) (items_lines (layer_after set item) (map entry_item left))
      ∙ ap (λ s. texts (item_lines set item) ++ texts (items_lines s (map entry_item left))) (sym next)

  -- a symbol: its first line, its items and its last line
  pub definition_text : (number : ℕ) (items : List Line)
      → (text_of (Start number) ++ texts items) ++ text_of Finish ≡ text_of (Start number) ++ texts (items ++ Finish ∷ [])
  definition_text number items =
      append_assoc (text_of (Start number)) (texts items) (text_of Finish)
      ∙ ap (λ l. text_of (Start number) ++ l)
      (ap (λ l. texts items ++ l) (sym (append-nil (text_of Finish))) ∙ sym (flat_map-append text_of items (Finish ∷ [])))

  -- a symbol, then those behind it
  pub definitions_text-step : (f : ℕ → Definition) (numbers : List ℕ) (i n : ℕ) → i < length numbers → get_or numbers i n ≡ n
      → texts (definitions_lines (map f (drop i numbers)))
      ≡ texts (definition_lines (f n)) ++ texts (definitions_lines (map f (drop (i + 1) numbers)))
  definitions_text-step f numbers i n h number =
      at_drop_more (λ ns. texts (definitions_lines (map f ns))) numbers i n h
      ∙ ap (λ k. texts (definitions_lines (map f (k ∷ drop (i + 1) numbers)))) number
      ∙ flat_map-append text_of (definition_lines (f n)) (definitions_lines (map f (drop (i + 1) numbers)))

  -- ---- the whole text
  -- the definitions, the top cell's call, and `E`
  file_text : (own extra : List Definition) (called : ℕ)
      → ((texts (definitions_lines own) ++ texts (definitions_lines extra)) ++ text_of (Call called unturned)) ++ text_of End
      ≡ texts (file_lines (record { definitions = own ++ extra; called = called }))
  file_text own extra called =
      append_assoc (texts (definitions_lines own) ++ texts (definitions_lines extra)) (text_of (Call called unturned))
      (text_of End)
      ∙ ap (λ l. (texts (definitions_lines own) ++ texts (definitions_lines extra)) ++ (text_of (Call called unturned) ++ l))
      (sym (append-nil (text_of End)))
      ∙ ap (λ xs. xs ++ texts (Call called unturned ∷ End ∷ []))
      (sym (flat_map-append text_of (definitions_lines own) (definitions_lines extra))
      ∙ ap texts (sym (flat_map-append definition_lines own extra)))
      ∙ sym (flat_map-append text_of (definitions_lines (own ++ extra)) (Call called unturned ∷ End ∷ []))

  -- the symbols, the one that wraps the top cell's items, the call and the end are the whole text
  pub whole_text : (own : List Definition) (top : List Item) (unused called : ℕ) (turn : Turn)
      → called ≡ (written_with [] top unused (plain_target top)).called → turn ≡ unturned
      → ((texts (definitions_lines own)
      ++ texts (definitions_lines (written_with [] top unused (plain_target top)).definitions)) ++ text_of (Call called turn))
      ++ text_of End
      ≡ texts (file_lines (written_with own top unused (plain_target top)))
  whole_text own top unused called turn is plain =
      let wrapped = written_with [] top unused (plain_target top) in
      (λ i. ((texts (definitions_lines own) ++ texts (definitions_lines wrapped.definitions)) ++ text_of (Call (is i) (plain i)))
      ++ text_of End)
      ∙ file_text own wrapped.definitions wrapped.called
      ∙ ap (λ file. texts (file_lines file)) (sym (wrapped_apart own top unused (plain_target top)))
