-- What is kept of a text is lines.
use Rattle.std.proofs.Common.{◌≡◌, ℕ, ◌+◌, ◌<◌, ◌≤◌, ◌/◌, ◌%◌, Bool, true, false, cond, List, [], ◌∷◌, ◌++◌, Option, Some, None, IfSome}
use Rattle.std.proofs.Common.{refl, ◌∙◌, arith}
use Rattle.std.specs.Prelude.{⊤, ◌==◌, ◌&&◌, ◌^◌, option_map, codes, decimal, nat_le, not}
use Rattle.std.specs.List.{AllByRecursion, list_all}
use Rattle.std.specs.Str.{bytes_eq}
use Rattle.std.proofs.lemmas.Bool.{and_parts, not-true}
use Rattle.std.proofs.lemmas.Bool.Decides.{nat_tests}
use Rattle.std.proofs.lemmas.Fmt.{decimal_by_steps}
use Rattle.std.proofs.lemmas.List.Folds.{list_all-append}
use Rattle.lay_point.specs.Names.{is_digit, is_layer_name, is_name_byte, layer_name_of}
use Rattle.lay_point.proofs.ListLaws.{all_push}
use Rattle.cif_grammar.specs.declared.number.Number.{Number}
use Rattle.cif_grammar.specs.Bytes.{is_blank, skip}
use Rattle.byte_io.specs.Steps.{◌>>=◌}
use Rattle.cif_grammar.proofs.Runs.{list_all-take_while}
use Rattle.cif_grammar.specs.declared.definitions.Definition.{Definition}
use Rattle.cif_grammar.specs.declared.definitions.Scale.{Scale}
use Rattle.cif_grammar.specs.Cutting.{cut}
use Rattle.cif_grammar.specs.Definitions.{definition_of}
use Rattle.cif_grammar.specs.Layers.{layer_of}
use Rattle.cif_names.specs.declared.names.Names.{Names}
use Rattle.cif_names.specs.declared.place.Place.{Place}
use Rattle.cif_names.specs.Entries.{Label, coordinate_of, in_bits, label_command, label_of, label_text, layer_bytes, layer_text}
use Rattle.cif_names.specs.Entries.{
  limit_of,
  name_text,
  number_text,
  product_in_units,
  scaled_to_units,
  sign_text,
  word_behind,
  word_beside,
}
use Rattle.cif_names.specs.Entries.{word_text}
use Rattle.cif_names.specs.Laws.{IsKeptLine, KeptLinesAreLines, is_kept_line, is_line}
use Rattle.cif_names.specs.Names.{kept_after, label_line, name_line, names_after, names_from, names_of, nothing, with_line}
use Rattle.cif_names.specs.Places.{after_bracket, layer_at, layered, outside, place_after, place_closed, place_opened}
use Rattle.cif_names.specs.Words.{field_at, integer_of, is_dark, is_space, only_word, word_at, word_by}
use Rattle.cif_names.proofs.SameText.{is_line-other}

-- ---- bytes of which none is a newline

abbrev pub is_plain : ℕ → Bool
is_plain b = not (b == 10)

abbrev pub IsPlain : List ℕ → Type 0
IsPlain bytes = list_all is_plain bytes ≡ true

pub plain-append : (xs ys : List ℕ) → IsPlain xs → IsPlain ys → IsPlain (xs ++ ys)
plain-append xs ys p q = list_all-append is_plain xs ys ∙ rw (p, q) refl

-- in front of a line they are one with it
pub line-append : (xs ys : List ℕ) → IsPlain xs → is_line ys ≡ true → is_line (xs ++ ys) ≡ true
line-append [] ys p one = one
line-append (b ∷ bs) ys p one =
    let both = and_parts (is_plain b) (list_all is_plain bs) p in
    is_line-other b (bs ++ ys) (not-true (b == 10) both.0) ∙ line-append bs ys both.1 one

pub all_weaker : (p q : ℕ → Bool) → ((b : ℕ) → p b ≡ true → q b ≡ true) → (bs : List ℕ) → list_all p bs ≡ true → list_all q bs ≡ true
all_weaker p q f [] h = refl
all_weaker p q f (b ∷ bs) h =
    let both = and_parts (p b) (list_all p bs) h in
    rw (f b both.0, all_weaker p q f bs both.1) refl

dark_plain : (bs : List ℕ) → list_all is_dark bs ≡ true → IsPlain bs
dark_plain bs h = all_weaker is_dark is_plain (λ b e. grind (arith, nat_tests)) bs h

pub name_plain : (bs : List ℕ) → list_all is_name_byte bs ≡ true → IsPlain bs
name_plain bs h = all_weaker is_name_byte is_plain (λ b e. grind (arith, nat_tests)) bs h

one_digit : (n : ℕ) → n < 10 → IsPlain ((48 + n) ∷ [])
one_digit n h = grind (arith, nat_tests)

pub decimal_plain : (n : ℕ) → n < 2 ^ 64 → IsPlain (decimal n)
decimal_plain n h =
    decimal_by_steps (λ n ds. IsPlain ds) one_digit
    (λ n ds _ p. plain-append ds ((48 + n % 10) ∷ []) p (one_digit (n % 10) (omega arith))) n h

-- ---- words, numbers and layers

-- a step that takes what has P gives what has Q
pub bind_if : {A B : Type 0} (o : Option A) (f : A → Option B) (P : A → Type 0) (Q : B → Type 0)
    → IfSome o P → ((x : A) → P x → IfSome (f x) Q) → IfSome (o >>= f) Q
bind_if None f P Q p g = tt
bind_if (Some x) f P Q p g = g x p

anything : {A : Type 0} (o : Option A) → IfSome o (λ _. ⊤)
anything None = tt
anything (Some x) = tt

abbrev IsPlainFirst : List ℕ × List ℕ → Type 0
IsPlainFirst word = IsPlain word.0

word_by-plain : (word behind : List ℕ) → list_all is_dark word ≡ true → IfSome (word_by word behind) IsPlainFirst
word_by-plain [] behind h = tt
word_by-plain (b ∷ bs) behind h = dark_plain (b ∷ bs) h

word_plain : (bytes : List ℕ) → IfSome (word_at bytes) IsPlainFirst
unfolding word_at
word_plain bytes =
    word_by-plain _ (skip is_dark (skip is_space bytes)) (list_all-take_while is_dark (skip is_space bytes))

only_plain : (bytes : List ℕ) → IfSome (only_word bytes) IsPlain
unfolding only_word
only_plain bytes = bind_if (word_at bytes) _ IsPlainFirst IsPlain (word_plain bytes) (λ w p. by w p (list_all is_space w.1)) where
  by : (w : List ℕ × List ℕ) → IsPlainFirst w → (t : Bool) → IfSome (cond t (Some w.0) None) IsPlain
  by w p true = p
  by w p false = tt

abbrev pub IsSmall : Number → Type 0
IsSmall n = n.magnitude ≤ 2147483648

in_bits-small : (negative : Bool) (n : ℕ) → IfSome (in_bits negative n) IsSmall
in_bits-small negative n = by negative (nat_le n (limit_of negative)) refl where
  by : (negative t : Bool) → nat_le n (limit_of negative) ≡ t
      → IfSome (cond t (Some (record { negative = negative; magnitude = n })) None) IsSmall
  by true true e = grind (arith, nat_tests)
  by false true e = grind (arith, nat_tests)
  by true false e = tt
  by false false e = tt

scaled_to_units-small : (scale : Scale) (n : Number) → IfSome (scaled_to_units scale n) IsSmall
unfolding scaled_to_units
scaled_to_units-small scale n = by (scale.denominator == 0) (product_in_units scale n.magnitude % scale.denominator == 0) where
  by : (t u : Bool) → IfSome (cond t None (cond u (in_bits n.negative (product_in_units scale n.magnitude / scale.denominator)) None))
      IsSmall
  by true u = tt
  by false true = in_bits-small n.negative (product_in_units scale n.magnitude / scale.denominator)
  by false false = tt

pub coordinate-small : (scale : Scale) (word : List ℕ) → IfSome (coordinate_of scale word) IsSmall
unfolding coordinate_of
coordinate-small scale word =
    bind_if (integer_of word) _ (λ _. ⊤) IsSmall (anything (integer_of word)) (λ n _. scaled_to_units-small scale n)

sign_plain : (n : Number) → IsPlain (sign_text n)
sign_plain n = by (n.negative && not (n.magnitude == 0)) where
  by : (t : Bool) → IsPlain (cond t (codes "-") [])
  by true = refl
  by false = refl

number_plain : (n : Number) → IsSmall n → IsPlain (number_text n)
number_plain n small = plain-append (sign_text n) (decimal n.magnitude) (sign_plain n) (decimal_plain n.magnitude (omega arith))

layer_bytes-plain : (set : Option (List ℕ)) → IfSome set IsPlain → IsPlain (layer_bytes set)
layer_bytes-plain None p = refl
layer_bytes-plain (Some name) p = p

word_behind-plain : (bytes : List ℕ) → IfSome (word_behind bytes) IsPlain
unfolding word_behind
word_behind-plain bytes = by (list_all is_space bytes) where
  by : (t : Bool) → IfSome (cond t (Some []) (only_word bytes)) IsPlain
  by true = refl
  by false = only_plain bytes

word_beside-plain : (set : Option (List ℕ)) (word : List ℕ) → IsPlain word → IsPlain (word_beside set word)
word_beside-plain None word p = p
word_beside-plain (Some layer) word p = by (list_all is_digit word) where
  by : (t : Bool) → IsPlain (cond t word [])
  by true = p
  by false = refl

word_text-plain : (word : List ℕ) → IsPlain word → IsPlain (word_text word)
word_text-plain [] p = refl
word_text-plain (b ∷ bs) p = p

layer_text-plain : (layer : List ℕ) → IsPlain layer → IsPlain (layer_text layer)
layer_text-plain [] p = refl
layer_text-plain (b ∷ bs) p =
    plain-append (codes " L " ++ (b ∷ bs)) (codes "; ") (plain-append (codes " L ") (b ∷ bs) refl p) refl

-- ---- lines of names and labels

-- a line of a name or a label
abbrev IsKept : List ℕ → Type 0
IsKept line = (is_line line ≡ true) × (is_kept_line line ≡ true)

record IsPlainLabel (l : Label) : Type 0 where
  text : IsPlain l.text
  x : IsSmall l.x
  y : IsSmall l.y
  layer : IsPlain l.layer
  word : IsPlain l.word

label_plain : (place : Place) (bytes : List ℕ) → IfSome place.layer IsPlain → IfSome (label_of place bytes) IsPlainLabel
unfolding label_of
label_plain place bytes set =
    bind_if (word_at bytes) _ IsPlainFirst IsPlainLabel (word_plain bytes) (λ text t.
    bind_if (field_at text.1) _ (λ _. ⊤) IsPlainLabel (anything (field_at text.1)) (λ x_word _.
    bind_if (field_at x_word.1) _ (λ _. ⊤) IsPlainLabel (anything (field_at x_word.1)) (λ y_word _.
    bind_if (coordinate_of place.scale x_word.0) _ IsSmall IsPlainLabel (coordinate-small place.scale x_word.0) (λ x p.
    bind_if (coordinate_of place.scale y_word.0) _ IsSmall IsPlainLabel (coordinate-small place.scale y_word.0) (λ y q.
    bind_if (word_behind y_word.1) _ IsPlain IsPlainLabel (word_behind-plain y_word.1) (λ word r.
    record { text = t; x = p; y = q; layer = layer_bytes-plain place.layer set; word = word_beside-plain place.layer word r }))))))

-- seven parts
seven_plain : (a b c d e f g : List ℕ) → IsPlain a → IsPlain b → IsPlain c → IsPlain d → IsPlain e → IsPlain f → IsPlain g
    → IsPlain (a ++ b ++ c ++ d ++ e ++ f ++ g)
seven_plain a b c d e f g p q r s t u v =
    plain-append (a ++ b ++ c ++ d ++ e ++ f) g (plain-append (a ++ b ++ c ++ d ++ e) f (plain-append (a ++ b ++ c ++ d) e
    (plain-append (a ++ b ++ c) d (plain-append (a ++ b) c (plain-append a b p q) r) s) t) u) v

command_line : (l : Label) → IsPlainLabel l → is_line (label_command l) ≡ true
command_line l is =
    let before = codes "94 " ++ l.text ++ codes " " ++ number_text l.x ++ codes " " ++ number_text l.y ++ word_text l.word in
    line-append before (codes ";\n")
    (seven_plain (codes "94 ") l.text (codes " ") (number_text l.x) (codes " ") (number_text l.y) (word_text l.word)
    refl is.text refl (number_plain l.x is.x) refl (number_plain l.y is.y) (word_text-plain l.word is.word)) refl

-- with a layer before it or without
layered_kept : (layer command : List ℕ) → is_kept_line command ≡ true → is_kept_line (layer_text layer ++ command) ≡ true
layered_kept [] command kept = kept
layered_kept (b ∷ bs) command kept = refl

label_kept : (l : Label) → IsPlainLabel l → IsKept (label_text l)
label_kept l is = (
  line-append (layer_text l.layer) (label_command l) (layer_text-plain l.layer is.layer) (command_line l is),
  layered_kept l.layer (label_command l) refl,
)

name_kept : (name : List ℕ) → IsPlain name → IsKept (name_text name)
name_kept name p = (line-append (codes "9 " ++ name) (codes ";\n") (plain-append (codes "9 ") name refl p) refl, refl)

-- what is made of what has P has Q
pub map_if : {A B : Type 0} (f : A → B) (o : Option A) (P : A → Type 0) (Q : B → Type 0) → ((x : A) → P x → Q (f x)) → IfSome o P
    → IfSome (option_map f o) Q
map_if f None P Q g p = tt
map_if f (Some x) P Q g p = g x p

name_line-kept : (symbol : Option ℕ) (bytes : List ℕ) → IfSome (name_line symbol bytes) IsKept
name_line-kept None bytes = tt
name_line-kept (Some n) bytes = map_if name_text (only_word bytes) IsPlain IsKept name_kept (only_plain bytes)

label_line-kept : (place : Place) (bytes : List ℕ) → IfSome place.layer IsPlain → IfSome (label_line place bytes) IsKept
label_line-kept place bytes set = map_if label_text (label_of place bytes) IsPlainLabel IsKept label_kept (label_plain place bytes set)

-- ---- a whole text

abbrev AreKept : Names → Type 0
AreKept kept = AllByRecursion IsKeptLine kept.entries

with_line-kept : (kept : Names) (symbol : Option ℕ) (o : Option (List ℕ)) → AreKept kept → IfSome o IsKept
    → AreKept (with_line kept symbol o)
with_line-kept kept symbol None are is = are
with_line-kept kept symbol (Some line) are is =
    all_push IsKeptLine kept.entries (record { symbol = symbol; line = line }) are (record { one = is.0; kept = is.1 })

names_after-kept : (kept : Names) (place : Place) (o : Option (List ℕ × List ℕ)) → AreKept kept → IfSome place.layer IsPlain
    → AreKept (names_after kept place o)
names_after-kept kept place None are set = are
names_after-kept kept place (Some w) are set =
    by (bytes_eq w.0 (codes "9")) (bytes_eq w.0 (codes "94")) (bytes_eq w.0 (codes "91")) where
      by : (t u v : Bool) → AreKept (cond t (with_line kept place.symbol (name_line place.symbol w.1))
          (cond u (with_line kept place.symbol (label_line place w.1)) (cond v (with_line kept place.symbol None) kept)))
      by true u v = with_line-kept kept place.symbol _ are (name_line-kept place.symbol w.1)
      by false true v = with_line-kept kept place.symbol _ are (label_line-kept place w.1 set)
      by false false true = are
      by false false false = are

kept_after-kept : (kept : Names) (place : Place) (bytes : List ℕ) → AreKept kept → IfSome place.layer IsPlain
    → AreKept (kept_after kept place bytes)
unfolding kept_after
kept_after-kept kept place bytes are set = names_after-kept kept place (word_at bytes) are set

-- the layer that is set, and the one that is set again, are names of layers
abbrev pub IsNamed : List ℕ → Type 0
IsNamed name = is_layer_name name ≡ true

pub record IsNamedPlace (place : Place) : Type 0 where
  pub layer : IfSome place.layer IsNamed
  pub saved : IfSome place.saved IsNamed

named_plain : (o : Option (List ℕ)) → IfSome o IsNamed → IfSome o IsPlain
named_plain None named = tt
named_plain (Some name) named = name_plain name (grind (arith, nat_tests))

place_opened-named : (place : Place) (o : Option Definition) → IsNamedPlace place → IsNamedPlace (place_opened place o)
place_opened-named place None are = are
place_opened-named place (Some d) are = record { layer = tt; saved = are.layer }

after_bracket-named : (place : Place) (bytes : List ℕ) → IsNamedPlace place → IsNamedPlace (after_bracket place bytes)
after_bracket-named place [] are = are
after_bracket-named place (b ∷ bs) are = by (b == 83) (b == 70 && list_all is_blank bs) where
  by : (t u : Bool) → IsNamedPlace (cond t (place_opened place (definition_of bs)) (cond u (place_closed place) place))
  by true u = place_opened-named place (definition_of bs) are
  by false true = record { layer = are.saved; saved = tt }
  by false false = are

layer_name-named : (name : List ℕ) → IfSome (layer_name_of name) IsNamed
layer_name-named name = by (is_layer_name name) refl where
  by : (t : Bool) → is_layer_name name ≡ t → IfSome (cond t (Some name) None) IsNamed
  by true e = e
  by false e = tt

layer_at-named : (bytes : List ℕ) → IfSome (layer_at bytes) IsNamed
unfolding layer_at
layer_at-named bytes = bind_if (layer_of bytes) _ (λ _. ⊤) IsNamed (anything (layer_of bytes)) (λ name _. layer_name-named name)

layered-named : (place : Place) (o : Option (List ℕ)) → IsNamedPlace place → IfSome o IsNamed → IsNamedPlace (layered place o)
layered-named place None are p = are
layered-named place (Some name) are p = record { layer = p; saved = are.saved }

pub place_after-named : (place : Place) (bytes : List ℕ) → IsNamedPlace place → IsNamedPlace (place_after place bytes)
unfolding place_after
place_after-named place [] are = are
place_after-named place (b ∷ bs) are = by (b == 68) (b == 76) where
  by : (t u : Bool) → IsNamedPlace (cond t (after_bracket place (skip is_blank bs)) (cond u (layered place (layer_at bs)) place))
  by true u = after_bracket-named place (skip is_blank bs) are
  by false true = layered-named place (layer_at bs) are (layer_at-named bs)
  by false false = are

names_from-kept : (kept : Names) (place : Place) (ps : List (ℕ × List ℕ)) → AreKept kept → IsNamedPlace place
    → AreKept (names_from kept place ps)
unfolding names_from
names_from-kept kept place [] are set = are
names_from-kept kept place (p ∷ ps) are set =
    names_from-kept (kept_after kept place p.1) (place_after place p.1) ps
    (kept_after-kept kept place p.1 are (named_plain place.layer set.layer)) (place_after-named place p.1 set)

pub kept_lines : KeptLinesAreLines
unfolding names_of
kept_lines text = names_from-kept nothing outside (cut text).pieces tt (record { layer = tt; saved = tt })
