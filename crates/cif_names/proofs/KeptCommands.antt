-- What is kept of a text is commands of the grammar.
use Rattle.std.proofs.Common.{◌≡◌, ◌⊎◌, ℕ, zero, suc, ◌+◌, Bool, true, false, cond, List, [], ◌∷◌, ◌++◌, drop, length, take}
use Rattle.std.proofs.Common.{Option, Some, None, IfSome, refl, sym, ◌∙◌, subst, arith, inl, inr}
use Rattle.std.specs.Prelude.{⊤, ◌==◌, ◌&&◌, codes, decimal, not}
use Rattle.std.specs.List.{AllByRecursion, list_all, prefix_len, take_while}
use Rattle.std.specs.Str.{bytes_eq}
use Rattle.std.proofs.lemmas.Bool.{and_parts, eqb-true}
use Rattle.std.proofs.lemmas.Bool.Decides.{nat_tests}
use Rattle.std.proofs.lemmas.List.Folds.{list_all-append}
use Rattle.lay_point.specs.Names.{is_digit}
use Rattle.lay_point.proofs.ListLaws.{all_push}
use Rattle.byte_io.proofs.DigitLemmas.{decimal_is}
use Rattle.cif_grammar.specs.declared.number.Number.{Number}
use Rattle.cif_grammar.specs.Bytes.{is_blank, is_gap, skip}
use Rattle.cif_grammar.specs.Cutting.{Cut, EndOf, Ends, behind_command, command_len, cut, cut_by, cut_from, cut_rest}
use Rattle.cif_grammar.specs.Cutting.{first_offset, cut_at, front_of, offset_of, semicolon_from}
use Rattle.cif_grammar.proofs.Runs.{taken_and_left}
use Rattle.cif_names.specs.declared.names.Names.{Names}
use Rattle.cif_names.specs.declared.place.Place.{Place}
use Rattle.cif_names.specs.Entries.{
  Label,
  coordinate_of,
  label_command,
  label_of,
  label_text,
  layer_bytes,
  layer_text,
  name_text,
  number_text,
}
use Rattle.cif_names.specs.Entries.{sign_text, word_behind, word_beside, word_text}
use Rattle.cif_names.specs.Laws.{IsCommands, IsExtensionLine, IsLayeredLine, KeptLinesAreCommands}
use Rattle.cif_names.specs.Names.{kept_after, label_line, name_line, names_after, names_from, names_of, nothing, with_line}
use Rattle.cif_names.specs.Places.{outside, place_after}
use Rattle.cif_names.specs.Words.{field_at, is_between, is_coordinate_byte, is_dark, is_space, only_word, word_at, word_by}
use Rattle.cif_names.proofs.KeptLines.{IsNamed, IsNamedPlace, IsSmall, all_weaker, bind_if, coordinate-small, map_if}
use Rattle.cif_names.proofs.KeptLines.{place_after-named}

-- ---- bytes of which none is a semicolon

abbrev is_open : ℕ → Bool
is_open b = not (b == 59)

abbrev IsOpen : List ℕ → Type 0
IsOpen bytes = list_all is_open bytes ≡ true

open-append : (xs ys : List ℕ) → IsOpen xs → IsOpen ys → IsOpen (xs ++ ys)
open-append xs ys p q = list_all-append is_open xs ys ∙ rw (p, q) refl

-- both parts of such bytes are such
parts_open : (passes : ℕ → Bool) (bytes : List ℕ) → IsOpen bytes → IsOpen (take_while passes bytes) × IsOpen (skip passes bytes)
parts_open passes bytes h =
    let both : IsOpen (take_while passes bytes ++ skip passes bytes) = subst IsOpen (taken_and_left passes bytes) h in
    let apart = sym (list_all-append is_open (take_while passes bytes) (skip passes bytes)) ∙ both in
    and_parts (list_all is_open (take_while passes bytes)) (list_all is_open (skip passes bytes)) apart

-- ---- the commands of a text

-- a comment, a gap, or bytes without a semicolon
abbrev IsPiece : List ℕ → Type 0
IsPiece [] = ⊤
IsPiece (b ∷ bs) = (b ≡ 40) ⊎ ((b ≡ 59) ⊎ IsOpen (b ∷ bs))

-- where the first semicolon stands, none stands before it
record IsFirst (place : ℕ) (bytes : List ℕ) (at : ℕ) : Type 0 where
  before : ℕ
  there : at ≡ place + before
  none : IsOpen (take before bytes)

first_semicolon : (place : ℕ) (bytes : List ℕ) (at : ℕ) → semicolon_from place 0 bytes ≡ Some at → IsFirst place bytes at
unfolding semicolon_from
first_semicolon place [] at e = absurd cc
first_semicolon place (b ∷ bs) at e = by (b == 59) refl e (λ f. first_semicolon (place + 1) bs at f) where
  by : (t : Bool) → (b == 59) ≡ t → cond t (Some place) (semicolon_from (place + 1) 0 bs) ≡ Some at
      → (semicolon_from (place + 1) 0 bs ≡ Some at → IsFirst (place + 1) bs at) → IsFirst place (b ∷ bs) at
  by true h e further = record { before = 0; there = (let same : place ≡ at = cc in omega (arith, same)); none = refl }
  by false h e further =
      let is = further e in
      record { before = suc is.before; there = (let there = is.there in omega (arith, there)); none = rw h is.none }

piece_open : (b : ℕ) (bs : List ℕ) (len : ℕ) → command_len (b ∷ bs) ≡ Some len → IsPiece (take len (b ∷ bs))
unfolding command_len
piece_open b bs len e = by (b == 40) refl (b == 59) refl e where
  comment : (n : ℕ) → b ≡ 40 → IsPiece (take n (b ∷ bs))
  comment zero f = tt
  comment (suc n) f = inl f

  gap : (n : ℕ) → b ≡ 59 → IsPiece (take n (b ∷ bs))
  gap zero f = tt
  gap (suc n) f = inr (inl f)

  by : (t : Bool) → (b == 40) ≡ t → (u : Bool) → (b == 59) ≡ u → semicolon_from 1 (cond t 1 0) bs ≡ Some len → IsPiece (take len (b ∷ bs))
  by true f u g e = comment len (eqb-true b 40 f)
  by false f true g e = gap len (eqb-true b 59 g)
  by false f false g e =
      let is = first_semicolon 1 bs len e in
      let at : len ≡ suc is.before = (let there = is.there in omega (arith, there)) in
      rw at (inr (inr (rw g is.none)))

abbrev ArePieces : List (ℕ × List ℕ) → Type 0
ArePieces ps = AllByRecursion (λ p. IsPiece p.1) ps

pieces_open : (steps total : ℕ) (rest : List ℕ) → ArePieces (cut_from steps total rest).pieces
unfolding cut_from front_of
pieces_open zero total rest = tt
pieces_open (suc steps) total [] = tt
pieces_open (suc steps) total (b ∷ bs) =
    by (b == 69) (command_len (b ∷ bs)) refl (λ len. pieces_open steps total (behind_command len (b ∷ bs))) where
      further : ℕ → Cut
      further len = cut_from steps total (behind_command len (b ∷ bs))

      by : (t : Bool) (o : Option ℕ) → command_len (b ∷ bs) ≡ o → ((len : ℕ) → ArePieces (further len).pieces)
          → ArePieces (cut_by total (b ∷ bs) (cond t (EndOf (Ends (offset_of total (b ∷ bs)) (first_offset total (skip is_blank bs))))
          (cut_at (offset_of total (b ∷ bs)) o)) further).pieces
      by true o e more = tt
      by false None e more = tt
      by false (Some len) e more = (piece_open b bs len e, more len)

-- ---- words

abbrev AreOpen : List ℕ × List ℕ → Type 0
AreOpen w = IsOpen w.0 × IsOpen w.1

word_by-open : (word behind : List ℕ) → IsOpen word → IsOpen behind → IfSome (word_by word behind) AreOpen
word_by-open [] behind p q = tt
word_by-open (b ∷ bs) behind p q = (p, q)

word_open : (bytes : List ℕ) → IsOpen bytes → IfSome (word_at bytes) AreOpen
unfolding word_at
word_open bytes h =
    let rest = parts_open is_space bytes h in
    let both = parts_open is_dark (skip is_space bytes) rest.1 in
    word_by-open (take_while is_dark (skip is_space bytes)) (skip is_dark (skip is_space bytes)) both.0 both.1

field_open : (bytes : List ℕ) → IsOpen bytes → IfSome (field_at bytes) AreOpen
unfolding field_at
field_open bytes h =
    let rest = parts_open is_between bytes h in
    let both = parts_open is_coordinate_byte (skip is_between bytes) rest.1 in
    word_by-open (take_while is_coordinate_byte (skip is_between bytes)) (skip is_coordinate_byte (skip is_between bytes)) both.0 both.1

only_open : (bytes : List ℕ) → IsOpen bytes → IfSome (only_word bytes) IsOpen
unfolding only_word
only_open bytes h = bind_if (word_at bytes) _ AreOpen IsOpen (word_open bytes h) (λ w p. by w p (list_all is_space w.1)) where
  by : (w : List ℕ × List ℕ) → AreOpen w → (t : Bool) → IfSome (cond t (Some w.0) None) IsOpen
  by w p true = p.0
  by w p false = tt

word_behind-open : (bytes : List ℕ) → IsOpen bytes → IfSome (word_behind bytes) IsOpen
unfolding word_behind
word_behind-open bytes h = by (list_all is_space bytes) where
  by : (t : Bool) → IfSome (cond t (Some []) (only_word bytes)) IsOpen
  by true = refl
  by false = only_open bytes h

word_beside-open : (set : Option (List ℕ)) (word : List ℕ) → IsOpen word → IsOpen (word_beside set word)
word_beside-open None word p = p
word_beside-open (Some layer) word p = by (list_all is_digit word) where
  by : (t : Bool) → IsOpen (cond t word [])
  by true = p
  by false = refl

number_open : (n : Number) → IsSmall n → IsOpen (number_text n)
number_open n small =
    open-append (sign_text n) (decimal n.magnitude) (by (n.negative && not (n.magnitude == 0)))
    (all_weaker is_digit is_open (λ b e. grind (arith, nat_tests)) (decimal n.magnitude) (decimal_is n.magnitude (omega arith)).digits)
  where
    by : (t : Bool) → IsOpen (cond t (codes "-") [])
    by true = refl
    by false = refl

word_text-open : (word : List ℕ) → IsOpen word → IsOpen (word_text word)
word_text-open [] p = refl
word_text-open (b ∷ bs) p = p

-- ---- lines of names and labels

-- a line that is commands of the grammar
abbrev IsSpelled : List ℕ → Type 0
IsSpelled line = IsExtensionLine line ⊎ IsLayeredLine line

record IsOpenLabel (l : Label) : Type 0 where
  text : IsOpen l.text
  x : IsSmall l.x
  y : IsSmall l.y
  word : IsOpen l.word

-- the bytes are those of the layer of this place
abbrev IsOnLayer : Place → Label → Type 0
IsOnLayer place l = IsOpenLabel l × (l.layer ≡ layer_bytes place.layer)

label_open : (place : Place) (bytes : List ℕ) → IsOpen bytes → IfSome (label_of place bytes) (IsOnLayer place)
unfolding label_of
label_open place bytes h =
    bind_if (word_at bytes) _ AreOpen (IsOnLayer place) (word_open bytes h) (λ text t.
    bind_if (field_at text.1) _ AreOpen (IsOnLayer place) (field_open text.1 t.1) (λ x_word u.
    bind_if (field_at x_word.1) _ AreOpen (IsOnLayer place) (field_open x_word.1 u.1) (λ y_word v.
    bind_if (coordinate_of place.scale x_word.0) _ IsSmall (IsOnLayer place) (coordinate-small place.scale x_word.0) (λ x p.
    bind_if (coordinate_of place.scale y_word.0) _ IsSmall (IsOnLayer place) (coordinate-small place.scale y_word.0) (λ y q.
    bind_if (word_behind y_word.1) _ IsOpen (IsOnLayer place) (word_behind-open y_word.1 v.1) (λ word r.
    (record { text = t.0; x = p; y = q; word = word_beside-open place.layer word r }, refl)))))))

-- seven parts
seven_open : (a b c d e f g : List ℕ) → IsOpen a → IsOpen b → IsOpen c → IsOpen d → IsOpen e → IsOpen f → IsOpen g
    → IsOpen (a ++ b ++ c ++ d ++ e ++ f ++ g)
seven_open a b c d e f g p q r s t u v =
    open-append (a ++ b ++ c ++ d ++ e ++ f) g (open-append (a ++ b ++ c ++ d ++ e) f (open-append (a ++ b ++ c ++ d) e
    (open-append (a ++ b ++ c) d (open-append (a ++ b) c (open-append a b p q) r) s) t) u) v

command_extension : (l : Label) → IsOpenLabel l → IsExtensionLine (label_command l)
command_extension l is = record {
  extension = codes "94 " ++ l.text ++ codes " " ++ number_text l.x ++ codes " " ++ number_text l.y ++ word_text l.word;
  parts = refl;
  is = record {
    digit = 57;
    rest = codes "4 " ++ l.text ++ codes " " ++ number_text l.x ++ codes " " ++ number_text l.y ++ word_text l.word;
    parts = refl;
    begins = refl;
    plain = seven_open (codes "4 ") l.text (codes " ") (number_text l.x) (codes " ") (number_text l.y) (word_text l.word)
        refl is.text refl (number_open l.x is.x) refl (number_open l.y is.y) (word_text-open l.word is.word);
  };
}

label_commands : (place : Place) (l : Label) → IfSome place.layer IsNamed → IsOnLayer place l → IsSpelled (label_text l)
label_commands place l set is = by place.layer set l.layer is.1 where
  by : (o : Option (List ℕ)) → IfSome o IsNamed → (layer : List ℕ) → layer ≡ layer_bytes o → IsSpelled (layer_text layer ++ label_command l)
  by None set layer e = rw e (inl (command_extension l is.0))
  by (Some []) set layer e = absurd cc
  by (Some (b ∷ bs)) set layer e =
      rw e (inr (record {
        layer = b ∷ bs;
        behind = label_command l;
        parts = refl;
        named = set;
        extension = command_extension l is.0;
      }))

name_commands : (name : List ℕ) → IsOpen name → IsSpelled (name_text name)
name_commands name p = inl (record {
  extension = codes "9 " ++ name;
  parts = refl;
  is = record { digit = 57; rest = codes " " ++ name; parts = refl; begins = refl; plain = p };
})

name_line-commands : (symbol : Option ℕ) (bytes : List ℕ) → IsOpen bytes → IfSome (name_line symbol bytes) IsSpelled
name_line-commands None bytes h = tt
name_line-commands (Some n) bytes h = map_if name_text (only_word bytes) IsOpen IsSpelled name_commands (only_open bytes h)

label_line-commands : (place : Place) (bytes : List ℕ) → IfSome place.layer IsNamed → IsOpen bytes
    → IfSome (label_line place bytes) IsSpelled
label_line-commands place bytes set h =
    map_if label_text (label_of place bytes) (IsOnLayer place) IsSpelled (λ l is. label_commands place l set is) (label_open place bytes h)

-- ---- a whole text

abbrev AreCommands : Names → Type 0
AreCommands kept = AllByRecursion IsCommands kept.entries

with_line-commands : (kept : Names) (symbol : Option ℕ) (o : Option (List ℕ)) → AreCommands kept → IfSome o IsSpelled
    → AreCommands (with_line kept symbol o)
with_line-commands kept symbol None are is = are
with_line-commands kept symbol (Some line) are is =
    all_push IsCommands kept.entries (record { symbol = symbol; line = line }) are is

names_after-commands : (kept : Names) (place : Place) (o : Option (List ℕ × List ℕ)) → AreCommands kept → IfSome place.layer IsNamed
    → IfSome o AreOpen → AreCommands (names_after kept place o)
names_after-commands kept place None are set free = are
names_after-commands kept place (Some w) are set free =
    by (bytes_eq w.0 (codes "9")) (bytes_eq w.0 (codes "94")) (bytes_eq w.0 (codes "91")) where
      by : (t u v : Bool) → AreCommands (cond t (with_line kept place.symbol (name_line place.symbol w.1))
          (cond u (with_line kept place.symbol (label_line place w.1)) (cond v (with_line kept place.symbol None) kept)))
      by true u v = with_line-commands kept place.symbol _ are (name_line-commands place.symbol w.1 free.1)
      by false true v = with_line-commands kept place.symbol _ are (label_line-commands place w.1 set free.1)
      by false false true = are
      by false false false = are

-- a word that begins otherwise than with a `9` is passed over
other_word : (kept : Names) (place : Place) (b : ℕ) (bs : List ℕ) (n m : ℕ) → n ≡ suc m → (b == 57) ≡ false → AreCommands kept
    → AreCommands (names_after kept place (word_by (take n (b ∷ bs)) (drop n (b ∷ bs))))
other_word kept place b bs n m e f are = rw (e, f) are

kept_after-commands : (kept : Names) (place : Place) (piece : List ℕ) → AreCommands kept → IfSome place.layer IsNamed → IsPiece piece
    → AreCommands (kept_after kept place piece)
unfolding kept_after word_at
kept_after-commands kept place [] are set is = are
kept_after-commands kept place (b ∷ bs) are set (inl e) =
    subst (λ (n : ℕ). AreCommands (names_after kept place (word_at (n ∷ bs)))) (sym e)
    (other_word kept place 40 bs (1 + prefix_len is_dark bs) (prefix_len is_dark bs) (omega arith) refl are)
kept_after-commands kept place (b ∷ bs) are set (inr (inl e)) =
    subst (λ (n : ℕ). AreCommands (names_after kept place (word_at (n ∷ bs)))) (sym e)
    (other_word kept place 59 bs (1 + prefix_len is_dark bs) (prefix_len is_dark bs) (omega arith) refl are)
kept_after-commands kept place (b ∷ bs) are set (inr (inr free)) =
    names_after-commands kept place (word_at (b ∷ bs)) are set (word_open (b ∷ bs) free)

names_from-commands : (kept : Names) (place : Place) (ps : List (ℕ × List ℕ)) → AreCommands kept → IsNamedPlace place → ArePieces ps
    → AreCommands (names_from kept place ps)
unfolding names_from
names_from-commands kept place [] are set pieces = are
names_from-commands kept place (p ∷ ps) are set pieces =
    names_from-commands (kept_after kept place p.1) (place_after place p.1) ps
    (kept_after-commands kept place p.1 are set.layer pieces.0) (place_after-named place p.1 set) pieces.1

pub kept_commands : KeptLinesAreCommands
unfolding names_of cut cut_rest
kept_commands text =
    names_from-commands nothing outside (cut text).pieces tt (record { layer = tt; saved = tt })
    (pieces_open (length (skip is_gap text) + 1) (length text) (skip is_gap text))
