-- What a command means goes by its first letter.
use Rattle.std.proofs.Common.{◌≡◌, ℕ, Bool, true, false, cond, List, [], ◌∷◌, Option, Some, None, Result, Ok, Err, refl, ap, arith}
use Rattle.std.specs.Prelude.{◌==◌, option_map}
use Rattle.std.specs.List.{list_all}
use Rattle.std.proofs.lemmas.Bool.Decides.{nat_tests}
use Rattle.lay_point.specs.Names.{is_digit}
use Rattle.cif_grammar.specs.Bytes.{is_blank, skip}
use Rattle.cif_grammar.specs.declared.definitions.Definition.{Definition}
use Rattle.cif_grammar.specs.Boxes.{box_of}
use Rattle.cif_grammar.specs.Commands.{Box, Command, Comment, Extension, Finish, Layer, Polygon, Start}
use Rattle.cif_grammar.specs.Comments.{is_comment}
use Rattle.cif_grammar.specs.Definitions.{definition_of}
use Rattle.cif_grammar.specs.Layers.{layer_of}
use Rattle.cif_grammar.specs.Paths.{path_of}
use Rattle.cif_grammar.specs.Reading.{bracket_of, call_of, command_of}
use Rattle.cif_read.specs.declared.content.Content.{Content}
use Rattle.cif_read.specs.declared.fault.FaultKind.{FaultKind}
use Rattle.cif_read.specs.declared.fault.FaultKind.TheVariants.{Flash, Syntax, Wire}
use Rattle.cif_read.specs.Content.{after_box, after_layer, after_polygon, effect_of}
use Rattle.cif_read.specs.Meaning.{after_piece, definition_kind, read_as, unread_kind}
use Rattle.cif_read.specs.Steps.{leaves}

made : {A : Type 0} (content : Content) (offset : ℕ) (make : A → Command) (effect : A → Result Content FaultKind)
    → ((x : A) → effect_of content offset (make x) ≡ effect x) → (o : Option A)
    → read_as Syntax (effect_of content offset) (option_map make o) ≡ read_as Syntax effect o
made content offset make effect same None = refl
made content offset make effect same (Some x) = same x

pub polygon_piece : (content : Content) (offset : ℕ) (bs : List ℕ)
    → after_piece content offset (80 ∷ bs) ≡ read_as Syntax (after_polygon content) (path_of bs)
unfolding command_of unread_kind
polygon_piece content offset bs = made content offset Polygon (after_polygon content) (λ x. refl) (path_of bs)

pub box_piece : (content : Content) (offset : ℕ) (bs : List ℕ)
    → after_piece content offset (66 ∷ bs) ≡ read_as Syntax (after_box content) (box_of bs)
unfolding command_of unread_kind
box_piece content offset bs = made content offset Box (after_box content) (λ x. refl) (box_of bs)

pub layer_piece : (content : Content) (offset : ℕ) (bs : List ℕ)
    → after_piece content offset (76 ∷ bs) ≡ read_as Syntax (after_layer content) (layer_of bs)
unfolding command_of unread_kind
layer_piece content offset bs = made content offset Layer (after_layer content) (λ x. refl) (layer_of bs)

pub call_piece : (content : Content) (offset : ℕ) (bs : List ℕ)
    → after_piece content offset (67 ∷ bs) ≡ read_as Syntax (effect_of content offset) (call_of bs)
unfolding command_of unread_kind
call_piece content offset bs = refl

-- the offset counts for calls alone
any_offset : (content : Content) (offset : ℕ) (kind : FaultKind) (bs : List ℕ)
    → read_as kind (effect_of content offset) (bracket_of bs) ≡ read_as kind (effect_of content 0) (bracket_of bs)
any_offset content offset kind [] = refl
any_offset content offset kind (b ∷ bs) =
    by (b == 83) (b == 70) (definition_of bs) (list_all is_blank bs) where
      by : (starts ends : Bool) (d : Option Definition) (blank : Bool)
          → read_as kind (effect_of content offset) (cond starts (option_map Start d) (cond ends (cond blank (Some Finish) None) None))
          ≡ read_as kind (effect_of content 0) (cond starts (option_map Start d) (cond ends (cond blank (Some Finish) None) None))
      by true ends None blank = refl
      by true ends (Some d) blank = refl
      by false true d true = refl
      by false true d false = refl
      by false false d blank = refl

pub bracket_piece : (content : Content) (offset : ℕ) (bs : List ℕ)
    → after_piece content offset (68 ∷ bs) ≡ read_as (definition_kind (skip is_blank bs)) (effect_of content 0)
    (bracket_of (skip is_blank bs))
unfolding command_of unread_kind
bracket_piece content offset bs = any_offset content offset (definition_kind (skip is_blank bs)) (skip is_blank bs)

pub comment_piece : (content : Content) (offset : ℕ) (bs : List ℕ)
    → after_piece content offset (40 ∷ bs) ≡ cond (is_comment bs) (Ok content) (Err Syntax)
unfolding command_of unread_kind
comment_piece content offset bs = by (is_comment bs) where
  by : (b : Bool) → read_as Syntax (effect_of content offset) (cond b (Some Comment) None) ≡ cond b (Ok content) (Err Syntax)
  by true = refl
  by false = refl

-- what a comment leaves is the content before it
pub comment_leaves : (content : Content) (bs : List ℕ) (result : Result (Unit {0}) FaultKind)
    → result ≡ cond (is_comment bs) (Ok tt) (Err Syntax)
    → leaves result content ≡ cond (is_comment bs) (Ok content) (Err Syntax)
comment_leaves content bs result e = rw e (by (is_comment bs)) where
  by : (b : Bool) → leaves {U = Unit {0}} (cond b (Ok tt) (Err Syntax)) content ≡ cond b (Ok content) (Err Syntax)
  by true = refl
  by false = refl

-- ---- what begins with no letter of a command

record IsOther (b : ℕ) : Type 0 where
  polygon : (b == 80) ≡ false
  box : (b == 66) ≡ false
  layer : (b == 76) ≡ false
  bracket : (b == 68) ≡ false
  call : (b == 67) ≡ false
  comment : (b == 40) ≡ false

digit_other : (b : ℕ) → is_digit b ≡ true → IsOther b
digit_other b h = record {
  polygon = grind (arith, nat_tests);
  box = grind (arith, nat_tests);
  layer = grind (arith, nat_tests);
  bracket = grind (arith, nat_tests);
  call = grind (arith, nat_tests);
  comment = grind (arith, nat_tests);
}

pub extension_piece : (content : Content) (offset b : ℕ) (bs : List ℕ) → is_digit b ≡ true
    → after_piece content offset (b ∷ bs) ≡ effect_of content offset Extension
unfolding command_of
extension_piece content offset b bs h =
    let other = digit_other b h in
    let read : command_of (b ∷ bs) ≡ Some Extension =
    rw (other.polygon, other.box, other.layer, other.bracket, other.call, other.comment, h) refl in
    ap (read_as (unread_kind (b ∷ bs)) (effect_of content offset)) read

pub wire_piece : (content : Content) (offset : ℕ) (bs : List ℕ) → after_piece content offset (87 ∷ bs) ≡ Err Wire
unfolding command_of unread_kind
wire_piece content offset bs = refl

pub flash_piece : (content : Content) (offset : ℕ) (bs : List ℕ) → after_piece content offset (82 ∷ bs) ≡ Err Flash
unfolding command_of unread_kind
flash_piece content offset bs = refl

pub empty_piece : (content : Content) (offset : ℕ) → after_piece content offset [] ≡ Err Syntax
unfolding command_of unread_kind
empty_piece content offset = refl

pub other_piece : (content : Content) (offset b : ℕ) (bs : List ℕ) → (b == 80) ≡ false → (b == 66) ≡ false → (b == 76) ≡ false
    → (b == 68) ≡ false → (b == 67) ≡ false → (b == 40) ≡ false → is_digit b ≡ false → (b == 87) ≡ false → (b == 82) ≡ false
    → after_piece content offset (b ∷ bs) ≡ Err Syntax
unfolding command_of unread_kind
other_piece content offset b bs polygon box layer bracket call comment digit wire flash =
    rw (polygon, box, layer, bracket, call, comment, digit, wire, flash) refl
