use Rattle.std.proofs.Common.{rules, ◌≡◌, ◌∷◌, inr, sym, refl, true, false}
use Rattle.std.specs.Prelude.{◌==◌}
use Rattle.std.proofs.lemmas.List.{nil_from_length}
use Rattle.lay_point.specs.Names.{is_digit}
use Rattle.cif_grammar.specs.Bytes.{is_blank, skip}
use Rattle.cif_read.proofs.Dispatch.{box_piece, bracket_piece, call_piece, comment_leaves}
use Rattle.cif_read.proofs.Dispatch.{comment_piece, empty_piece, extension_piece, flash_piece, layer_piece}
use Rattle.cif_read.proofs.Dispatch.{other_piece, polygon_piece, wire_piece}
use Rattle.cif_read.proofs.content.Content.apply.Goals as goal

pub returns-in_default : goal.returns-in_default
returns-in_default c =
    let none = nil_from_length c.args.bytes.now c.in_default.ensures.cases in
    rw none (inr (sym (empty_piece c.args.self.now c.args.offset)))

pub returns-in-80 : goal.returns-in-80
returns-in-80 c =
    let whole : c.args.bytes.now ≡ 80 ∷ c.in-Some.behind.now = search rules in
    rw (whole, polygon_piece c.args.self.now c.args.offset c.in-Some.behind.now) c.add_polygon.ensures

pub returns-in-66 : goal.returns-in-66
returns-in-66 c =
    let whole : c.args.bytes.now ≡ 66 ∷ c.in-Some.behind.now = search rules in
    rw (whole, box_piece c.args.self.now c.args.offset c.in-Some.behind.now) c.add_box.ensures

pub returns-in-76 : goal.returns-in-76
returns-in-76 c =
    let whole : c.args.bytes.now ≡ 76 ∷ c.in-Some.behind.now = search rules in
    rw (whole, layer_piece c.args.self.now c.args.offset c.in-Some.behind.now) (inr c.set_layer.ensures)

pub returns-in-67 : goal.returns-in-67
returns-in-67 c =
    let whole : c.args.bytes.now ≡ 67 ∷ c.in-Some.behind.now = search rules in
    rw (whole, call_piece c.args.self.now c.args.offset c.in-Some.behind.now) c.add_call.ensures

pub returns-in-40 : goal.returns-in-40
returns-in-40 c =
    let whole : c.args.bytes.now ≡ 40 ∷ c.in-Some.behind.now = search rules in
    rw (whole, comment_piece c.args.self.now c.args.offset c.in-Some.behind.now)
    (inr (comment_leaves c.args.self.now c.in-Some.behind.now c.checked_comment.result c.checked_comment.ensures))

pub returns-in-68 : goal.returns-in-68
returns-in-68 c =
    let whole : c.args.bytes.now ≡ 68 ∷ c.in-Some.behind.now = search rules in
    let rest : c.skip.result.now ≡ skip is_blank c.in-Some.behind.now = c.skip.ensures in
    rw (whole, bracket_piece c.args.self.now c.args.offset c.in-Some.behind.now, ← rest) c.apply_bracket.ensures

pub returns-in-87 : goal.returns-in-87
returns-in-87 c =
    let whole : c.args.bytes.now ≡ 87 ∷ c.in-Some.behind.now = search rules in
    rw whole (inr (sym (wire_piece c.args.self.now c.args.offset c.in-Some.behind.now)))

pub returns-in-82 : goal.returns-in-82
returns-in-82 c =
    let whole : c.args.bytes.now ≡ 82 ∷ c.in-Some.behind.now = search rules in
    rw whole (inr (sym (flash_piece c.args.self.now c.args.offset c.in-Some.behind.now)))

pub returns-then-is_ascii_digit : goal.returns-then-is_ascii_digit
returns-then-is_ascii_digit c =
    let whole : c.args.bytes.now ≡ c.in-Some.first.now ∷ c.in-Some.behind.now = search rules in
    let digit : is_digit c.in-Some.first.now ≡ true = search rules in
    rw (whole, extension_piece c.args.self.now c.args.offset c.in-Some.first.now c.in-Some.behind.now digit) (inr refl)

pub returns-in_default-first : goal.returns-in_default-first
returns-in_default-first c =
    let first = c.in-Some.first.now in
    let whole : c.args.bytes.now ≡ first ∷ c.in-Some.behind.now = search rules in
    let digit : is_digit first ≡ false = search rules in
    let polygon : (first == 80) ≡ false = search rules in
    let box : (first == 66) ≡ false = search rules in
    let layer : (first == 76) ≡ false = search rules in
    let bracket : (first == 68) ≡ false = search rules in
    let call : (first == 67) ≡ false = search rules in
    let comment : (first == 40) ≡ false = search rules in
    let wire : (first == 87) ≡ false = search rules in
    let flash : (first == 82) ≡ false = search rules in
    rw whole (inr (sym (other_piece c.args.self.now c.args.offset first c.in-Some.behind.now polygon box layer bracket call comment
    digit wire flash)))
