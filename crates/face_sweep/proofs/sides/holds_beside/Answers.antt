use Rattle.std.proofs.Common.{◌≡◌, ◌++◌, None, Some, get_or, refl, sym, ◌∙◌}
use Rattle.std.proofs.lemmas.List.{get_or_default}
use Rattle.face_rows.specs.Lines.{edge_at, nowhere}
use Rattle.face_sweep.specs.OwnRows.{own_of}
use Rattle.face_sweep.specs.Reaches.{extent_of, told_by}
use Rattle.face_sweep.proofs.BoxLemmas.{told_beside}
use Rattle.face_sweep.proofs.OwnLemmas.{odd_own}
use Rattle.face_sweep.proofs.sides.holds_beside.Goals as goal

-- a shape of which the box doesn't tell is traced
pub holds_right-requires-clause-traced : goal.holds_right-requires-clause-traced
holds_right-requires-clause-traced c =
    let r = c.args.edges.now in
    let n = c.args.number in
    let o = c.args.owner in
    let edge : c.index-edges-number.result ≡ edge_at r n =
    c.index-edges-number.is ∙ (λ k. get_or (c.edges.ensures.value k) n c.index-edges-number.result)
    ∙ get_or_default r.0 n c.index-edges-number.result nowhere c.requires.given in
    let told : told_by (extent_of c.args.reach.now.boxes o) (edge_at r n) ≡ None =
    (λ k. told_by (sym c.extent.ensures k) (sym edge k)) ∙ sym c.told_by.ensures ∙ c.in-None.is in
    c.requires.reach.traced.all n o c.requires.given c.requires.listed told

-- what the box tells is what holds beside the edge
pub returns-in-Some : goal.returns-in-Some
returns-in-Some c =
    let r = c.args.edges.now in
    let n = c.args.number in
    let o = c.args.owner in
    let edge : c.index-edges-number.result ≡ edge_at r n =
    c.index-edges-number.is ∙ (λ k. get_or (c.edges.ensures.value k) n c.index-edges-number.result)
    ∙ get_or_default r.0 n c.index-edges-number.result nowhere c.requires.given in
    let told : told_by (extent_of c.args.reach.now.boxes o) (edge_at r n) ≡ Some c.in-Some.holds =
    (λ k. told_by (sym c.extent.ensures k) (sym edge k)) ∙ sym c.told_by.ensures ∙ c.in-Some.is in
    sym (told_beside r c.args.reach.now.boxes o n c.in-Some.holds c.requires.sound c.requires.reach.boxes c.requires.given
    c.requires.listed told)

-- and so is how many of its edges are right of it
pub returns-in-None : goal.returns-in-None
returns-in-None c =
    let r = c.args.edges.now in
    let o = c.args.owner in
    let own = c.requires.own in
    c.holds_right.ensures (λ p. own_of r p own.behind ++ own.right.left p) (own_of r o own.behind) (own.right.left o) own.right.own refl
    (own.right.cut o)
    ∙ odd_own r o own.behind ∙ own.tell o
