use Rattle.std.proofs.Common.{◌<◌, ◌∙◌, ℕ, drop, length, subst, sym, take}
use Rattle.std.specs.Prelude.{All}
use Rattle.std.proofs.lemmas.List.Elements.{All-append, All-cons, All-drop, All-take}
use Rattle.face_sweep.proofs.OwnLemmas.{inserted}
use Rattle.face_sweep.proofs.own_rows.put_number.Goals as goal

pub returns-clause-given : goal.returns-clause-given
returns-clause-given c =
    let P = λ (n : ℕ). n < length c.args.edges.now.0 in
    let old = c.args.list.now.items in
    let place = c.place_in-place.result in
    subst (All P) (sym c.in_ok-insert.ensures.items)
    (All-append P (take place old) _ (All-take P place old c.requires.given)
    (All-cons P c.args.number (drop place old) c.requires.number (All-drop P place old c.requires.given)))

pub returns-clause-put : goal.returns-clause-put
returns-clause-put c = λ right left is h.
    inserted c.args.list.now.items c.insert.new.self.items right left c.place_in-place.result c.args.number is
    (c.place_in-place.ensures.cut right left (c.as_slice.ensures.value ∙ is) h) c.in_ok-insert.ensures.items
