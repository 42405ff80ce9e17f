use Rattle.std.proofs.Common.{◌≡◌, ◌==◌, ◌∙◌, ◌||◌, ap, None, Some, rules}
use Rattle.std.specs.BTreeMap.{get}
use Rattle.std.specs.FinSet.{insert}
use Rattle.txn_commands.specs.Elements.{element_cmp}
use Rattle.undo_index.specs.declared.place_set.PlaceSet.TheVariants.{Sole}
use Rattle.undo_index.specs.First.{has_place}
use Rattle.undo_index.specs.Listed.{Listed}
use Rattle.undo_index.proofs.PartsLemmas.{IsTurned, kept_more, kept_same, on_err, places_found}
use Rattle.undo_index.proofs.parts.Parts.insert.Goals as goal

pub returns-in_err-insert-clause-err : goal.returns-in_err-insert-clause-err
returns-in_err-insert-clause-err c =
    let m = c.self.inside.places in
    let w = c.insert.new.self in
    let turns : IsTurned m (c.get_mut.follows.lender w) c.args.element (Some w) = ((c.get_mut.follows.holds w).3 (search rules)).0 in
    on_err c.from_residual.result
    (kept_same m (c.get_mut.follows.lender w) c.args.element w turns
    (λ p. ap (λ ps. has_place ps p) c.in_err-insert.ensures.err
    ∙ places_found m c.args.element (Some c.in-Some.kept.now) c.in-Some.ensures.value p) ∙ c.self.view_is)

pub returns-in-Some-clause-ok : goal.returns-in-Some-clause-ok
returns-in-Some-clause-ok c =
    let m = c.self.inside.places in
    let w = c.insert.new.self in
    let turns : IsTurned m (c.get_mut.follows.lender w) c.args.element (Some w) = ((c.get_mut.follows.holds w).3 (search rules)).0 in
    kept_more m (c.get_mut.follows.lender w) c.args.element c.args.place w turns
    (λ p. c.in_ok-insert.ensures.ok p
    ∙ ap (λ b. (p == c.args.place) || b) (places_found m c.args.element (Some c.in-Some.kept.now) c.in-Some.ensures.value p))
    ∙ ap (λ (l : Listed). insert l (c.args.element, c.args.place)) c.self.view_is

pub returns-clause-ok : goal.returns-clause-ok
returns-clause-ok c =
    let m = c.get_mut.follows.lender-at-none in
    let none : None ≡ get element_cmp m c.args.element = search rules in
    kept_more m c.insert-2.new.self c.args.element c.args.place (Sole c.args.place) c.in_ok-insert-2.ensures.updates.0
    (λ p. ap (λ b. (p == c.args.place) || b) (places_found m c.args.element None none p))
    ∙ ap (λ (l : Listed). insert l (c.args.element, c.args.place)) (search rules)
