use Rattle.std.proofs.Common.{◌≡◌, ◌==◌, ◌∙◌, not, ◌&&◌, None, Some, ap, rules, sym}
use Rattle.std.specs.BTreeMap.{get}
use Rattle.std.specs.FinSet.{remove}
use Rattle.txn_commands.specs.Elements.{element_cmp}
use Rattle.undo_index.specs.Listed.{Listed}
use Rattle.undo_index.proofs.PartsLemmas.{IsTurned, kept_less, none_less, places_found, turned_twice}
use Rattle.undo_index.proofs.parts.Parts.remove.Goals as goal

pub returns-in_default : goal.returns-in_default
returns-in_default c =
    let m = c.get_mut.follows.lender-at-none in
    let none : None ≡ get element_cmp m c.args.element = search rules in
    none_less m c.args.element c.args.place none
    ∙ ap (λ (l : Listed). remove l (c.args.element, c.args.place)) (search rules)

pub returns-then-remove : goal.returns-then-remove
returns-then-remove c =
    let m = c.self.inside.places in
    let w = c.remove.new.self in
    let turns : IsTurned m (c.get_mut.follows.lender w) c.args.element (Some w) = ((c.get_mut.follows.holds w).3 (search rules)).0 in
    kept_less m (c.get_mut.follows.lender w) c.args.element c.args.place (Some w) turns
    (λ p. c.remove.ensures.left c.if-remove.true p
    ∙ ap (λ b. not (p == c.args.place) && b) (places_found m c.args.element (Some c.in-Some.kept.now) c.in-Some.ensures.value p))
    ∙ ap (λ (l : Listed). remove l (c.args.element, c.args.place)) c.self.view_is

pub returns : goal.returns
returns c =
    let m = c.self.inside.places in
    let w = c.remove.new.self in
    let turns : IsTurned m (c.get_mut.follows.lender w) c.args.element (Some w) = ((c.get_mut.follows.holds w).3 (search rules)).0 in
    kept_less m c.remove-2.new.self c.args.element c.args.place None
    (turned_twice m (c.get_mut.follows.lender w) c.remove-2.new.self c.args.element (Some w) None turns c.remove-2.ensures.updates.0)
    (λ p. sym (c.remove.ensures.none c.if-remove.false p)
    ∙ ap (λ b. not (p == c.args.place) && b) (places_found m c.args.element (Some c.in-Some.kept.now) c.in-Some.ensures.value p))
    ∙ ap (λ (l : Listed). remove l (c.args.element, c.args.place)) c.self.view_is
