use Rattle.std.proofs.Common.{◌≡◌, ◌∙◌, false, List, ◌∷◌, ap, subst, sym}
use Rattle.lay_items.specs.Runs.{AreLent, HeldItem, group_in, of_group, same_group}
use Rattle.lay_items.proofs.RunLemmas.{IsJump, goes_on, jump_gives, lent_after, lent_jump, lent_tail, next_jump}
use Rattle.lay_items.proofs.iter.OfGroupIterator.next.Goals as goal

-- the next item is of the group
pub invariant_of-self-then-is_in : goal.invariant_of-self-then-is_in
invariant_of-self-then-is_in c =
    let i = c.self.inside in
    lent_tail i.by i.marks.now i.items.now (c.in_ok-id.id, c.in_ok-id.item.now) c.next.new.self
    (subst (λ (es : List HeldItem). AreLent i.by i.marks.now i.items.now es) c.in_ok-id.ensures.steps c.self.invariant)

-- it is of another, so the group's next run is looked for
lent : (c : goal.After-next-2)
    → AreLent c.self.inside.by c.self.inside.marks.now c.self.inside.items.now ((c.in_ok-id.id, c.in_ok-id.item.now) ∷ c.next.new.self)
lent c =
    let i = c.self.inside in
    subst (λ (es : List HeldItem). AreLent i.by i.marks.now i.items.now es) c.in_ok-id.ensures.steps c.self.invariant

jump : (c : goal.After-next-2)
    → IsJump c.self.inside.by c.self.inside.group c.self.inside.items.now ((c.in_ok-id.id, c.in_ok-id.item.now) ∷ c.next.new.self)
    c.from_next-self-inside.result
jump c =
    let i = c.self.inside in
    let x : HeldItem = (c.in_ok-id.id, c.in_ok-id.item.now) in
    let other : same_group (group_in i.by x.1) i.group ≡ false = sym c.is_in.ensures ∙ c.if-is_in.false in
    subst (λ (es : List HeldItem). IsJump i.by i.group i.items.now (x ∷ c.next.new.self) es) (sym c.from_next-self-inside.ensures)
    (next_jump i.by i.group i.marks.now i.items.now x c.next.new.self (lent c) other)

pub invariant_of-self-2 : goal.invariant_of-self-2
invariant_of-self-2 c =
    let i = c.self.inside in
    let x : HeldItem = (c.in_ok-id.id, c.in_ok-id.item.now) in
    lent_after (λ entry. (entry.0, entry.1.now)) c.next-2.result i.by i.marks.now i.items.now c.from_next-self-inside.result
    c.next-2.new.self c.next-2.ensures.steps
    (lent_jump i.by i.group i.marks.now i.items.now (x ∷ c.next.new.self) c.from_next-self-inside.result (lent c) (jump c))

pub returns-clause-steps : goal.returns-clause-steps
returns-clause-steps c =
    let i = c.self.inside in
    let x : HeldItem = (c.in_ok-id.id, c.in_ok-id.item.now) in
    jump_gives (λ entry. (entry.0, entry.1.now)) c.next-2.result i.by i.group i.items.now (x ∷ c.next.new.self)
    c.from_next-self-inside.result c.next-2.new.self c.args.self.now (jump c)
    (sym (ap (of_group i.by i.group) c.in_ok-id.ensures.steps) ∙ c.self.view_is) c.next-2.ensures.steps

pub returns-clause-goes : goal.returns-clause-goes
returns-clause-goes c =
    let i = c.self.inside in
    goes_on (λ entry. (entry.0, entry.1.now)) (λ left. left) c.args.self.now c.next-2.result (of_group i.by i.group c.next-2.new.self) tt
    (returns-clause-steps c)
