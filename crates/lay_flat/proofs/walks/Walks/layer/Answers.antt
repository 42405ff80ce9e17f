use Rattle.std.proofs.Common.{◌∙◌, ◌||◌, ◌≡◌, true, false, not, Err, List, Ok, ap, is_none, rules, subst, sym}
use Rattle.std.specs.List.{list_all, list_any}
use Rattle.lay_point.specs.Memory.{IsAnswer}
use Rattle.lay_flat.specs.declared.ends.End.{End}
use Rattle.lay_flat.specs.declared.fault.FlatFault.TheVariants.{NoMemory, OutOfRange}
use Rattle.lay_flat.specs.Flat.{FlatRing, is_within}
use Rattle.lay_flat.specs.Flattening.{flat_of, rings_at}
use Rattle.lay_flat.specs.Walked.{Start}
use Rattle.lay_flat.proofs.Answered.{many_from, outside_from, within_from}
use Rattle.lay_flat.proofs.walks.Walks.layer.Goals as goal
use Rattle.lay_flat.proofs.walks.Walks.layer.Goals.{then-self-via-then-self}
use Rattle.lay_flat.proofs.walks.Walks.layer.Goals.{then-self-via-else-self+then-not-are_within}

pub returns-in_err-rings : goal.returns-in_err-rings
returns-in_err-rings c =
    let w = c.self.inside in
    let fact : IsAnswer {T = List FlatRing} NoMemory (Err c.in_err-rings.field-0.0)
    (flat_of c.args.self.now.layout c.args.self.now.cell c.args.layer.now) =
    subst (λ (s : Start). IsAnswer {T = List FlatRing} NoMemory (Err c.in_err-rings.field-0.0)
    (flat_of s.layout s.cell c.args.layer.now)) c.self.view_is
    (many_from w.snapshot.now w.cell c.args.layer.now c.deref.result.now _ c.self.invariant.there c.self.invariant.passed
    (c.deref.ensures.value ∙ c.self.invariant.all) c.in_err-rings.ensures.err) in
    search (rules, fact)

pub returns-then-self : goal.returns-then-self
returns-then-self c =
    let w = c.self.inside in
    let rings : List FlatRing = c.in_ok-rings.rings.items in
    let lent = c.in_ok-rings.ensures.ok ∙ ap (rings_at w.snapshot.now c.args.layer.now) c.deref.ensures.value in
    subst (λ (s : Start). IsAnswer {T = List FlatRing} NoMemory (Err OutOfRange) (flat_of s.layout s.cell c.args.layer.now))
    c.self.view_is
    (outside_from w.snapshot.now w.cell c.args.layer.now w.ends.items rings c.self.invariant.there c.self.invariant.passed
    c.self.invariant.all lent c.in_ok-rings.ensures.few
    (elim c.then-self.branch [
      | then-self-via-then-self v ↦
          ap (λ b. b || not (list_all is_within rings)) (sym c.self.invariant.turns ∙ v.if-self.true)
      | then-self-via-else-self+then-not-are_within v ↦
          let all : list_all is_within rings ≡ false =
          ap (list_all is_within) (sym v.deref-else-self.ensures.value) ∙ sym v.are_within.ensures ∙ v.if-not-are_within.true in
          (λ i. (sym c.self.invariant.turns ∙ v.if-self.false) i || not (all i))
    ]))

pub returns : goal.returns
returns c =
    let w = c.self.inside in
    let rings : List FlatRing = c.in_ok-rings.rings.items in
    let lent = c.in_ok-rings.ensures.ok ∙ ap (rings_at w.snapshot.now c.args.layer.now) c.deref.ensures.value in
    let none : list_any (λ (end : End). is_none end.turn) w.ends.items ≡ false = sym c.self.invariant.turns ∙ c.if-self.false in
    let all : list_all is_within rings ≡ true =
    ap (list_all is_within) (sym c.deref-else-self.ensures.value) ∙ sym c.are_within.ensures ∙ c.if-not-are_within.false in
    subst (λ (s : Start). IsAnswer {T = List FlatRing} NoMemory (Ok rings) (flat_of s.layout s.cell c.args.layer.now)) c.self.view_is
    (within_from w.snapshot.now w.cell c.args.layer.now w.ends.items rings c.self.invariant.there c.self.invariant.passed
    c.self.invariant.all lent c.in_ok-rings.ensures.few (λ i. none i || not (all i)))
