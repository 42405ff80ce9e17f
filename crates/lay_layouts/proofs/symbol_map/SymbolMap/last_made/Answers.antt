use Rattle.std.proofs.Common.{◌≡◌, ◌∙◌, ◌+◌, ℕ, Option, Some, None, ap, arith, get_or, length, rules, subst, sym}
use Rattle.std.proofs.lemmas.Option.{slice_get-get_or}
use Rattle.lay_layouts.specs.SlotOrder.{AreMadeUpTo, in_slot_order}
use Rattle.lay_layouts.proofs.MadeLemmas.{last_base, last_made, last_slot, none_made}
use Rattle.lay_layouts.proofs.symbol_map.SymbolMap.last_made.Goals as goal

-- there is no symbol
pub returns-in_err-position : goal.returns-in_err-position
returns-in_err-position c =
    subst (AreMadeUpTo c.args.self.now) (sym c.from_residual.ensures)
    (none_made c.args.self.now c.self.inside.cells (c.self.invariant ∙ ap in_slot_order c.self.view_is)
    (omega (arith, c.len.ensures.value, c.in_err-position.ensures)))

-- the last position has a number
pub returns-in_err-last : goal.returns-in_err-last
returns-in_err-last c =
    let len : length c.self.inside.cells ≡ c.in_ok-position.position + 1 = search rules in
    let number : ℕ = get_or c.self.inside.cells c.in_ok-position.position 0 in
    let no : ◌≡◌ {A = Option ℕ} None (Some number) =
    c.in_err-last.ensures ∙ slice_get-get_or c.self.inside.cells c.in_ok-position.position 0 (omega (arith, len)) in
    absurd cc

-- and that has a slot
pub returns-in_err-get : goal.returns-in_err-get
returns-in_err-get c =
    absurd (last_slot c.args.self.now c.self.inside.cells (c.self.invariant ∙ ap in_slot_order c.self.view_is) c.in_ok-position.position
    c.in_ok-last.last (search rules) (search rules) (search rules))

pub returns-in-Made : goal.returns-in-Made
returns-in-Made c =
    last_made c.args.self.now c.self.inside.cells (c.self.invariant ∙ ap in_slot_order c.self.view_is) c.in_ok-position.position
    c.in_ok-last.last (search rules) (search rules) (search rules)

pub returns-in-Base : goal.returns-in-Base
returns-in-Base c =
    last_base c.args.self.now c.self.inside.cells (c.self.invariant ∙ ap in_slot_order c.self.view_is) c.in_ok-position.position
    c.in_ok-last.last (search rules) (search rules) c.in-Base.field-0 (search rules)
