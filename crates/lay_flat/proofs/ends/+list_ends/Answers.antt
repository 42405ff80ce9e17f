use Rattle.std.proofs.Common.{◌≡◌, ◌∙◌, ◌++◌, ◌-◌, ◌∷◌, [], List, ap, append_assoc, sym}
use Rattle.std.specs.Prelude.{flat_map}
use Rattle.lay_cells.specs.declared.cell_id.CellId.TheVariants.{Symbol}
use Rattle.lay_layouts.specs.Layout.{Layout}
use Rattle.lay_layouts.specs.Lent.{LentCall, calls_in}
use Rattle.lay_flat.specs.declared.ends.End.{End}
use Rattle.lay_flat.specs.Ends.{ends_within, turn_after}
use Rattle.lay_flat.proofs.LayoutWalks.{ends-more, ends-none}
use Rattle.lay_flat.proofs.ends.+list_ends.Goals as goal

pub returns-then-calls-eq0-clause-ends : goal.returns-then-calls-eq0-clause-ends
returns-then-calls-eq0-clause-ends t c =
    c.in_ok-push.ensures.items
    ∙ ap (λ (es : List End). c.args.ends.now.items ++ es) (sym (ends-none c.args.lists.now c.args.calls c.args.cell c.args.turn
    c.if-calls-eq0.true))

-- the whole list is left
pub loop-call-init : goal.loop-call-init
loop-call-init t c =
    let layout : Layout = c.args.lists.now in
    let behind : List LentCall → List End = λ cs. flat_map (λ (call : LentCall). ends_within layout (c.args.calls - 1) (Symbol call.1)
    (turn_after c.args.turn call.2)) cs in
    let first : End = record { cell = c.args.cell; turn = c.args.turn } in
    let read : c.as_slice-here.result.now ≡ calls_in layout c.args.cell = c.as_slice-here.ensures ∙ c.in_ok-list.ensures.list in
    record {
      rest = ap (λ (es : List End). es ++ behind c.as_slice-here.result.now) c.in_ok-push.ensures.items
          ∙ append_assoc c.args.ends.now.items (first ∷ []) (behind c.as_slice-here.result.now)
          ∙ ap (λ (es : List End). c.args.ends.now.items ++ es) (ap (λ (cs : List LentCall). first ∷ behind cs) read
          ∙ sym (ends-more layout c.args.calls c.args.cell c.args.turn c.if-calls-eq0.false));
      same = c.in_ok-list.ensures.same;
    }
