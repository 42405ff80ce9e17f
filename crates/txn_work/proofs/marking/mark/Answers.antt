use Rattle.std.proofs.Common.{◌≡◌, ap, rules, ◌∙◌}
use Rattle.txn_commands.specs.Elements.{with_elements}
use Rattle.txn_work.specs.Marking.{HasNone, missing_in, without_elements}
use Rattle.txn_work.proofs.Marks.{all_undone, missing_added, missing_none}
use Rattle.txn_work.proofs.marking.mark.Goals as goal

pub add_all-requires : goal.add_all-requires
add_all-requires c =
    let fresh : c.deref.result.now ≡ missing_in c.args.footprint.now c.args.elements.now = search rules in
    rw fresh (missing_none c.args.footprint.now c.args.elements.now)

pub returns-in-Ok-clause-footprint : goal.returns-in-Ok-clause-footprint
returns-in-Ok-clause-footprint c =
    let fresh : c.deref.result.now ≡ missing_in c.args.footprint.now c.args.elements.now = search rules in
    let added : c.add_all.new.footprint ≡ with_elements c.args.footprint.now c.deref.result.now = search rules in
    added ∙ ap (with_elements c.args.footprint.now) fresh ∙ missing_added c.args.footprint.now c.args.elements.now

pub returns-clause-err : goal.returns-clause-err
returns-clause-err c =
    let fresh : c.deref.result.now ≡ missing_in c.args.footprint.now c.args.elements.now = search rules in
    let same : c.deref-in-Err.result.now ≡ c.deref.result.now = search rules in
    let added : c.add_all.new.footprint ≡ with_elements c.args.footprint.now c.deref.result.now = search rules in
    let none : HasNone c.args.footprint.now c.deref.result.now = rw fresh (missing_none c.args.footprint.now c.args.elements.now) in
    let gone : c.remove_all.new.footprint ≡ without_elements c.add_all.new.footprint c.deref.result.now = search rules in (
      gone ∙ ap (λ t. without_elements t c.deref.result.now) added ∙ all_undone c.args.footprint.now c.deref.result.now none,
      search rules,
    )
