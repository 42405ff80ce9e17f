use Rattle.std.proofs.Common.{◌∙◌, ◌<◌, ◌↔◌, ℕ, Contains, ap, map, rules, sym, subst, length}
use Rattle.std.proofs.lemmas.List.{places, with_items_is}
use Rattle.snap_slabs.specs.Runs.{IsRowBefore, centres_at, number_of}
use Rattle.lay_point.specs.Rising.{IsRising}
use Rattle.snap_slabs.proofs.KeyOrder.{rows_rise, rows_have}
use Rattle.snap_slabs.proofs.rows.rows_of.Goals as goal

pub returns-clause-by_row : goal.returns-clause-by_row
returns-clause-by_row g c =
    let all = with_items_is c.in_ok-keys.keys c.sort_in_threads.new.elements (search (rules, places)) in
    let moved = rw c.as_mut_slice.ensures.value at c.sort_in_threads.ensures.permutation in
    subst (λ l. IsRising IsRowBefore (centres_at c.args.centres.now l))
    (sym (c.in_ok-rows.ensures ∙ ap (map number_of) c.as_slice.ensures.value))
    (rows_rise c.args.centres.now c.requires.rising c.requires.few c.in_ok-keys.ensures.rows _ _ _ c.in_ok-keys.ensures.keys moved
    c.sort_once.ensures.increasing (rw all at c.sort_once.ensures.members))

pub returns-clause-members : goal.returns-clause-members
returns-clause-members g c =
    let all = with_items_is c.in_ok-keys.keys c.sort_in_threads.new.elements (search (rules, places)) in
    let moved = rw c.as_mut_slice.ensures.value at c.sort_in_threads.ensures.permutation in
    subst (λ l. (i : ℕ) → Contains l i ↔ i < length c.args.centres.now)
    (sym (c.in_ok-rows.ensures ∙ ap (map number_of) c.as_slice.ensures.value))
    (rows_have c.args.centres.now c.requires.rising c.requires.few c.in_ok-keys.ensures.rows _ _ _ c.in_ok-keys.ensures.keys moved
    c.sort_once.ensures.increasing (rw all at c.sort_once.ensures.members))
