use Rattle.std.proofs.Common.{◌≡◌, ℕ, List, [], ◌∷◌, ◌++◌, slice_set, ap, ◌∙◌, OnErr, Result, Ok, Err}
use Rattle.std.proofs.Math.Seq.{map-set_same}
use Rattle.std.proofs.lemmas.List.{map-set}
use Rattle.std.specs.Global.{Vec}
use Rattle.lay_cells.specs.Graph.{row, rows_of}
use Rattle.lay_cells.proofs.GraphLemmas.{row_read}
use Rattle.lay_cells.proofs.call_graph.add_to_row.Goals as goal

on_err : {T E P : Type 0} (r : Result T E) → P → OnErr r P
on_err (Ok x) p = tt
on_err (Err e) p = p

-- a push that is refused leaves the row
pub returns-in_err-push-clause-err : goal.returns-in_err-push-clause-err
returns-in_err-push-clause-err c =
    let kept : c.push.new.self.items ≡ c.index_mut.result.now.items = c.in_err-push.ensures.items in
    on_err c.from_residual.result (map-set_same (λ (v : Vec ℕ). v.items) c.args.rows.now.items c.args.position c.push.new.self
    c.index_mut.result.now (kept ∙ ap (λ (v : Vec ℕ). v.items) c.index_mut.ensures.value))

-- the row that is written is the old one and the target
pub returns-clause-ok : goal.returns-clause-ok
returns-clause-ok c =
    let rows : List (List ℕ) = rows_of c.args.rows.now.items in
    let pushed : c.push.new.self.items ≡ c.index_mut.result.now.items ++ c.args.target ∷ [] = c.in_ok-push.ensures.items in
    let old : c.index_mut.result.now.items ≡ row rows c.args.position =
    row_read c.args.rows.now.items c.args.position c.index_mut.result.now c.requires c.index_mut.ensures.value in
    map-set (λ (v : Vec ℕ). v.items) c.args.rows.now.items c.args.position c.push.new.self
    ∙ ap (λ (r : List ℕ). slice_set rows c.args.position r) (pushed ∙ ap (λ (xs : List ℕ). xs ++ c.args.target ∷ []) old)
