use Rattle.std.proofs.Common.{◌≡◌, ℕ, ◌<◌, ◌++◌, ◌∷◌, [], false, List, Contains, length, arith, rules, replicate, ap, sym, subst, ◌∙◌}
use Rattle.std.proofs.lemmas.List.{length-map}
use Rattle.std.specs.Global.{Vec}
use Rattle.lay_cells.specs.Graph.{row, rows_of}
use Rattle.lay_cells.specs.Marks.{IsSearch, MarksAll}
use Rattle.lay_cells.proofs.GraphLemmas.{row_read}
use Rattle.lay_cells.proofs.MarkLemmas.{pending_within, search_begins, search_ends, search_goes_on}
use Rattle.lay_cells.proofs.search.reached.Goals as goal

pub loop-position-init : goal.loop-position-init
loop-position-init c =
    let len : length (rows_of c.args.rows.now.items) ≡ c.len.result =
    omega (arith, length-map c.args.rows.now.items (λ (v : Vec ℕ). v.items), c.len.ensures, c.args.rows.now.ok) in
    let made : c.in_ok-marks.marks.items ≡ replicate c.len.result false = search rules in
    let marks : c.in_ok-marks.marks.items ≡ replicate (length (rows_of c.args.rows.now.items)) false =
    made ∙ ap (λ (n : ℕ). replicate n false) (sym len) in
    let pushed : c.push.new.self.items ≡ c.new-pending.result.items ++ c.args.start ∷ [] = c.in_ok-push.ensures.items in
    let pending : c.push.new.self.items ≡ c.args.start ∷ [] =
    pushed ∙ ap (λ (xs : List ℕ). xs ++ c.args.start ∷ []) c.new-pending.ensures.items in
    rw (marks, pending) (search_begins (rows_of c.args.rows.now.items) c.args.start c.requires.start)

pub index-requires : goal.index-requires
index-requires c =
    let rows : List (List ℕ) = rows_of c.args.rows.now.items in
    let before : IsSearch rows c.args.start c.loop-position.marks.items (c.pop.new.self.items ++ c.in-Some.position ∷ []) =
    subst (λ (xs : List ℕ). IsSearch rows c.args.start c.loop-position.marks.items xs) c.in-Some.ensures.items c.loop-position.invariant in
    let within : c.in-Some.position < length c.args.rows.now.items =
    omega (
      arith,
      pending_within rows c.args.start c.loop-position.marks.items c.pop.new.self.items c.in-Some.position before,
      length-map c.args.rows.now.items (λ (v : Vec ℕ). v.items),
    ) in
    search (rules, within)

pub mark_all-requires : goal.mark_all-requires
mark_all-requires c =
    let rows : List (List ℕ) = rows_of c.args.rows.now.items in
    let before : IsSearch rows c.args.start c.loop-position.marks.items (c.pop.new.self.items ++ c.in-Some.position ∷ []) =
    subst (λ (xs : List ℕ). IsSearch rows c.args.start c.loop-position.marks.items xs) c.in-Some.ensures.items c.loop-position.invariant in
    let within = pending_within rows c.args.start c.loop-position.marks.items c.pop.new.self.items c.in-Some.position before in
    let slice : c.as_slice.result.now ≡ row rows c.in-Some.position =
    c.as_slice.ensures.value ∙ row_read c.args.rows.now.items c.in-Some.position c.index.result.now within c.index.ensures in
    λ q h.
    let known = c.requires.within c.in-Some.position q (subst (λ (xs : List ℕ). Contains xs q) slice h) in
    omega (arith, known, c.loop-position.invariant.whole)

-- the targets of a pending cell
pub loop-position-preserved : goal.loop-position-preserved
loop-position-preserved c =
    let rows : List (List ℕ) = rows_of c.args.rows.now.items in
    let before : IsSearch rows c.args.start c.loop-position.marks.items (c.pop.new.self.items ++ c.in-Some.position ∷ []) =
    subst (λ (xs : List ℕ). IsSearch rows c.args.start c.loop-position.marks.items xs) c.in-Some.ensures.items c.loop-position.invariant in
    let within = pending_within rows c.args.start c.loop-position.marks.items c.pop.new.self.items c.in-Some.position before in
    let slice : c.as_slice.result.now ≡ row rows c.in-Some.position =
    c.as_slice.ensures.value ∙ row_read c.args.rows.now.items c.in-Some.position c.index.result.now within c.index.ensures in
    search_goes_on rows c.args.start c.loop-position.marks.items c.pop.new.self.items c.in-Some.position
    c.mark_all.new.marks.items c.mark_all.new.pending.items before
    (subst (λ (xs : List ℕ). MarksAll xs c.loop-position.marks.items c.pop.new.self.items c.mark_all.new.marks.items
    c.mark_all.new.pending.items) slice c.in_ok-mark_all.ensures)

pub returns : goal.returns
returns c =
    let rows : List (List ℕ) = rows_of c.args.rows.now.items in
    let none : c.loop-position.pending.items ≡ [] = search rules in
    search_ends rows c.args.start c.loop-position.marks.items
    (subst (λ (xs : List ℕ). IsSearch rows c.args.start c.loop-position.marks.items xs) none c.loop-position.invariant)
