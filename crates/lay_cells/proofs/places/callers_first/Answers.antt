use Rattle.std.proofs.Common.{◌≡◌, ℕ, ◌<◌, ◌++◌, ◌∷◌, [], List, Contains, length, arith, rules, ap, sym, subst, ◌∙◌}
use Rattle.std.proofs.lemmas.List.{length-map}
use Rattle.std.specs.Global.{Vec}
use Rattle.lay_cells.specs.declared.places.Mark.{Mark}
use Rattle.lay_cells.specs.Graph.{row, rows_of}
use Rattle.lay_cells.specs.Places.{AreBelow}
use Rattle.lay_cells.proofs.GraphLemmas.{row_read}
use Rattle.lay_cells.proofs.PlaceLemmas.{AreBelow-front, AreBelow-last, AreBelow-nil}
use Rattle.lay_cells.proofs.places.callers_first.Goals as goal
use Rattle.lay_cells.proofs.places.callers_first.Goals.{in-Some+in_ok-visit, in_default}

pub loop-turn-init : goal.loop-turn-init
loop-turn-init c =
    let end : c.len-2.result ≡ length c.args.rows.now.items = search rules in
    let none : c.new-path.result.items ≡ [] = c.new-path.ensures.items in
    record {
      len = search rules;
      pending = subst (λ (n : ℕ). AreBelow c.in_ok-pending.pending.items n) end c.in_ok-pending.ensures;
      path = subst (λ (xs : List ℕ). AreBelow xs (length c.args.rows.now.items)) (sym none) (AreBelow-nil _);
    }

pub index-requires : goal.index-requires
index-requires c =
    let before : AreBelow (c.pop.new.self.items ++ c.in-Some.position ∷ []) (length c.args.rows.now.items) =
    subst (λ (xs : List ℕ). AreBelow xs (length c.args.rows.now.items)) c.in-Some.ensures.items c.loop-turn.invariant.pending in
    let inside : c.in-Some.position < length c.args.rows.now.items = AreBelow-last c.pop.new.self.items c.in-Some.position _ before in
    search (rules, inside)

pub visit-requires-clause-position : goal.visit-requires-clause-position
visit-requires-clause-position c =
    let before : AreBelow (c.pop.new.self.items ++ c.in-Some.position ∷ []) (length c.args.rows.now.items) =
    subst (λ (xs : List ℕ). AreBelow xs (length c.args.rows.now.items)) c.in-Some.ensures.items c.loop-turn.invariant.pending in
    let inside : c.in-Some.position < length c.loop-turn.marks.items =
    omega (arith, AreBelow-last c.pop.new.self.items c.in-Some.position _ before, c.loop-turn.invariant.len) in
    inside

-- the targets are those of a row
pub visit-requires-clause-row : goal.visit-requires-clause-row
visit-requires-clause-row c =
    let before : AreBelow (c.pop.new.self.items ++ c.in-Some.position ∷ []) (length c.args.rows.now.items) =
    subst (λ (xs : List ℕ). AreBelow xs (length c.args.rows.now.items)) c.in-Some.ensures.items c.loop-turn.invariant.pending in
    let len = length-map c.args.rows.now.items (λ (v : Vec ℕ). v.items) in
    let within : c.in-Some.position < length (rows_of c.args.rows.now.items) =
    omega (arith, AreBelow-last c.pop.new.self.items c.in-Some.position _ before, len) in
    let slice : c.as_slice-row.result.now ≡ row (rows_of c.args.rows.now.items) c.in-Some.position =
    c.as_slice-row.ensures.value ∙ row_read c.args.rows.now.items c.in-Some.position c.index.result.now within c.index.ensures in
    let below : AreBelow c.as_slice-row.result.now (length c.loop-turn.marks.items) =
    λ q h.
    let known = c.requires c.in-Some.position q (subst (λ (xs : List ℕ). Contains xs q) slice h) in
    omega (arith, known, len, c.loop-turn.invariant.len) in
    below

pub visit-requires-clause-pending : goal.visit-requires-clause-pending
visit-requires-clause-pending c =
    let before : AreBelow (c.pop.new.self.items ++ c.in-Some.position ∷ []) (length c.loop-turn.marks.items) =
    subst (λ (n : ℕ). AreBelow (c.pop.new.self.items ++ c.in-Some.position ∷ []) n) (sym c.loop-turn.invariant.len)
    (subst (λ (xs : List ℕ). AreBelow xs (length c.args.rows.now.items)) c.in-Some.ensures.items c.loop-turn.invariant.pending) in
    AreBelow-front c.pop.new.self.items c.in-Some.position _ before

pub visit-requires-clause-path : goal.visit-requires-clause-path
visit-requires-clause-path c =
    let below : AreBelow c.loop-turn.path.items (length c.loop-turn.marks.items) =
    subst (λ (n : ℕ). AreBelow c.loop-turn.path.items n) (sym c.loop-turn.invariant.len) c.loop-turn.invariant.path in
    below

pub loop-turn-preserved : goal.loop-turn-preserved
loop-turn-preserved c = elim c.match-pop.branch [
  | in-Some+in_ok-visit w ↦
      let marks : c.match-pop.marks.items ≡ w.visit.new.marks.items = ap (λ (v : Vec Mark). v.items) w.marks-is in
      let pending : c.match-pop.pending.items ≡ w.visit.new.pending.items = ap (λ (v : Vec ℕ). v.items) w.pending-is in
      let path : c.match-pop.path.items ≡ w.visit.new.path.items = ap (λ (v : Vec ℕ). v.items) w.path-is in
      record {
        len = ap (λ (xs : List Mark). length xs) marks ∙ (w.in_ok-visit.ensures.len ∙ c.loop-turn.invariant.len);
        pending = rw pending (subst (λ (n : ℕ). AreBelow w.visit.new.pending.items n) c.loop-turn.invariant.len
            w.in_ok-visit.ensures.pending);
        path = rw path (subst (λ (n : ℕ). AreBelow w.visit.new.path.items n) c.loop-turn.invariant.len w.in_ok-visit.ensures.path);
      }
  | in_default w ↦
      let marks : c.match-pop.marks.items ≡ c.loop-turn.marks.items = ap (λ (v : Vec Mark). v.items) w.marks-is in
      let none : c.match-pop.pending.items ≡ [] = search rules in
      let path : c.match-pop.path.items ≡ c.loop-turn.path.items = ap (λ (v : Vec ℕ). v.items) w.path-is in
      record {
        len = ap (λ (xs : List Mark). length xs) marks ∙ c.loop-turn.invariant.len;
        pending = rw none (AreBelow-nil _);
        path = rw path c.loop-turn.invariant.path;
      }
]
