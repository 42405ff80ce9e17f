use Rattle.std.proofs.Common.{◌≡◌, ℕ, List, ◌++◌, ◌∷◌, [], length, sym, subst}
use Rattle.std.proofs.lemmas.List.{length-set}
use Rattle.lay_cells.specs.Places.{AreBelow}
use Rattle.lay_cells.proofs.PlaceLemmas.{AreBelow-push}
use Rattle.lay_cells.proofs.places.open.Goals as goal

pub push_new-requires-clause-row : goal.push_new-requires-clause-row
push_new-requires-clause-row c =
    subst (λ (n : ℕ). AreBelow c.args.row.now n) (sym (length-set c.args.marks.now.items c.args.position _)) c.requires.row

pub push_new-requires-clause-pending : goal.push_new-requires-clause-pending
push_new-requires-clause-pending c =
    let pushed : c.push-2.new.self.items ≡ c.args.pending.now.items ++ c.args.position ∷ [] = c.in_ok-push-2.ensures.items in
    subst (λ (n : ℕ). AreBelow c.push-2.new.self.items n) (sym (length-set c.args.marks.now.items c.args.position _))
    (subst (λ (xs : List ℕ). AreBelow xs (length c.args.marks.now.items)) (sym pushed)
    (AreBelow-push c.args.pending.now.items c.args.position _ c.requires.pending c.requires.position))

pub returns-clause-pending : goal.returns-clause-pending
returns-clause-pending c =
    subst (λ (n : ℕ). AreBelow c.push_new.new.pending.items n) (length-set c.args.marks.now.items c.args.position _)
    c.in_ok-push_new.ensures

pub returns-clause-path : goal.returns-clause-path
returns-clause-path c =
    let pushed : c.push.new.self.items ≡ c.args.path.now.items ++ c.args.position ∷ [] = c.in_ok-push.ensures.items in
    subst (λ (xs : List ℕ). AreBelow xs (length c.args.marks.now.items)) (sym pushed)
    (AreBelow-push c.args.path.now.items c.args.position _ c.requires.path c.requires.position)
